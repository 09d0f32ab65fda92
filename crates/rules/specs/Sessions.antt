-- Document 01, sessions worked through: R1 to R3, J1's record and tally, a placing that fills span 2, and each refusal at its edge with
-- the order of the checks, for the calls, the opening and the guide alone; lanes of registrations
-- that are placed at once and that wait (document 02, M-104). Computed from the definitions.
use Rattle.std.specs.Prelude.{◌≡◌, refl, List, [], ◌∷◌, ◌++◌, map, false, ℕ, ◌-◌, ◌^◌, length, take, replicate}
use Rattle.std.proofs.Math.Option.{Option, some, none}
use Rattle.rules.specs.Guide.{Loc, Item, Entry, parallelism, parallelism_by, last_parallelism, annotate, released, fresh, release, flush as flush_guide, seek, found, begin}
use Rattle.rules.specs.Guide.{choose, put, settle, apply, place, tallied, tally}
use Rattle.rules.specs.Model.{Model, initial, member, marked, tracked, run_from, watermark, greatest, ready, loc_of, later, top, after, spotted, reg_of, place_one, due}
use Rattle.rules.specs.Model.{left, queue, keep, push, off, rest, with_set, with_add, cascade, settle_all, do_set, do_add, with_record, note_add, note_flush, note_final}
use Rattle.rules.specs.Model.{with_flush, do_flush, do_final, registrations}
use Rattle.rules.specs.Checks.{verdict, any, repeats, written_by, taken, pooled, check_range, too_short, check_open, check_closed, check_places, check_set, check_add, check_flush, check_final}
use Rattle.rules.specs.Calls.{Call, set, add, flush, final, checks, answer, apply_call, unless_refused, step, run, answers}
use Rattle.rules.specs.Record.{Row, unfilled, fill, row_after, row_of}
use Rattle.rules.specs.Alone.{Alone, pushed, alone, check_alone, holds, stray, worn, check_push, check_flush_alone, push as push_request, flush as flush_request, requests, reply}
use Rattle.rules.specs.Alone.{serve, serve_step, serve_all, replies}

-- of each entry of the order: added, accepted and parallelism
entry : Entry → List ℕ
entry e = e.item.added ∷ e.item.accepted ∷ e.parallelism ∷ []

order_of : ℕ → ℕ → List Call → List (List ℕ)
order_of P N cs = map entry (run P N 100 cs initial).guide.order

-- the registrations in the order of their placing, after a final
placed : ℕ → List Call → List ℕ
placed N cs = map (λ e. e.item.added) (run 2 N 100 cs initial).guide.order

waiting : ℕ → List Call → List ℕ
waiting N cs = map (λ w. w.reg) (run 2 N 100 cs initial).pending

abbrev pub one : ℕ → List ℕ
one x = x ∷ []

unfoldable pub J1 : List Call
J1 = set 0 ∷ add 0 (one 0) (one 1) ∷ add 0 (one 1) (one 2) ∷ add 0 (one 0) (one 3) ∷ add 0 [] (one 4) ∷ final ∷ []

-- set 1, set 2, in=2, in=1
before : List Call
before = set 1 ∷ set 2 ∷ add 0 (one 2) [] ∷ add 0 (one 1) [] ∷ []

-- R1: registration 1 is placed before 0; R2: with an add that writes 0 for `set 0` the order is 2, 0, 1; R3: in=2 waits until 0 and 1 are set
pub registrar_got : List (List ℕ)
registrar_got =
    placed 6 (before ++ (set 0 ∷ final ∷ []))
    ∷ placed 6 (before ++ (add 0 [] (one 0) ∷ final ∷ []))
    ∷ waiting 6 (set 2 ∷ add 0 (one 2) [] ∷ [])
    ∷ waiting 6 (set 2 ∷ add 0 (one 2) [] ∷ set 0 ∷ [])
    ∷ waiting 6 (set 2 ∷ add 0 (one 2) [] ∷ set 0 ∷ set 1 ∷ [])
    ∷ []

pub registrar_want : List (List ℕ)
registrar_want = (1 ∷ 0 ∷ []) ∷ (2 ∷ 0 ∷ 1 ∷ []) ∷ (0 ∷ []) ∷ (0 ∷ []) ∷ [] ∷ []

-- J1's entries, written, tally and counts; a session whose third placing fills span 2 (the released span is span 0 all the same)
third : List Call
third = add 0 [] (one 0) ∷ add 0 (one 0) (one 1) ∷ add 0 (one 0) (one 2) ∷ []

pub record_got : List (List (List ℕ))
record_got =
    order_of 2 6 J1
    ∷ ((run 2 6 100 J1 initial).recorded.written ∷ tally 2 (run 2 6 100 J1 initial).guide.order ∷ (registrations (run 2 6 100 J1 initial) ∷ (run 2 6 100 J1 initial).recorded.places ∷ []) ∷ [])
    ∷ (((run 2 6 100 third initial).guide.first ∷ map length (run 2 6 100 third initial).guide.spans) ∷ [])
    ∷ []

pub record_want : List (List (List ℕ))
record_want =
    ((0 ∷ 0 ∷ 2 ∷ []) ∷ (2 ∷ 2 ∷ 2 ∷ []) ∷ (1 ∷ 1 ∷ 2 ∷ []) ∷ (3 ∷ 3 ∷ 1 ∷ []) ∷ [])
    ∷ ((0 ∷ 0 ∷ 0 ∷ 4 ∷ []) ∷ (0 ∷ 1 ∷ 3 ∷ []) ∷ (4 ∷ 5 ∷ []) ∷ [])
    ∷ ((1 ∷ 1 ∷ 2 ∷ replicate 30 0) ∷ [])
    ∷ []

-- a session with f plain flushes done
flushed : ℕ → Model
flushed f = with_flush 2 f false initial

-- each refusal of the four calls at its edge, in the order of the checks (3 in rules/Edges and laws/LongLists); an accepted call gives 0
pub calls_got : List (List ℕ)
calls_got =
    -- 7 for all four
    answers 2 3 9 (final ∷ set 0 ∷ add 0 [] [] ∷ flush ∷ final ∷ []) initial
    -- 4 before 5; 5 at V; 8 for a place that is set
    ∷ answers 2 3 9 (set (2 ^ 62) ∷ set 3 ∷ set 2 ∷ set 2 ∷ []) initial
    -- 4, 5, 6 before 8; 8 for an output that is set, written, or promised by one that waits
    ∷ answers 2 3 9 (add 0 (one (2 ^ 62)) (one 3) ∷ add 0 (one 3) (0 ∷ 0 ∷ []) ∷ set 0 ∷ add 0 [] (0 ∷ 0 ∷ []) ∷ add 0 [] (one 0) ∷ add 0 (one 2) (one 1) ∷ add 0 [] (one 1) ∷ set 1 ∷ []) initial
    -- 9 once V are accepted, before 10
    ∷ answers 2 2 1 (add 0 [] [] ∷ add 0 [] [] ∷ add 0 (0 ∷ 0 ∷ []) [] ∷ []) initial
    -- 10 past W, not at W; a refused one takes nothing
    ∷ answers 2 9 3 (add 0 (0 ∷ 0 ∷ []) (1 ∷ 2 ∷ []) ∷ add 0 [] (1 ∷ 2 ∷ []) ∷ add 0 [] (one 3) ∷ add 0 (one 1) [] ∷ add 0 [] [] ∷ []) initial
    -- 12 with one waiting
    ∷ answers 2 3 9 (add 0 (one 0) [] ∷ final ∷ set 0 ∷ final ∷ []) initial
    -- 11 with 65,535 plain flushes done; final still runs
    ∷ (answer 3 9 flush (flushed 65534) ∷ answer 3 9 flush (flushed 65535) ∷ answer 3 9 final (flushed 65535) ∷ [])
    -- an accepted plain flush counts, and the 65,535th is the last that is accepted; final counts none
    ∷ answers 2 3 9 (flush ∷ flush ∷ final ∷ []) (flushed 65534)
    ∷ ((run 2 3 9 (flush ∷ []) initial).flushes ∷ (run 2 3 9 (flush ∷ flush ∷ []) (flushed 65534)).flushes ∷ (run 2 3 9 (flush ∷ final ∷ []) initial).flushes ∷ [])
    ∷ []

pub calls_want : List (List ℕ)
calls_want =
    (0 ∷ 7 ∷ 7 ∷ 7 ∷ 7 ∷ [])
    ∷ (4 ∷ 5 ∷ 0 ∷ 8 ∷ [])
    ∷ (4 ∷ 5 ∷ 0 ∷ 6 ∷ 8 ∷ 0 ∷ 8 ∷ 8 ∷ [])
    ∷ (0 ∷ 0 ∷ 9 ∷ [])
    ∷ (10 ∷ 0 ∷ 0 ∷ 10 ∷ 0 ∷ [])
    ∷ (0 ∷ 12 ∷ 0 ∷ 0 ∷ [])
    ∷ (0 ∷ 11 ∷ 0 ∷ [])
    ∷ (0 ∷ 11 ∷ 0 ∷ [])
    ∷ (1 ∷ 65535 ∷ 1 ∷ [])
    ∷ []

-- ---- lanes

-- of each entry of the order its registration and its lane, the same of what the first four spans hold, and of each row parallelism and lane
labels : List Item → List (List ℕ)
labels es = map (λ (e : Item). e.added ∷ e.lane ∷ []) es

order_labels : Model → List (List ℕ)
order_labels k = labels (map (λ (e : Entry). e.item) k.guide.order)

held_labels : Model → List (List (List ℕ))
held_labels k = map labels (take 4 k.guide.spans)

row_labels : List ℕ → Model → List (List ℕ)
row_labels rs k = map (λ (r : ℕ). let row : Row = row_of k r in row.parallelism ∷ row.lane ∷ []) rs

-- registration 0, in lane 3, waits for place 1, which registration 2, in lane 0, writes; registration 1 is in lane 255
labelled : List Call
labelled = add 3 (one 1) (one 2) ∷ add 255 [] (one 0) ∷ add 0 (one 0) (one 1) ∷ []

-- a held entry has its lane, and a row none until its entry is appended
pub lanes_got : List (List (List ℕ))
lanes_got =
    held_labels (run 2 6 100 labelled initial)
    ++ (order_labels (run 2 6 100 labelled initial)
    ∷ row_labels (0 ∷ 1 ∷ 2 ∷ []) (run 2 6 100 labelled initial)
    ∷ order_labels (run 2 6 100 (labelled ++ (final ∷ [])) initial)
    ∷ row_labels (0 ∷ 1 ∷ 2 ∷ 3 ∷ []) (run 2 6 100 (labelled ++ (final ∷ [])) initial)
    -- the guide alone writes lane 0
    ∷ labels (map (λ (e : Entry). e.item) (serve_all 2 6 (push_request none (pushed 7 8 9) ∷ flush_request ∷ []) alone).guide.order)
    ∷ [])

pub lanes_want : List (List (List ℕ))
lanes_want =
    []
    ∷ ((1 ∷ 255 ∷ []) ∷ [])
    ∷ ((2 ∷ 0 ∷ []) ∷ [])
    ∷ ((0 ∷ 3 ∷ []) ∷ [])
    ∷ []
    ∷ ((0 ∷ 0 ∷ []) ∷ (0 ∷ 0 ∷ []) ∷ (0 ∷ 0 ∷ []) ∷ [])
    ∷ ((1 ∷ 255 ∷ []) ∷ (2 ∷ 0 ∷ []) ∷ (0 ∷ 3 ∷ []) ∷ [])
    ∷ ((1 ∷ 3 ∷ []) ∷ (1 ∷ 255 ∷ []) ∷ (1 ∷ 0 ∷ []) ∷ (0 ∷ 0 ∷ []) ∷ [])
    ∷ ((8 ∷ 0 ∷ []) ∷ [])
    ∷ []

-- 18 over 255, up to the greatest number; after 7, and before 3, 4, 5, 6, 8, 9 and 10
pub lane_checks_got : List (List ℕ)
lane_checks_got =
    answers 2 3 9 (add 255 [] [] ∷ add 256 [] [] ∷ add (2 ^ 64 - 1) [] [] ∷ final ∷ add 256 [] [] ∷ []) initial
    ∷ answers 2 3 9 (add 256 (replicate 65536 9) [] ∷ []) initial
    ∷ answers 2 3 9 (add 256 (one (2 ^ 62)) [] ∷ add 256 (one 3) [] ∷ add 256 [] (0 ∷ 0 ∷ []) ∷ set 0 ∷ add 256 [] (one 0) ∷ add 255 [] (one 0) ∷ []) initial
    ∷ answers 2 1 9 (add 255 [] [] ∷ add 256 [] [] ∷ add 255 [] [] ∷ []) initial
    ∷ answers 2 3 0 (add 256 (one 0) [] ∷ add 255 (one 0) [] ∷ []) initial
    ∷ []

pub lane_checks_want : List (List ℕ)
lane_checks_want = (0 ∷ 18 ∷ 18 ∷ 0 ∷ 7 ∷ []) ∷ (18 ∷ []) ∷ (18 ∷ 18 ∷ 18 ∷ 0 ∷ 18 ∷ 8 ∷ []) ∷ (0 ∷ 18 ∷ 9 ∷ []) ∷ (18 ∷ 10 ∷ []) ∷ []

pub lanes : (lanes_got ≡ lanes_want) × (lane_checks_got ≡ lane_checks_want)
unfolding lanes_got lanes_want lane_checks_got lane_checks_want labels order_labels held_labels row_labels labelled parallelism parallelism_by last_parallelism annotate released
    fresh release flush_guide seek found begin choose put settle apply place initial member marked tracked run_from watermark greatest ready loc_of later top after spotted reg_of
    place_one due left queue keep push off rest with_set with_add cascade settle_all do_set do_add with_record note_add note_flush note_final with_flush do_flush do_final verdict
    any repeats written_by taken pooled check_closed check_places check_set check_add check_flush check_final checks answer apply_call unless_refused step run answers unfilled fill
    row_after row_of alone holds stray worn check_push check_flush_alone requests reply serve serve_step serve_all
lanes = (refl, refl)

-- ---- opening, and the guide alone

opens : ℕ → ℕ → ℕ → ℕ → ℕ → ℕ
opens P N spans waits tally_length = verdict (check_open P N (record { spans = spans; order = 5; rows = 5; marks = 5; locations = 5; waiting = waits; tally = tally_length }))

item : ℕ → Item
item n = pushed n n n

-- a guide whose last span number is n + 31
far : ℕ → Alone
far n = record { guide = record { first = n; spans = replicate 32 []; order = [] }; pushes = 0 }

at : ℕ → ℕ → Option Loc
at s q = some (record { span = s; pos = q })

-- 1 and 2 at opening; 14 and 13 of the guide alone
pub other_got : List (List ℕ)
other_got =
    (opens 0 5 999 20 9 ∷ opens 65000 5 999 20 9 ∷ opens 2 0 999 20 9 ∷ opens 2 16777217 999 20 9 ∷ opens 2 5 96 20 3 ∷ opens 2 5 95 20 3 ∷ opens 2 5 96 19 3 ∷ opens 2 5 96 20 2
    ∷ opens 2 6 96 24 3 ∷ [])
    ∷ (verdict (check_alone 2 5 96 5 3) ∷ verdict (check_alone 2 5 95 5 3) ∷ verdict (check_alone 65000 5 95 5 3) ∷ [])
    -- the location (1,1) is not held, nor is one past the window; (0,0) and one below span 0 are fine; 14 after V pushes, before 13
    ∷ replies 1 3 (push_request none (item 0) ∷ push_request (at 1 1) (item 1) ∷ push_request (at 33 0) (item 1) ∷ push_request (at 0 0) (item 1) ∷ push_request (at 1 0) (item 2)
    ∷ push_request (at 99 0) (item 3) ∷ flush_request ∷ []) alone
    -- on a fresh guide (0,1) is not held
    ∷ (reply 3 (push_request (at 0 1) (item 0)) alone ∷ [])
    -- 14 once the last span number is 4,294,967,264
    ∷ (reply 3 flush_request (far 4294967232) ∷ reply 3 flush_request (far 4294967233) ∷ reply 3 (push_request none (item 0)) (far 4294967232)
    ∷ reply 3 (push_request none (item 0)) (far 4294967233) ∷ [])
    ∷ []

pub other_want : List (List ℕ)
other_want =
    (1 ∷ 1 ∷ 1 ∷ 1 ∷ 0 ∷ 2 ∷ 2 ∷ 2 ∷ 2 ∷ [])
    ∷ (0 ∷ 2 ∷ 1 ∷ [])
    ∷ (0 ∷ 13 ∷ 13 ∷ 0 ∷ 0 ∷ 14 ∷ 0 ∷ [])
    ∷ (13 ∷ [])
    ∷ (0 ∷ 14 ∷ 0 ∷ 14 ∷ [])
    ∷ []

-- of each the two are the same
pub sessions : (registrar_got ≡ registrar_want) × (record_got ≡ record_want) × (calls_got ≡ calls_want) × (other_got ≡ other_want)
unfolding registrar_got registrar_want record_got record_want calls_got calls_want other_got other_want entry order_of placed waiting J1 before third flushed opens item far at
    parallelism parallelism_by last_parallelism annotate released fresh release flush_guide seek found begin choose put settle apply place tallied tally initial member marked
    tracked run_from watermark greatest ready loc_of later top after spotted reg_of place_one due left queue keep push off rest with_set with_add cascade settle_all do_set do_add
    with_record note_add note_flush note_final with_flush do_flush do_final verdict any repeats written_by taken pooled check_range too_short check_open check_closed check_places
    check_set check_add check_flush check_final checks answer apply_call unless_refused step run answers alone check_alone holds stray worn check_push check_flush_alone requests
    reply serve serve_step serve_all replies
sessions = (refl, refl, refl, refl)
