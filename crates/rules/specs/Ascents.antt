-- Document 02, M-106: the ascending profile worked through. The numbers of lists of calls where each check turns, which of the calls are
-- accepted, J1's order, and each lent length one short. Computed from the definitions.
use Rattle.std.specs.Prelude.{◌≡◌, refl, List, [], ◌∷◌, map, ℕ, ◌^◌}
use Rattle.rules.specs.Guide.{Entry, parallelism, parallelism_by, last_parallelism, annotate, released, fresh, release, flush as flush_guide, seek, found, begin}
use Rattle.rules.specs.Guide.{choose, put, settle, apply, place}
use Rattle.rules.specs.Model.{initial, member, marked, tracked, run_from, watermark, greatest, ready, loc_of, later, top, after, spotted, reg_of, place_one, due, left}
use Rattle.rules.specs.Model.{queue, keep, push, off, rest, with_set, with_add, cascade, settle_all, do_set, do_add, with_record, note_add, note_flush, note_final}
use Rattle.rules.specs.Model.{with_flush, do_flush, do_final}
use Rattle.rules.specs.Checks.{Sizes, verdict, any, repeats, written_by, taken, pooled, check_range, check_closed, check_places, check_flush, check_final}
use Rattle.rules.specs.Calls.{Call, set, add, flush, final, apply_call, unless_refused}
use Rattle.rules.specs.Sessions.{one, J1}
use Rattle.rules.specs.Ascending.{ascend, first_or, set_breach, add_breach, check_open, check_set, check_add, checks, answer, step, run, answers, accepted}

abbrev two : ℕ → ℕ → List ℕ
two x y = x ∷ y ∷ []

-- V = 9: sets and adds at and beside the lowest place; the second set 0 is a breach, not 8
turning : List Call
turning =
    set 1
    ∷ set 0
    ∷ set 0
    ∷ add 0 [] (one 2)
    ∷ add 0 [] (two 2 1)
    ∷ add 0 [] (two 1 1)
    ∷ add 0 [] (3 ∷ 2 ∷ 3 ∷ [])
    ∷ add 0 [] (one 0)
    ∷ add 0 (one 1) (one 1)
    ∷ add 0 (one 2) (two 1 2)
    ∷ add 0 (two 0 0) (two 1 2)
    ∷ add 0 (one 3) []
    ∷ add 0 (one 2) []
    ∷ []

-- V = 2: all set, then final
full : List Call
full = set 0 ∷ set 1 ∷ set 0 ∷ set 2 ∷ add 0 (one 1) [] ∷ add 0 [] (one 1) ∷ flush ∷ final ∷ final ∷ set 0 ∷ add 256 [] [] ∷ []

-- V = 3, W = 2: the checks before and after 21, and what a refused add takes of W: nothing
counted : List Call
counted =
    add 256 (one (2 ^ 62)) []
    ∷ add 0 (one (2 ^ 62)) (one 3)
    ∷ add 0 (one 3) (two 1 1)
    ∷ add 0 (one 1) (two 0 0)
    ∷ add 0 [] (0 ∷ 1 ∷ 2 ∷ [])
    ∷ add 255 [] (two 0 1)
    ∷ add 0 (one 0) []
    ∷ []

pub numbers_got : List (List ℕ)
numbers_got = answers 2 9 100 turning initial ∷ answers 2 2 0 (add 0 [] [] ∷ add 0 [] [] ∷ add 0 [] [] ∷ []) initial ∷ answers 2 2 100 full initial ∷ answers 2 3 2 counted initial ∷ []

pub numbers_want : List (List ℕ)
numbers_want =
    (21 ∷ 0 ∷ 21 ∷ 21 ∷ 21 ∷ 6 ∷ 6 ∷ 21 ∷ 21 ∷ 21 ∷ 0 ∷ 21 ∷ 0 ∷ [])
    ∷ (0 ∷ 0 ∷ 9 ∷ [])
    ∷ (0 ∷ 0 ∷ 21 ∷ 5 ∷ 0 ∷ 21 ∷ 0 ∷ 0 ∷ 7 ∷ 7 ∷ 7 ∷ [])
    ∷ (18 ∷ 4 ∷ 5 ∷ 6 ∷ 10 ∷ 0 ∷ 10 ∷ [])
    ∷ []

-- the places that final fixes, and of each entry of J1's order added, accepted and parallelism: those of every session (rules/Sessions)
entry : Entry → List ℕ
entry e = e.item.added ∷ e.item.accepted ∷ e.parallelism ∷ []

pub order_got : List (List ℕ)
order_got = one (run 2 2 100 full initial).recorded.places ∷ map entry (run 2 6 100 J1 initial).guide.order

pub order_want : List (List ℕ)
order_want = one 2 ∷ (0 ∷ 0 ∷ 2 ∷ []) ∷ (2 ∷ 2 ∷ 2 ∷ []) ∷ (1 ∷ 1 ∷ 2 ∷ []) ∷ (3 ∷ 3 ∷ 1 ∷ []) ∷ []

-- which calls are accepted
pub accepted_got : List (List Call)
accepted_got = accepted 2 9 100 turning initial ∷ accepted 2 3 2 counted initial ∷ []

pub accepted_want : List (List Call)
accepted_want = (set 0 ∷ add 0 (two 0 0) (two 1 2) ∷ add 0 (one 2) [] ∷ []) ∷ (add 255 [] (two 0 1) ∷ []) ∷ []

-- opening with P = 2 and V = 9: no waiting storage; then each length one short, and P and V out of their ranges
lent : ℕ → ℕ → ℕ → ℕ → ℕ → ℕ → Sizes
lent spans order rows marks locations tally = record { spans = spans; order = order; rows = rows; marks = marks; locations = locations; waiting = 0; tally = tally }

pub opening_got : List ℕ
opening_got =
    verdict (check_open 2 9 (lent 96 9 9 9 9 3))
    ∷ verdict (check_open 2 9 (lent 95 9 9 9 9 3))
    ∷ verdict (check_open 2 9 (lent 96 8 9 9 9 3))
    ∷ verdict (check_open 2 9 (lent 96 9 8 9 9 3))
    ∷ verdict (check_open 2 9 (lent 96 9 9 8 9 3))
    ∷ verdict (check_open 2 9 (lent 96 9 9 9 8 3))
    ∷ verdict (check_open 2 9 (lent 96 9 9 9 9 2))
    ∷ verdict (check_open 0 9 (lent 0 0 0 0 0 0))
    ∷ verdict (check_open 2 16777217 (lent 0 0 0 0 0 0))
    ∷ []

pub opening_want : List ℕ
opening_want = 0 ∷ 2 ∷ 2 ∷ 2 ∷ 2 ∷ 2 ∷ 2 ∷ 1 ∷ 1 ∷ []

pub ascents : (numbers_got ≡ numbers_want) × (order_got ≡ order_want) × (accepted_got ≡ accepted_want) × (opening_got ≡ opening_want)
unfolding turning full counted entry lent J1 numbers_got numbers_want order_got order_want accepted_got accepted_want opening_got opening_want
    parallelism parallelism_by last_parallelism annotate released fresh release flush_guide seek found begin choose put settle apply place
    initial member marked tracked run_from watermark greatest ready loc_of later top after spotted reg_of place_one due left queue keep push off rest with_set with_add cascade settle_all do_set do_add
    with_record note_add note_flush note_final with_flush do_flush do_final
    verdict any repeats written_by taken pooled check_range check_closed check_places check_flush check_final apply_call unless_refused
    ascend first_or set_breach add_breach check_open check_set check_add checks answer step run answers accepted
ascents = (refl, refl, refl, refl)
