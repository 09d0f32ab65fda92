-- Document 02, M-105: reasons worked through. Of jobs with P = 4 and V = 6 the host's number for each registration that is asked for, and
-- what the program prints. Computed from the definitions.
use Rattle.std.specs.Prelude.{◌≡◌, refl, List, [], ◌∷◌, ◌++◌, map, ℕ, ◌+◌, ◌-◌, ◌*◌, ◌^◌}
use Rattle.rules.specs.Text.{bytes}
use Rattle.rules.specs.Guide.{parallelism, parallelism_by, last_parallelism, annotate, released, fresh, release, flush as flush_guide, seek, found, begin, choose, put}
use Rattle.rules.specs.Guide.{settle, apply, place}
use Rattle.rules.specs.Model.{initial, member, marked, tracked, run_from, watermark, greatest, ready, loc_of, later, top, after, spotted, reg_of, place_one, due, left}
use Rattle.rules.specs.Model.{queue, keep, push, off, rest, with_set, with_add, cascade, settle_all, do_set, do_add, with_record, note_add, note_flush, note_final}
use Rattle.rules.specs.Model.{with_flush, do_flush, do_final}
use Rattle.rules.specs.Checks.{verdict, any, repeats, written_by, taken, pooled, check_range, too_short, check_open, check_closed, check_places, check_set, check_add, check_flush, check_final}
use Rattle.rules.specs.Calls.{checks, answer, apply_call, unless_refused, step}
use Rattle.rules.specs.Job.{lines_from, lines, ragged, digits_from, leading_zero, in_64_bits, number, fields_from, both, numbers, list, after_key, with_number, with_list}
use Rattle.rules.specs.Job.{whole, key_or, line_of, on_line, closing, run_lines, job_sizes, run_places, run_job, outcome, reached_lines, reached_places, reached_job, reached}
use Rattle.rules.specs.Listing.{digits, decimal, field, line, rejection}
use Rattle.rules.specs.Listings.{job_1}
use Rattle.rules.specs.Reason.{waits, check_reason, reason, explained, reason_number, of_session, after_job, job_explained, job_reason_number, reason_lines, reason_program}

-- a job of some lines between its head and its end
abbrev job : List ℕ → List ℕ
job calls = bytes "parallelism=4\nplaces=6\n" ++ (calls ++ bytes "final=1\n")

-- the host's number for each of some registrations
abbrev told : List ℕ → List ℕ → List ℕ
told rs text = map (λ (r : ℕ). job_reason_number (job_explained r text)) rs

-- and what it is to be: for a greatest input and a place, and for a line and its refusal
abbrev because_of : ℕ → ℕ → ℕ
because_of input place = 64 * (2 ^ 24 * input + place)

abbrev at_line : ℕ → ℕ → ℕ
at_line n code = 64 * n + code

abbrev first : List ℕ
first = 0 ∷ []

pub reasons_got : List (List ℕ)
reasons_got =
    told (0 ∷ 1 ∷ (2 ^ 64 - 1) ∷ []) (job (bytes "set=2\nin=2\nout=\n"))
    ∷ told first (job (bytes "set=0\nset=2\nin=2\nout=\n"))
    ∷ told (0 ∷ 1 ∷ []) (job (bytes "set=0\nset=1\nset=2\nin=2\nout=\n"))
    -- though 0 is promised
    ∷ told (0 ∷ 1 ∷ 2 ∷ []) (job (bytes "in=3\nout=0\nin=1\nout=2\n"))
    -- a registration that reads its own output
    ∷ told first (job (bytes "in=0\nout=0\n"))
    -- tracked places above the mark do not count
    ∷ told first (job (bytes "set=0\nset=3\nset=4\nin=0,4,3\nout=\n"))
    ∷ told first (job (bytes "set=0\nin=5,1,5\nout=1\n"))
    -- one that is placed beside one that waits; one without inputs
    ∷ told (0 ∷ 1 ∷ 2 ∷ []) (job (bytes "in=\nout=0\nin=3\nout=4\nin=0\nout=1\n"))
    -- J1, which is accepted; a surplus line after it
    ∷ told (0 ∷ 1 ∷ 2 ∷ 3 ∷ 4 ∷ []) job_1
    ∷ told first (job_1 ++ bytes "set=5\n")
    -- a surplus line after a final that 12 refuses changes nothing
    ∷ told (0 ∷ 1 ∷ []) (job (bytes "in=0\nout=1\n") ++ bytes "set=0\n")
    -- refused otherwise: 5 on line 3, 1 at opening, a job that lacks its final while a registration waits, the empty job
    ∷ told first (job (bytes "set=9\n"))
    ∷ told first (bytes "parallelism=0\nplaces=6\nfinal=1\n")
    ∷ told first (bytes "parallelism=4\nplaces=6\nin=0\nout=1\n")
    ∷ told first []
    ∷ []

pub reasons_want : List (List ℕ)
reasons_want =
    (because_of 2 0 ∷ 19 ∷ 19 ∷ [])
    ∷ (because_of 2 1 ∷ [])
    ∷ (20 ∷ 19 ∷ [])
    ∷ (because_of 3 0 ∷ because_of 1 0 ∷ 19 ∷ [])
    ∷ (because_of 0 0 ∷ [])
    ∷ (because_of 4 1 ∷ [])
    ∷ (because_of 5 1 ∷ [])
    ∷ (20 ∷ because_of 3 2 ∷ 20 ∷ [])
    ∷ (20 ∷ 20 ∷ 20 ∷ 20 ∷ 19 ∷ [])
    ∷ (at_line 13 15 ∷ [])
    ∷ (because_of 0 0 ∷ 19 ∷ [])
    ∷ (at_line 3 5 ∷ [])
    ∷ (at_line 2 1 ∷ [])
    ∷ (at_line 5 15 ∷ [])
    ∷ (at_line 1 15 ∷ [])
    ∷ []

-- the program: a reason, a number alone, a line and a number
pub printed_got : List (List ℕ)
printed_got =
    reason_program 0 (job (bytes "set=0\nin=5,1,5\nout=1\n"))
    ∷ reason_program 1 (job (bytes "set=0\nin=5,1,5\nout=1\n"))
    ∷ reason_program 0 (job (bytes "set=9\n"))
    ∷ []

pub printed_want : List (List ℕ)
printed_want = bytes "status=0\ninput=5\nplace=1\n" ∷ bytes "status=19\n" ∷ bytes "status=5\nline=3\n" ∷ []

pub reasons : (reasons_got ≡ reasons_want) × (printed_got ≡ printed_want)
unfolding reasons_got reasons_want printed_got printed_want parallelism parallelism_by last_parallelism annotate released fresh release flush_guide seek found begin choose put settle
    apply place initial member marked tracked run_from watermark greatest ready loc_of later top after spotted reg_of place_one due left queue keep push off rest with_set with_add
    cascade settle_all do_set do_add with_record note_add note_flush note_final with_flush do_flush do_final verdict any repeats written_by taken pooled check_range too_short
    check_open check_closed check_places check_set check_add check_flush check_final checks answer apply_call unless_refused step lines_from lines ragged digits_from leading_zero
    in_64_bits number fields_from both numbers list after_key with_number with_list whole key_or line_of on_line closing run_lines job_sizes run_places run_job outcome reached_lines
    reached_places reached_job reached digits decimal field line rejection waits check_reason reason explained reason_number of_session after_job job_explained job_reason_number
    reason_lines reason_program
reasons = (refl, refl)
