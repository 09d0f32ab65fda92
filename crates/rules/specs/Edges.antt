-- Document 01, where each rule turns: the numbers, lists and lines of a job, the line of each refusal, 16 and 17, lanes (document 02, M-104), what a
-- job needs (M-101), the host's number, each lent length one short, the greatest list and place, the summary of small tallies, and calls as
-- numbers. Computed from the definitions.
use Rattle.std.specs.Prelude.{◌≡◌, refl, List, [], ◌∷◌, ◌++◌, map, ℕ, ◌-◌, ◌^◌, length, replicate}
use Rattle.std.proofs.Math.Option.{Option, some, none}
use Rattle.std.specs.Int.Count.{count_trailing_zeros}
use Rattle.std.specs.Float.{binary32}
use Rattle.std.specs.Float.Ieee.{round, size, span, climb, units, odd, to_bits}
use Rattle.rules.specs.Limits.{job_pool}
use Rattle.rules.specs.Text.{bytes}
use Rattle.rules.specs.Guide.{parallelism, parallelism_by, last_parallelism, annotate, released, fresh, release, flush as flush_guide, seek, found, begin, choose, put, settle, apply, place}
use Rattle.rules.specs.Model.{initial, member, marked, tracked, run_from, watermark, greatest, ready, loc_of, later, top, after, spotted, reg_of, place_one, due, left}
use Rattle.rules.specs.Model.{queue, keep, push, off, rest, with_set, with_add, cascade, settle_all, do_set, do_add, with_record, note_add, note_flush, note_final}
use Rattle.rules.specs.Model.{with_flush, do_flush, do_final}
use Rattle.rules.specs.Checks.{verdict, any, repeats, written_by, taken, pooled, check_range, too_short, check_open, check_closed, check_places, check_set, check_add, check_flush, check_final}
use Rattle.rules.specs.Calls.{Call, set, add, flush, final, checks, answer, apply_call, unless_refused, step}
use Rattle.rules.specs.Alone.{check_alone}
use Rattle.rules.specs.Summary.{Figures, sum, average, median_from, median, counts, thousands, figures}
use Rattle.rules.specs.Job.{key_parallelism, key_places, key_set, key_lane, key_in, key_out, flush_text, final_text, Line, parallelism_line, places_line, set_line, lane_line, in_line, out_line}
use Rattle.rules.specs.Job.{flush_line, final_line, malformed, Outcome, finished, rejected, lines_from, lines, ragged, digits_from, leading_zero, in_64_bits, number}
use Rattle.rules.specs.Job.{fields_from, both, numbers, list, after_key, with_number, with_list, whole, key_or, line_of, on_line, closing, run_lines, job_sizes, run_places}
use Rattle.rules.specs.Job.{run_job, outcome}
use Rattle.rules.specs.Needs.{no_needs, with_call, most_spans, Reading, needing, unread, ending, need_lines, need_places, need_job, needs}
use Rattle.rules.specs.Listing.{digits, decimal, Reply, fit, told, reply, printed, program, result, bytes_after}
use Rattle.rules.specs.Listings.{job_1, listing_1}
use Rattle.rules.specs.Encoding.{counted, set_front, add_outs, add_front, lane_front, front, before_all, and_then, unless_empty, decode_from, decode}

abbrev one : ℕ → List ℕ
one x = x ∷ []

-- an option as a list of at most one
abbrev given : {A : Type 0} → Option A → List A
given none = []
given (some x) = x ∷ []

-- ---- numbers, lists and lines

-- numbers: no leading zero but 0 itself, at most 20 digits in 64 bits, digits only
pub numbers_got : List (List ℕ)
numbers_got =
    given (number [])
    ∷ given (number (one 48))
    ∷ given (number (bytes "00"))
    ∷ given (number (bytes "01"))
    ∷ given (number (bytes "10"))
    -- the bytes beside the digits, / and :; signs and blanks
    ∷ given (number (one 47))
    ∷ given (number (one 58))
    ∷ given (number (bytes "+1"))
    ∷ given (number (bytes "-1"))
    ∷ given (number (bytes " 1"))
    ∷ given (number (bytes "1 "))
    -- 20 digits: 10^19, the greatest of 64 bits, and one more; 21 digits: 10^20
    ∷ given (number (49 ∷ replicate 19 48))
    ∷ given (number (decimal (2 ^ 64 - 1)))
    ∷ given (number (decimal (2 ^ 64)))
    ∷ given (number (49 ∷ replicate 20 48))
    ∷ decimal (2 ^ 64 - 1)
    ∷ []

pub numbers_want : List (List ℕ)
numbers_want =
    []
    ∷ one 0
    ∷ []
    ∷ []
    ∷ one 10
    ∷ []
    ∷ []
    ∷ []
    ∷ []
    ∷ []
    ∷ []
    ∷ one 10000000000000000000
    ∷ one 18446744073709551615
    ∷ []
    ∷ []
    ∷ bytes "18446744073709551615"
    ∷ []

-- lists: empty, or numbers with single commas
pub lists_got : List (List (List ℕ))
lists_got =
    given (list [])
    -- 0 and 1,10
    ∷ given (list (one 48))
    ∷ given (list (bytes "1,10"))
    -- a comma alone, at the end, at the start, twice
    ∷ given (list (one 44))
    ∷ given (list (bytes "1,"))
    ∷ given (list (bytes ",1"))
    ∷ given (list (bytes "1,,2"))
    -- 1;2 and 1 2 and 1,02
    ∷ given (list (bytes "1;2"))
    ∷ given (list (bytes "1 2"))
    ∷ given (list (bytes "1,02"))
    ∷ []

pub lists_want : List (List (List ℕ))
lists_want = ([] ∷ []) ∷ ((0 ∷ []) ∷ []) ∷ ((1 ∷ 10 ∷ []) ∷ []) ∷ [] ∷ [] ∷ [] ∷ [] ∷ [] ∷ [] ∷ [] ∷ []

-- a line by its kind, 0 for a malformed one, and its numbers
abbrev kind : Line → List ℕ
kind (parallelism_line n) = 1 ∷ n ∷ []
kind (places_line n) = 2 ∷ n ∷ []
kind (set_line n) = 3 ∷ n ∷ []
kind (lane_line n) = 8 ∷ n ∷ []
kind (in_line ns) = 4 ∷ ns
kind (out_line ns) = 5 ∷ ns
kind flush_line = 6 ∷ []
kind final_line = 7 ∷ []
kind malformed = 0 ∷ []

pub kinds_got : List (List ℕ)
kinds_got =
    map (λ (bs : List ℕ). kind (line_of bs)) (
    bytes "parallelism=1"
    ∷ bytes "places=1"
    ∷ bytes "set=1"
    -- a lane of 255, one more, the greatest number of 64 bits
    ∷ bytes "lane=0"
    ∷ bytes "lane=255"
    ∷ bytes "lane=256"
    ∷ (key_lane ++ decimal (2 ^ 64 - 1))
    ∷ key_in
    ∷ bytes "out=1,2"
    ∷ flush_text
    ∷ final_text
    -- malformed ones
    ∷ []
    ∷ key_set
    ∷ bytes "set"
    ∷ bytes "Set=1"
    ∷ bytes " set=1"
    ∷ bytes "set =1"
    ∷ bytes "set=1=1"
    ∷ bytes "set=1,2"
    ∷ bytes "set=1\r"
    -- 2^64, 21 digits, a leading zero, no number, two
    ∷ (key_lane ++ decimal (2 ^ 64))
    ∷ (key_lane ++ (49 ∷ replicate 20 48))
    ∷ bytes "lane=00"
    ∷ bytes "lane=01"
    ∷ key_lane
    ∷ bytes "lane=1,2"
    ∷ bytes "flush=12"
    ∷ bytes "flush="
    ∷ bytes "flush=0"
    ∷ bytes "flush=01"
    ∷ bytes "final=11"
    ∷ bytes "final=2"
    ∷ []
    )

pub kinds_want : List (List ℕ)
kinds_want =
    (1 ∷ 1 ∷ [])
    ∷ (2 ∷ 1 ∷ [])
    ∷ (3 ∷ 1 ∷ [])
    ∷ (8 ∷ 0 ∷ [])
    ∷ (8 ∷ 255 ∷ [])
    ∷ (8 ∷ 256 ∷ [])
    ∷ (8 ∷ 18446744073709551615 ∷ [])
    ∷ (4 ∷ [])
    ∷ (5 ∷ 1 ∷ 2 ∷ [])
    ∷ (6 ∷ [])
    ∷ (7 ∷ [])
    ∷ replicate 21 (0 ∷ [])

pub lines_turn : (numbers_got ≡ numbers_want) × (lists_got ≡ lists_want) × (kinds_got ≡ kinds_want)
unfolding numbers_got numbers_want lists_got lists_want kinds_got kinds_want digits_from leading_zero in_64_bits number fields_from both numbers list after_key with_number
    with_list whole key_or line_of digits decimal
lines_turn = (refl, refl, refl)

-- ---- jobs

-- a line: a key and what follows it, and byte 10
abbrev ln : List ℕ → List ℕ → List ℕ
ln key rest = key ++ (rest ++ (10 ∷ []))

-- the first two lines
abbrev head : ℕ → ℕ → List ℕ
head P N = ln key_parallelism (decimal P) ++ ln key_places (decimal N)

abbrev set_to : ℕ → List ℕ
set_to x = ln key_set (decimal x)

abbrev lane_to : ℕ → List ℕ
lane_to x = ln key_lane (decimal x)

abbrev in_to : ℕ → List ℕ
in_to x = ln key_in (decimal x)

abbrev out_to : ℕ → List ℕ
out_to x = ln key_out (decimal x)

abbrev end : List ℕ
end = ln final_text []

-- a refused job's line and number; an accepted one's 0, P, the order's length and the places that final fixed
abbrev ends : Outcome → List ℕ
ends (finished P k) = 0 ∷ P ∷ length k.guide.order ∷ k.recorded.places ∷ []
ends (rejected n code) = n ∷ code ∷ []

abbrev jobs : List (List ℕ)
jobs =
    -- 15, a missing line counts as the one after the last: no bytes; an empty line; a first, a second, a third line without byte 10
    []
    ∷ one 10
    ∷ bytes "parallelism=2"
    ∷ (bytes "parallelism=2\n" ++ bytes "places=6")
    ∷ (head 2 6 ++ final_text)
    -- no second line; no final; no final after calls
    ∷ bytes "parallelism=2\n"
    ∷ head 2 6
    ∷ (head 2 6 ++ (set_to 0 ++ ln flush_text []))
    -- the head's lines exchanged; one twice; one again later
    ∷ (bytes "places=6\n" ++ (bytes "parallelism=2\n" ++ end))
    ∷ (bytes "parallelism=2\n" ++ (head 2 6 ++ end))
    ∷ (head 2 6 ++ (bytes "places=6\n" ++ end))
    -- opening, at line 2: 1, then 2; P up to 64 and V up to 512
    ∷ (head 0 6 ++ end)
    ∷ (head 65000 6 ++ end)
    ∷ (head 64999 6 ++ end)
    ∷ (head 65 6 ++ end)
    ∷ (head 64 6 ++ end)
    ∷ (head 2 0 ++ end)
    ∷ (head 2 16777217 ++ end)
    ∷ (head 2 16777216 ++ end)
    ∷ (head 2 513 ++ end)
    ∷ (head 2 512 ++ end)
    ∷ (head 65 0 ++ end)
    -- 15 in line 2 before 1 for line 1; 1 in line 2 before 15 in line 3
    ∷ (bytes "parallelism=0\n" ++ bytes "places=x\n")
    ∷ (head 0 6 ++ one 10)
    -- an add without a lane is its two lines: no out line, another line for it, two in lines, an out line alone; its refusal is at its out line
    ∷ (head 2 6 ++ in_to 0)
    ∷ (head 2 6 ++ (in_to 0 ++ (set_to 0 ++ end)))
    ∷ (head 2 6 ++ (in_to 0 ++ (in_to 0 ++ (out_to 1 ++ end))))
    ∷ (head 2 6 ++ (out_to 1 ++ end))
    ∷ (head 2 6 ++ (in_to 6 ++ (out_to 1 ++ end)))
    ∷ (head 2 6 ++ (in_to 6 ++ (bytes "out=x\n" ++ end)))
    ∷ (head 2 6 ++ (bytes "in=x\n" ++ (out_to 6 ++ end)))
    -- 5, 4, 8, 9 and 12 at their lines; an earlier refusal before a later malformed line, and the other way round
    ∷ (head 2 6 ++ (set_to 6 ++ one 10))
    ∷ (head 2 6 ++ (one 10 ++ set_to 6))
    ∷ (head 2 6 ++ (set_to (2 ^ 62) ++ end))
    ∷ (head 2 6 ++ (set_to 1 ++ (set_to 1 ++ end)))
    ∷ (head 1 1 ++ (ln key_in [] ++ (ln key_out [] ++ (ln key_in [] ++ (ln key_out [] ++ end)))))
    ∷ (head 2 6 ++ (in_to 0 ++ (ln key_out [] ++ end)))
    ∷ (head 2 6 ++ (in_to 0 ++ (ln key_out [] ++ (end ++ set_to 0))))
    -- nothing may follow final: a call, final, an empty line, a byte
    ∷ (head 2 6 ++ (end ++ set_to 0))
    ∷ (head 2 6 ++ (end ++ end))
    ∷ (head 2 6 ++ (end ++ one 10))
    ∷ (head 2 6 ++ (end ++ one 120))
    -- accepted: nothing but final; two sets, a flush and an add
    ∷ (head 2 6 ++ end)
    ∷ (head 2 6 ++ (set_to 1 ++ (set_to 0 ++ (ln flush_text [] ++ (in_to 1 ++ (out_to 2 ++ end))))))
    ∷ []

-- jobs with lane lines
abbrev lane_jobs : List (List ℕ)
lane_jobs =
    -- 255 is a lane; 256 and the greatest number of 64 bits are 18, on the `out=` line; 2^64 and 21 digits are 15, on their own
    (head 2 6 ++ (lane_to 255 ++ (ln key_in [] ++ (out_to 0 ++ end))))
    ∷ (head 2 6 ++ (lane_to 256 ++ (ln key_in [] ++ (out_to 0 ++ end))))
    ∷ (head 2 6 ++ (lane_to (2 ^ 64 - 1) ++ (ln key_in [] ++ (out_to 0 ++ end))))
    ∷ (head 2 6 ++ (lane_to (2 ^ 64) ++ (ln key_in [] ++ (out_to 0 ++ end))))
    ∷ (head 2 6 ++ (ln key_lane (49 ∷ replicate 20 48) ++ (ln key_in [] ++ (out_to 0 ++ end))))
    -- 18 before 5; a malformed `out=` line before 18; an earlier 18 before a later malformed line
    ∷ (head 2 6 ++ (lane_to 256 ++ (in_to 6 ++ (out_to 0 ++ end))))
    ∷ (head 2 6 ++ (lane_to 256 ++ (in_to 0 ++ (bytes "out=x\n" ++ end))))
    ∷ (head 2 6 ++ (lane_to 256 ++ (in_to 0 ++ (out_to 1 ++ one 10))))
    -- a line after a lane line that is no `in=` line: a lane, set, out, flush, final, a malformed `in=`, an empty one, none
    ∷ (head 2 6 ++ (lane_to 1 ++ (lane_to 1 ++ (in_to 0 ++ (out_to 1 ++ end)))))
    ∷ (head 2 6 ++ (lane_to 1 ++ (set_to 0 ++ end)))
    ∷ (head 2 6 ++ (lane_to 1 ++ (out_to 1 ++ end)))
    ∷ (head 2 6 ++ (lane_to 1 ++ (ln flush_text [] ++ end)))
    ∷ (head 2 6 ++ (lane_to 1 ++ end))
    ∷ (head 2 6 ++ (lane_to 1 ++ (bytes "in=x\n" ++ (out_to 1 ++ end))))
    ∷ (head 2 6 ++ (lane_to 1 ++ (one 10 ++ (in_to 0 ++ (out_to 1 ++ end)))))
    ∷ (head 2 6 ++ lane_to 1)
    -- after lane and `in=` lines only an `out=` line: a set, none
    ∷ (head 2 6 ++ (lane_to 1 ++ (in_to 0 ++ (set_to 0 ++ end))))
    ∷ (head 2 6 ++ (lane_to 1 ++ in_to 0))
    -- a lane line between `in=` and `out=`, as the first line, as the second, after final
    ∷ (head 2 6 ++ (in_to 0 ++ (lane_to 1 ++ (out_to 1 ++ end))))
    ∷ (lane_to 1 ++ (head 2 6 ++ end))
    ∷ (bytes "parallelism=2\n" ++ (lane_to 1 ++ (bytes "places=6\n" ++ end)))
    ∷ (head 2 6 ++ (end ++ lane_to 1))
    ∷ []

-- 16, before anything else, over 65,536 bytes and not at them
pub jobs_got : List (List ℕ)
jobs_got = map (λ (bs : List ℕ). ends (outcome bs)) (jobs ++ (lane_jobs ++ (replicate 65536 10 ∷ replicate 65537 10 ∷ [])))

pub jobs_want : List (List ℕ)
jobs_want =
    (1 ∷ 15 ∷ [])
    ∷ (1 ∷ 15 ∷ [])
    ∷ (1 ∷ 15 ∷ [])
    ∷ (2 ∷ 15 ∷ [])
    ∷ (3 ∷ 15 ∷ [])
    ∷ (2 ∷ 15 ∷ [])
    ∷ (3 ∷ 15 ∷ [])
    ∷ (5 ∷ 15 ∷ [])
    ∷ (1 ∷ 15 ∷ [])
    ∷ (2 ∷ 15 ∷ [])
    ∷ (3 ∷ 15 ∷ [])
    ∷ (2 ∷ 1 ∷ [])
    ∷ (2 ∷ 1 ∷ [])
    ∷ (2 ∷ 2 ∷ [])
    ∷ (2 ∷ 2 ∷ [])
    ∷ (0 ∷ 64 ∷ 0 ∷ 0 ∷ [])
    ∷ (2 ∷ 1 ∷ [])
    ∷ (2 ∷ 1 ∷ [])
    ∷ (2 ∷ 2 ∷ [])
    ∷ (2 ∷ 2 ∷ [])
    ∷ (0 ∷ 2 ∷ 0 ∷ 0 ∷ [])
    ∷ (2 ∷ 1 ∷ [])
    ∷ (2 ∷ 15 ∷ [])
    ∷ (2 ∷ 1 ∷ [])
    ∷ (4 ∷ 15 ∷ [])
    ∷ (4 ∷ 15 ∷ [])
    ∷ (4 ∷ 15 ∷ [])
    ∷ (3 ∷ 15 ∷ [])
    ∷ (4 ∷ 5 ∷ [])
    ∷ (4 ∷ 15 ∷ [])
    ∷ (3 ∷ 15 ∷ [])
    ∷ (3 ∷ 5 ∷ [])
    ∷ (3 ∷ 15 ∷ [])
    ∷ (3 ∷ 4 ∷ [])
    ∷ (4 ∷ 8 ∷ [])
    ∷ (6 ∷ 9 ∷ [])
    ∷ (5 ∷ 12 ∷ [])
    ∷ (5 ∷ 12 ∷ [])
    ∷ (4 ∷ 15 ∷ [])
    ∷ (4 ∷ 15 ∷ [])
    ∷ (4 ∷ 15 ∷ [])
    ∷ (4 ∷ 15 ∷ [])
    ∷ (0 ∷ 2 ∷ 0 ∷ 0 ∷ [])
    ∷ (0 ∷ 2 ∷ 1 ∷ 3 ∷ [])
    -- with lane lines
    ∷ (0 ∷ 2 ∷ 1 ∷ 1 ∷ [])
    ∷ (5 ∷ 18 ∷ [])
    ∷ (5 ∷ 18 ∷ [])
    ∷ (3 ∷ 15 ∷ [])
    ∷ (3 ∷ 15 ∷ [])
    ∷ (5 ∷ 18 ∷ [])
    ∷ (5 ∷ 15 ∷ [])
    ∷ (5 ∷ 18 ∷ [])
    ∷ (4 ∷ 15 ∷ [])
    ∷ (4 ∷ 15 ∷ [])
    ∷ (4 ∷ 15 ∷ [])
    ∷ (4 ∷ 15 ∷ [])
    ∷ (4 ∷ 15 ∷ [])
    ∷ (4 ∷ 15 ∷ [])
    ∷ (4 ∷ 15 ∷ [])
    ∷ (4 ∷ 15 ∷ [])
    ∷ (5 ∷ 15 ∷ [])
    ∷ (5 ∷ 15 ∷ [])
    ∷ (4 ∷ 15 ∷ [])
    ∷ (1 ∷ 15 ∷ [])
    ∷ (2 ∷ 15 ∷ [])
    ∷ (4 ∷ 15 ∷ [])
    -- 16
    ∷ (1 ∷ 15 ∷ [])
    ∷ (1 ∷ 16 ∷ [])
    ∷ []

pub jobs_turn : jobs_got ≡ jobs_want
unfolding jobs_got jobs_want digits decimal parallelism parallelism_by last_parallelism annotate released fresh release flush_guide seek found begin choose put settle apply place
    initial member marked tracked run_from watermark greatest ready loc_of later top after spotted reg_of place_one due left queue keep push off rest with_set with_add cascade
    settle_all do_set do_add with_record note_add note_flush note_final with_flush do_flush do_final verdict any repeats written_by taken pooled check_range too_short check_open
    check_closed check_places check_set check_add check_flush check_final checks answer apply_call unless_refused step lines_from lines ragged digits_from leading_zero in_64_bits
    number fields_from both numbers list after_key with_number with_list whole key_or line_of on_line closing run_lines job_sizes run_places run_job outcome
jobs_turn = refl

-- ---- what a job needs

-- what is read off a job: a refusal's line and number; else 0, the needs and the most spans
abbrev reads : Reading → List ℕ
reads (needing c) = 0 ∷ c.registrations ∷ c.pool ∷ c.flushes ∷ most_spans c ∷ []
reads (unread n code) = n ∷ code ∷ []

-- malformed at line n; n, w, f and the ceiling
abbrev bad : ℕ → List ℕ
bad n = n ∷ 15 ∷ []

abbrev four : ℕ → ℕ → ℕ → ℕ → List ℕ
four n w f spans = 0 ∷ n ∷ w ∷ f ∷ spans ∷ []

-- the same jobs (16 is as when run, by laws/Needs); J1; lists of other lengths, with two flushes; P of 65 bits; no `out=` line after an
-- opening and a call that are refused
pub needs_got : List (List ℕ)
needs_got =
    map (λ (bs : List ℕ). reads (needs bs)) (
    jobs
    ++ (lane_jobs
    ++ (job_1
    ∷ (head 2 6 ++ (bytes "in=0,1,2\nout=3\n" ++ (ln flush_text [] ++ (bytes "in=\nout=4,5\n" ++ (bytes "in=\nout=\n" ++ (ln flush_text [] ++ end))))))
    ∷ (head (2 ^ 64) 6 ++ end)
    ∷ (head 0 6 ++ (set_to 9 ++ (in_to 0 ++ end)))
    ∷ []))
    )

pub needs_want : List (List ℕ)
needs_want =
    -- missing lines, the head's lines exchanged, twice and again
    (bad 1 ∷ bad 1 ∷ bad 1 ∷ bad 2 ∷ bad 3 ∷ bad 2 ∷ bad 3 ∷ bad 5 ∷ bad 1 ∷ bad 2 ∷ bad 3 ∷ [])
    -- openings, refused or not
    ++ (replicate 11 (four 0 0 0 32)
    -- a malformed line after a P of 0: when run, 1 in line 2 before the second
    ++ ((bad 2 ∷ bad 3 ∷ [])
    -- the two lines of an add without a lane
    ++ ((bad 4 ∷ bad 4 ∷ bad 4 ∷ bad 3 ∷ four 1 2 0 34 ∷ bad 4 ∷ bad 3 ∷ [])
    -- calls that are refused when run: 5 before a malformed line, and after it; 4, 8, 9 and 12; 12 before a surplus line
    ++ ((bad 4 ∷ bad 3 ∷ four 0 0 0 32 ∷ four 0 0 0 32 ∷ four 2 0 0 36 ∷ four 1 1 0 34 ∷ bad 6 ∷ [])
    -- nothing may follow final
    ++ (replicate 4 (bad 4)
    -- accepted
    ++ (four 0 0 0 32
    ∷ four 1 2 1 66
    -- lanes, which are read and not judged
    ∷ four 1 1 0 34
    ∷ four 1 1 0 34
    ∷ four 1 1 0 34
    ∷ bad 3
    ∷ bad 3
    ∷ four 1 2 0 34
    ∷ bad 5
    ∷ bad 6
    ∷ replicate 8 (bad 4)
    ++ (bad 5
    ∷ bad 5
    ∷ bad 4
    ∷ bad 1
    ∷ bad 2
    ∷ bad 4
    -- the others
    ∷ four 4 7 0 40
    ∷ four 3 6 2 102
    ∷ bad 1
    ∷ bad 5
    ∷ [])))))))

pub needs_turn : needs_got ≡ needs_want
unfolding needs_got needs_want digits decimal lines_from lines ragged digits_from leading_zero in_64_bits number fields_from both numbers list after_key with_number with_list whole
    key_or line_of no_needs with_call most_spans ending need_lines need_places need_job needs
needs_turn = refl

-- ---- the answer

-- the listing fits its room or is 17 on line 1, which comes last; the host's number; the listing bytes after the call
abbrev answered : Reply → List ℕ
answered r = result r ∷ bytes_after r (7 ∷ 8 ∷ 9 ∷ [])

pub replies_got : List (List ℕ)
replies_got =
    answered (fit 2 (1 ∷ 2 ∷ []))
    ∷ answered (fit 1 (1 ∷ 2 ∷ []))
    ∷ answered (told 0 (rejected 13 15))
    ∷ answered (reply 0 [])
    ∷ (result (fit (length listing_1) listing_1) ∷ result (fit (length listing_1 - 1) listing_1) ∷ [])
    ∷ []

pub replies_want : List (List ℕ)
replies_want = (128 ∷ 1 ∷ 2 ∷ 9 ∷ []) ∷ (81 ∷ 7 ∷ 8 ∷ 9 ∷ []) ∷ (847 ∷ 7 ∷ 8 ∷ 9 ∷ []) ∷ (79 ∷ 7 ∷ 8 ∷ 9 ∷ []) ∷ (17728 ∷ 81 ∷ []) ∷ []

-- the program lends 65,536 listing bytes; with V up to 512 no listing is that long
pub replies_turn : (replies_got ≡ replies_want) × ((job : List ℕ) → program job ≡ printed (reply 65536 job))
unfolding replies_got replies_want fit told reply result bytes_after program lines_from lines ragged run_job outcome
replies_turn = (refl, λ job. refl)

-- ---- opening and calls

-- 2: each lent length, one short
abbrev opens : ℕ → ℕ → ℕ → ℕ → ℕ → ℕ → ℕ → ℕ
opens spans order rows marks locations waiting tally =
    verdict (check_open 2 5 (record { spans = spans; order = order; rows = rows; marks = marks; locations = locations; waiting = waiting; tally = tally }))

pub lengths_got : List (List ℕ)
lengths_got =
    (opens 96 5 5 5 5 20 3 ∷ opens 95 5 5 5 5 20 3 ∷ opens 96 4 5 5 5 20 3 ∷ opens 96 5 4 5 5 20 3 ∷ opens 96 5 5 4 5 20 3 ∷ opens 96 5 5 5 4 20 3 ∷ opens 96 5 5 5 5 19 3 ∷ opens 96 5 5 5 5 20 2 ∷ [])
    ∷ (verdict (check_alone 2 5 96 5 3) ∷ verdict (check_alone 2 5 95 5 3) ∷ verdict (check_alone 2 5 96 4 3) ∷ verdict (check_alone 2 5 96 5 2) ∷ [])
    ∷ []

pub lengths_want : List (List ℕ)
lengths_want = (0 ∷ 2 ∷ 2 ∷ 2 ∷ 2 ∷ 2 ∷ 2 ∷ 2 ∷ []) ∷ (0 ∷ 2 ∷ 2 ∷ 2 ∷ []) ∷ []

pub calls_got : List (List ℕ)
calls_got =
    -- 3: 65,535 inputs or outputs are not too many: the check after it, 4, answers, and by the first place alone (one more: laws/LongLists)
    (answer 1 65535 (add 0 (2 ^ 62 ∷ replicate 65534 0) []) initial ∷ answer 1 65535 (add 0 [] (2 ^ 62 ∷ replicate 65534 0)) initial ∷ [])
    -- 4: bit 62, bit 63, both; below them 5
    ∷ (answer 3 9 (set (2 ^ 62 - 1)) initial ∷ answer 3 9 (set (2 ^ 62)) initial ∷ answer 3 9 (set (2 ^ 63)) initial ∷ answer 3 9 (set (2 ^ 64 - 1)) initial
    ∷ answer 3 9 (add 0 (one 3) (one (2 ^ 63))) initial ∷ [])
    -- 10: a job's pool holds 4,096 list numbers
    ∷ (answer 6 job_pool (add 0 (replicate 4096 0) []) initial ∷ answer 6 job_pool (add 0 (replicate 4096 0) (one 1)) initial ∷ [])
    ∷ []

pub calls_want : List (List ℕ)
calls_want = (4 ∷ 4 ∷ []) ∷ (5 ∷ 4 ∷ 4 ∷ 4 ∷ 4 ∷ []) ∷ (0 ∷ 10 ∷ []) ∷ []

pub checks_turn : (lengths_got ≡ lengths_want) × (calls_got ≡ calls_want)
unfolding lengths_got lengths_want calls_got calls_want initial check_alone member marked verdict any repeats written_by taken pooled check_range too_short check_open check_closed
    check_places check_set check_add check_flush check_final checks answer
checks_turn = (refl, refl)

-- ---- the summary

-- the average's 32 bits, the median, the counts and the sums
abbrev shown : Figures → List (List ℕ)
shown f = (to_bits binary32 f.average ∷ f.median ∷ []) ∷ f.low ∷ f.thousands ∷ []

-- J1's tally; 1,001 counts; a tally of one count, the greatest sum; counts of 0 alone
pub figures_got : List (List (List ℕ))
figures_got = map (λ (t : List ℕ). shown (figures t)) ((0 ∷ 1 ∷ 3 ∷ []) ∷ (replicate 1000 1 ++ one 5) ∷ (0 ∷ 16777216 ∷ []) ∷ (0 ∷ 0 ∷ []) ∷ [])

pub figures_want : List (List (List ℕ))
figures_want =
    ((947981878 ∷ 2 ∷ []) ∷ (0 ∷ 1 ∷ 3 ∷ replicate 125 0) ∷ (4 ∷ replicate 64 0) ∷ [])
    ∷ ((1014846053 ∷ 502 ∷ []) ∷ replicate 128 1 ∷ (1000 ∷ 5 ∷ replicate 63 0) ∷ [])
    ∷ ((1132531254 ∷ 1 ∷ []) ∷ (0 ∷ 16777216 ∷ replicate 126 0) ∷ (16777216 ∷ replicate 64 0) ∷ [])
    ∷ ((0 ∷ 0 ∷ []) ∷ replicate 128 0 ∷ replicate 65 0 ∷ [])
    ∷ []

pub figures_turn : figures_got ≡ figures_want
unfolding figures_got figures_want sum average median_from median counts thousands figures round size span climb units odd to_bits count_trailing_zeros
figures_turn = refl

-- ---- calls as numbers

pub decoded_got : List (List (List Call))
decoded_got =
    -- every call; no call
    given (decode (1 ∷ 7 ∷ 2 ∷ 2 ∷ 3 ∷ 4 ∷ 1 ∷ 5 ∷ 3 ∷ 2 ∷ 0 ∷ 0 ∷ 4 ∷ []))
    ∷ given (decode [])
    -- truncated: a set without its place, an add within its counts and lists; after an accepted call too
    ∷ given (decode (1 ∷ []))
    ∷ given (decode (2 ∷ []))
    ∷ given (decode (2 ∷ 1 ∷ []))
    ∷ given (decode (2 ∷ 1 ∷ 5 ∷ []))
    ∷ given (decode (2 ∷ 1 ∷ 5 ∷ 1 ∷ []))
    ∷ given (decode (3 ∷ 2 ∷ 0 ∷ []))
    -- no such call
    ∷ given (decode (0 ∷ []))
    ∷ given (decode (6 ∷ []))
    -- an add with a lane, truncated and whole; the lane may be any number
    ∷ given (decode (5 ∷ []))
    ∷ given (decode (5 ∷ 3 ∷ []))
    ∷ given (decode (5 ∷ 3 ∷ 1 ∷ 5 ∷ []))
    ∷ given (decode (5 ∷ 3 ∷ 1 ∷ 5 ∷ 1 ∷ []))
    ∷ given (decode (5 ∷ 3 ∷ 2 ∷ 6 ∷ 7 ∷ 1 ∷ 8 ∷ 5 ∷ 256 ∷ 0 ∷ 0 ∷ []))
    ∷ []

pub decoded_want : List (List (List Call))
decoded_want = ((set 7 ∷ add 0 (3 ∷ 4 ∷ []) (5 ∷ []) ∷ flush ∷ add 0 [] [] ∷ final ∷ []) ∷ []) ∷ ([] ∷ []) ∷ (replicate 12 [] ++ (((add 3 (6 ∷ 7 ∷ []) (8 ∷ []) ∷ add 256 [] [] ∷ []) ∷ []) ∷ []))

pub decoded_turn : decoded_got ≡ decoded_want
unfolding decoded_got decoded_want counted set_front add_outs add_front lane_front front before_all and_then unless_empty decode_from decode
decoded_turn = refl
