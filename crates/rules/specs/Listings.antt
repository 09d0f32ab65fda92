-- Document 01, J1: the job's listing byte for byte, and the empty job; document 02: a listing with lanes (M-104), and floors of small
-- orders (M-103). Computed from the definitions.
use Rattle.std.specs.Prelude.{◌≡◌, refl, List, [], ◌∷◌, ◌++◌, ℕ, zero, suc}
use Rattle.std.proofs.Math.Option.{none}
use Rattle.rules.specs.Text.{bytes}
use Rattle.rules.specs.Guide.{Guide, parallelism, parallelism_by, last_parallelism, annotate, released, fresh, release, flush as flush_guide, seek, found, begin, choose, put}
use Rattle.rules.specs.Guide.{settle, apply, place, tallied, tally}
use Rattle.rules.specs.Model.{initial, member, marked, tracked, run_from, watermark, greatest, ready, loc_of, later, top, after, spotted, reg_of, place_one, due, left}
use Rattle.rules.specs.Model.{queue, keep, push, off, rest, with_set, with_add, cascade, settle_all, do_set, do_add, with_record, note_add, note_flush, note_final}
use Rattle.rules.specs.Model.{with_flush, do_flush, do_final}
use Rattle.rules.specs.Checks.{verdict, any, repeats, written_by, taken, pooled, check_range, too_short, check_open, check_closed, check_places, check_set, check_add, check_flush, check_final}
use Rattle.rules.specs.Calls.{checks, answer, apply_call, unless_refused, step}
use Rattle.rules.specs.Summary.{sum, median_from, median}
use Rattle.rules.specs.Job.{lines_from, lines, ragged, digits_from, leading_zero, in_64_bits, number, fields_from, both, numbers, list, after_key, with_number, with_list}
use Rattle.rules.specs.Job.{whole, key_or, line_of, on_line, closing, run_lines, job_sizes, run_places, run_job, outcome}
use Rattle.rules.specs.Listing.{digits, decimal, field, line, least, before_run_out, floor, entry_line, entry_lines, listing, rejection, fit, told, reply, printed, program}

-- J1's job
abbrev pub job_1 : List ℕ
job_1 =
    bytes "parallelism=2\nplaces=6\n"
    ++ (bytes "set=0\n"
    ++ (bytes "in=0\nout=1\n"
    ++ (bytes "in=1\nout=2\n"
    ++ (bytes "in=0\nout=3\n"
    ++ (bytes "in=\nout=4\n"
    ++ bytes "final=1\n")))))

-- what it prints
abbrev pub listing_1 : List ℕ
listing_1 =
    bytes "status=0\nentries=4\nplaces=5\nfloor=2\nmedian=2\n"
    ++ (bytes "order=0 added=0 accepted=0 parallelism=2 written=0 lane=0\n"
    ++ (bytes "order=1 added=2 accepted=2 parallelism=2 written=0 lane=0\n"
    ++ (bytes "order=2 added=1 accepted=1 parallelism=2 written=0 lane=0\n"
    ++ bytes "order=3 added=3 accepted=3 parallelism=1 written=4 lane=0\n")))

-- what the empty job prints
abbrev pub malformed_at_1 : List ℕ
malformed_at_1 = bytes "status=15\nline=1\n"

pub j1 : program job_1 ≡ listing_1
unfolding parallelism parallelism_by last_parallelism annotate released fresh release flush_guide seek found begin choose put settle apply place tallied tally initial member
    marked tracked run_from watermark greatest ready loc_of later top after spotted reg_of place_one due left queue keep push off rest with_set with_add cascade settle_all do_set
    do_add with_record note_add note_flush note_final with_flush do_flush do_final verdict any repeats written_by taken pooled check_range too_short check_open check_closed
    check_places check_set check_add check_flush check_final checks answer apply_call unless_refused step sum median_from median lines_from lines ragged digits_from leading_zero
    in_64_bits number fields_from both numbers list after_key with_number with_list whole key_or line_of on_line closing run_lines job_sizes run_places run_job outcome digits
    decimal field line least before_run_out floor entry_line entry_lines listing rejection fit told reply printed program
j1 = refl

-- a job with lanes: registration 0 waits for place 1, and keeps its lane
abbrev job_lanes : List ℕ
job_lanes =
    bytes "parallelism=2\nplaces=3\n"
    ++ (bytes "lane=3\nin=1\nout=2\n"
    ++ (bytes "lane=255\nin=\nout=0\n"
    ++ (bytes "in=0\nout=1\n"
    ++ bytes "final=1\n")))

abbrev listing_lanes : List ℕ
listing_lanes =
    bytes "status=0\nentries=3\nplaces=3\nfloor=1\nmedian=1\n"
    ++ (bytes "order=0 added=1 accepted=1 parallelism=1 written=0 lane=255\n"
    ++ (bytes "order=1 added=2 accepted=2 parallelism=1 written=3 lane=0\n"
    ++ bytes "order=2 added=0 accepted=2 parallelism=1 written=0 lane=3\n"))

pub lanes_listed : program job_lanes ≡ listing_lanes
unfolding parallelism parallelism_by last_parallelism annotate released fresh release flush_guide seek found begin choose put settle apply place tallied tally initial member
    marked tracked run_from watermark greatest ready loc_of later top after spotted reg_of place_one due left queue keep push off rest with_set with_add cascade settle_all do_set
    do_add with_record note_add note_flush note_final with_flush do_flush do_final verdict any repeats written_by taken pooled check_range too_short check_open check_closed
    check_places check_set check_add check_flush check_final checks answer apply_call unless_refused step sum median_from median lines_from lines ragged digits_from leading_zero
    in_64_bits number fields_from both numbers list after_key with_number with_list whole key_or line_of on_line closing run_lines job_sizes run_places run_job outcome digits
    decimal field line least before_run_out floor entry_line entry_lines listing rejection fit told reply printed program
lanes_listed = refl

-- the empty job
pub empty_job : program [] ≡ malformed_at_1
unfolding lines_from lines ragged run_job outcome digits decimal field line rejection fit told reply printed program
empty_job = refl

-- n entries that read nothing, and a flush
free : ℕ → ℕ → Guide → Guide
free P zero g = flush_guide P g
free P (suc n) g = free P n (place P none (record { value = 0; added = 0; accepted = 0; lane = 0 }) g).guide

-- J1 cannot tell "at most" from "less than", and its floor is not 0. So: with P = 3 an empty order, one entry, one fewer than P, as many as P,
-- one more (3 3 2 1); with P = 1 two entries; with P = 4 six, a flush and six more (4 4 4 3 2 1 4 4 4 3 2 1), where the first six run out, too
pub floors_got : List ℕ
floors_got =
    floor 3 []
    ∷ floor 3 (free 3 1 fresh).order
    ∷ floor 3 (free 3 2 fresh).order
    ∷ floor 3 (free 3 3 fresh).order
    ∷ floor 3 (free 3 4 fresh).order
    ∷ floor 1 (free 1 2 fresh).order
    ∷ floor 4 (free 4 6 (free 4 6 fresh)).order
    ∷ []

pub floors : floors_got ≡ 0 ∷ 0 ∷ 0 ∷ 3 ∷ 3 ∷ 1 ∷ 1 ∷ []
unfolding floors_got free parallelism parallelism_by last_parallelism annotate released fresh release flush_guide seek found begin choose put settle apply place least before_run_out floor
floors = refl
