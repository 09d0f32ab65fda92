-- Recorded runs of the Rust, written by oracle/vectors.py: what the definitions give after each is what the oracle answered. Assumes nothing.
use Rattle.std.specs.Prelude.{◌≡◌, refl, List, [], ◌∷◌, map}
use Rattle.std.specs.Int.Count.{count_trailing_zeros}
use Rattle.std.specs.Float.Ieee.{round, size, span, climb, units, odd, to_bits}
use Rattle.rules.specs.Guide.{parallelism, parallelism_by, last_parallelism, annotate, released, fresh, release, flush as flush_guide, seek, found, begin, choose, put, settle}
use Rattle.rules.specs.Guide.{apply, place, tallied, tally}
use Rattle.rules.specs.Model.{initial, member, marked, tracked, run_from, watermark, greatest, ready, loc_of, later, top, after, spotted, reg_of, place_one, due, left, queue}
use Rattle.rules.specs.Model.{keep, push as push_stack, off, rest, with_set, with_add, cascade, settle_all, do_set, do_add, with_record, note_add, note_flush, note_final}
use Rattle.rules.specs.Model.{with_flush, do_flush, do_final}
use Rattle.rules.specs.Checks.{verdict, any, repeats, written_by, taken, pooled, check_closed, check_places, check_set, check_add, check_flush, check_final}
use Rattle.rules.specs.Calls.{checks, answer, apply_call, unless_refused, step, run, set, flush, final}
use Rattle.rules.specs.Alone.{alone, holds, stray, worn, check_push, check_flush_alone, requests, reply, location, serve, serve_step, serve_all}
use Rattle.rules.specs.Summary.{sum, average, median_from, median, counts, thousands, figures}
use Rattle.rules.specs.Record.{mark_by, unfilled, fill, row_after, row_of, summary}
use Rattle.vectors.specs.Shown.{Compared, at, item, keep_zero, trimmed, window, entry, held_item, joined, row, rows_from, place_row, places_from, traced, figured, closing}
use Rattle.vectors.specs.Shown.{after_calls, traced_calls, where_to, served, after_requests, traced_requests}

pub runs : List Compared
runs =
    -- nothing but final
    record {
      got = traced_calls 1 1 (final ∷ []);
      want = ((0 ∷ 0 ∷ 0 ∷ 32 ∷ []) ∷ []) ∷ [] ∷ [] ∷ [] ∷ [] ∷ ((0 ∷ 0 ∷ []) ∷ []) ∷ [] ∷ ((0 ∷ 0 ∷ []) ∷ (0 ∷ []) ∷ (0 ∷ []) ∷ (128 ∷ []) ∷ (65 ∷ []) ∷ []) ∷ [];
    }
    -- flush without a registration
    ∷ record {
      got = traced_calls 7 3 (flush ∷ set 0 ∷ flush ∷ final ∷ []);
      want = ((0 ∷ 0 ∷ 0 ∷ 32 ∷ []) ∷ (0 ∷ 0 ∷ 1 ∷ 32 ∷ []) ∷ (0 ∷ 0 ∷ 1 ∷ 64 ∷ []) ∷ (0 ∷ 0 ∷ 1 ∷ 96 ∷ []) ∷ []) ∷ [] ∷ [] ∷ ((0 ∷ 49152 ∷ 0 ∷ 0 ∷ []) ∷ []) ∷ []
          ∷ ((0 ∷ 0 ∷ 0 ∷ 0 ∷ 0 ∷ 0 ∷ 0 ∷ 0 ∷ []) ∷ []) ∷ [] ∷ ((0 ∷ 1 ∷ []) ∷ (0 ∷ []) ∷ (0 ∷ []) ∷ (128 ∷ []) ∷ (65 ∷ []) ∷ []) ∷ [];
    }
    ∷ []

-- each run's two sides are the same
pub agree : map (λ r. r.got) runs ≡ map (λ r. r.want) runs
unfolding runs parallelism parallelism_by last_parallelism annotate released fresh release flush_guide seek found begin choose put settle apply place tallied tally initial member
    marked tracked run_from watermark greatest ready loc_of later top after spotted reg_of place_one due left queue keep push_stack off rest with_set with_add cascade settle_all
    do_set do_add with_record note_add note_flush note_final with_flush do_flush do_final verdict any repeats written_by taken pooled check_closed check_places check_set check_add
    check_flush check_final checks answer apply_call unless_refused step run alone holds stray worn check_push check_flush_alone requests reply location serve serve_step serve_all
    sum average median_from median counts thousands figures mark_by unfilled fill row_after row_of summary at item keep_zero trimmed window entry held_item joined row rows_from
    place_row places_from traced figured closing after_calls traced_calls where_to served after_requests traced_requests round size span climb units odd to_bits
    count_trailing_zeros
agree = refl
