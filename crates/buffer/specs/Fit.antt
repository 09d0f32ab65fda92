-- What the release of span 0 asks of the window, the span storage and the order. Assumes nothing.
use Rattle.std.specs.Prelude.{List, ℕ, ◌+◌, ◌^◌, ◌<◌, ◌≤◌, get_or}
use Rattle.std.proofs.Common.{arith}
use Rattle.rules.specs.Limits.{most_parallelism, most_places}
use Rattle.rules.specs.Checks.{spans_needed}
use Rattle.entries.specs.Entries.{fits}
use Rattle.buffer.specs.declared.Guide.{Guide}
use Rattle.buffer.specs.View.{length_of, number_of, Laid}
use Rattle.buffer.specs.Rows.{most_at}
use Rattle.buffer.specs.Held.{first_held}

-- span 0 lies within the span storage, the order has room for it, and the new last span's number fits 32 bits
pub record Fit (g : Guide) (s o : List ℕ) : Type 0 where
  pub one : 1 ≤ g.p
  pub few : g.p ≤ most_parallelism
  pub in_rows : get_or g.window.rows 0 0 < 32
  pub short : length_of g 0 ≤ g.p + 1
  pub next_short : length_of g 1 ≤ g.p + 1
  pub held : length_of g 0 ≤ g.held
  pub long : fits s (spans_needed g.p)
  pub room : fits o (g.written + length_of g 0)
  pub small : g.written + length_of g 0 ≤ most_places
  pub low : number_of g 31 + 1 < 2 ^ 32

pub laid_fit : (g : Guide) (s o : List ℕ) → Laid g s → fits o (g.written + length_of g 0) → g.written + length_of g 0 ≤ most_places
    → number_of g 31 + 1 < 2 ^ 32 → Fit g s o
laid_fit g s o k room small low =
    record {
      one = k.one;
      few = k.few;
      in_rows = omega (arith, most_at 31 g.window.rows 0 k.below);
      short = most_at (g.p + 1) g.window.lens 0 k.short;
      next_short = most_at (g.p + 1) g.window.lens 1 k.short;
      held = first_held g s k;
      long = k.long;
      room = room;
      small = small;
      low = low;
    }
