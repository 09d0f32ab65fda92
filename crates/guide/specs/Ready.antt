-- What placing and flushing ask of the guide that the storage stands for, said of the model of `rules` alone; and what the pieces of the
-- code make of it. Assumes nothing.
use Rattle.std.specs.Prelude.{◌≡◌, refl, List, Bool, true, false, ℕ, ◌+◌, ◌≤◌, ◌<◌, length}
use Rattle.std.proofs.Math.Option.{Option, some, none}
use Rattle.std.specs.Prelude.{Option as Given}
use Rattle.std.proofs.Common.{arith}
use Rattle.rules.specs.Limits.{last_span_limit}
use Rattle.rules.specs.Guide.{Loc, Guide as GuideModel, held}
use Rattle.laws.specs.GuideInv.{Later}
use Rattle.window.specs.declared.Location.{Location}
use Rattle.window.specs.Location.{has, span_of, pos_of}
use Rattle.buffer.specs.declared.Guide.{Guide}
use Rattle.buffer.specs.View.{length_of, number_of, view}
use Rattle.placing.specs.Stands.{Stands}
use Rattle.placing.specs.Done.{Free, FreeTwo, view_length, len_view, number_view, order_view}
use Rattle.placing.specs.Flush.{held_two}

-- spans 1 and later hold at most P; with N = V the order has room for all that is written and held; the last span number is below the
-- limit, so that 32 more fit 32 bits
pub record Ready (P N : ℕ) (b : GuideModel) : Type 0 where
  pub later : Later P 1 b
  pub room : length b.order + held b.spans ≤ N
  pub low : b.first + 31 < last_span_limit

-- `after`, where there is one, does not lie past the window
abbrev pub Near : GuideModel → Option Loc → Type 0
Near b after = (l : Loc) → after ≡ some l → l.span ≤ b.first + 31

-- `after` as the code takes it
unfoldable pub after_of : Bool → ℕ → ℕ → Option Loc
after_of true span pos = some (record { span = span; pos = pos })
after_of false span pos = none

-- the same of a location as the code has it
abbrev pub loc_of : Given Location → Option Loc
loc_of after = after_of (has after) (span_of after) (pos_of after)

pub near_code : (b : GuideModel) (has : Bool) (span pos : ℕ) → Near b (after_of has span pos) → has ≡ true → span ≤ b.first + 31
unfolding after_of
near_code b true span pos h e = h (record { span = span; pos = pos }) refl
near_code b false span pos h e = let z : ◌≡◌ {A = ℕ} 0 1 = cc in absurd (omega arith)

pub near_of : (g : Guide) (s o : List ℕ) (has : Bool) (span pos : ℕ) → Near (view g s o) (after_of has span pos) → has ≡ true → span ≤ number_of g 0 + 31
unfolding view
near_of g s o has span pos h e = near_code (view g s o) has span pos h e

-- the same of the window
module _ (g : Guide) (s o t : List ℕ) (k : Stands g s o t) (r : Ready g.p g.v (view g s o)) where
  pub code_later : (i : ℕ) → 1 ≤ i → length_of g i ≤ g.p
  code_later i h = rw (len_view g s o k.laid i) at (r.later i h)

  code_room : g.written + length_of g 0 + length_of g 1 ≤ g.v
  code_room =
      omega (arith, r.room, order_view g s o, held_two (view g s o).spans (view_length g s o k.laid), len_view g s o k.laid 0, len_view g s o k.laid 1)

  code_low : number_of g 31 < last_span_limit
  code_low = omega (arith, r.low, number_view g s o k.laid 31 (omega arith))

  pub code_two : FreeTwo g
  code_two = record { room = code_room; low = omega (arith, code_low); last = code_later 31 (omega arith) }

  pub code_free : Free g
  code_free = record { room = omega (arith, code_room); low = omega (arith, code_low) }
