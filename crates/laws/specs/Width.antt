-- The laws of the parallelism rule: one closed form for all its cases (`flat`), its bounds, and how far position plus parallelism
-- reaches.
use Rattle.std.specs.Prelude.{◌≡◌, refl, Bool, true, false, ℕ, ◌+◌, ◌-◌, ◌≤◌, ◌<◌, min, max, leb, ltb}
use native.Mathlib.Omega.{arith}
use Rattle.std.proofs.Common.{leb-true, leb-false, ltb-true, ltb-false}
use Rattle.rules.specs.Guide.{parallelism, parallelism_by, last_parallelism}

-- the rule without cases, for a position q below a, which is at most P + 1
unfoldable pub flat : ℕ → ℕ → ℕ → ℕ → ℕ
flat P a b q = max 1 (min (min P a) (min P a + b - q))

-- the five rules are this one
pub width_flat : (P a b q : ℕ) → 1 ≤ P → q < a → a ≤ P + 1 → parallelism P a b q ≡ flat P a b q
unfolding parallelism parallelism_by flat
width_flat P a b q hP hq ha = go (leb P a) (leb P b) (ltb q b) refl refl refl
  where
    go : (x y z : Bool) → leb P a ≡ x → leb P b ≡ y → ltb q b ≡ z → parallelism_by P a b q x y z ≡ flat P a b q
    go true true z h k l = omega (arith, leb-true P a h, leb-true P b k)
    go true false true h k l = omega (arith, leb-true P a h, leb-false P b k, ltb-true q b l)
    go true false false h k l = omega (arith, leb-true P a h, leb-false P b k, ltb-false q b l)
    go false true z h k l = omega (arith, leb-false P a h, leb-true P b k)
    go false false z h k l = omega (arith, leb-false P a h, leb-false P b k)

-- span 31 in a flush: as if the next were empty
pub last_width_flat : (P a q : ℕ) → q < a → a ≤ P → last_parallelism a q ≡ flat P a 0 q
unfolding last_parallelism flat
last_width_flat P a q hq ha = omega arith

mono_core : (m b q r : ℕ) → q ≤ r → q + max 1 (min m (m + b - q)) ≤ r + max 1 (min m (m + b - r))
mono_core m b q r h = omega arith

module _ (P a b q : ℕ) (hP : 1 ≤ P) (hq : q < a) where
  -- it is from 1 to P
  pub width_pos : 1 ≤ flat P a b q
  unfolding flat
  width_pos = omega arith

  pub width_le : flat P a b q ≤ P
  unfolding flat
  width_le = omega arith

  -- the reach of an item, its position plus its parallelism: it does not fall within a span,
  pub reach_mono : (r : ℕ) → q ≤ r → q + flat P a b q ≤ r + flat P a b r
  unfolding flat
  reach_mono r h = mono_core (min P a) b q r h

  -- it is at least the lesser of P and the span's length,
  pub reach_low : min P a ≤ q + flat P a b q
  unfolding flat
  reach_low = omega arith

  -- it ends at most the lesser of P and the next span's length beyond the span,
  pub reach_high : q + flat P a b q ≤ a + min P b
  unfolding flat
  reach_high = omega arith

  -- and not past a reader in the next span at the same position or later
  pub reach_next : (r : ℕ) → q ≤ r → r < b → q + flat P a b q ≤ a + r
  unfolding flat
  reach_next r h k = omega arith
