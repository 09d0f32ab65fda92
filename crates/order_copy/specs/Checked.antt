-- Laws of the checks before copying: the search for an entry that is too wide, the number in each case, and what an accepted copying
-- may presume. Assumes nothing.
use Rattle.std.specs.Prelude.{◌≡◌, refl, List, Bool, true, false, ◌||◌, ℕ, zero, suc, ◌+◌, ◌-◌, ◌≤◌, ◌<◌, ltb}
use Rattle.std.proofs.Math.Path.{sym}
use Rattle.std.proofs.Common.{ap, ◌∙◌, true≢false, arith}
use Rattle.std.proofs.Math.Decide.{dec_lt}
use borrow.Author.Tests.{lt-ltb, le-ltb}
use Rattle.rules.specs.Limits.{most_lane}
use Rattle.rules.specs.Refusals as refusal
use Rattle.rules.specs.Checks.{verdict}
use Rattle.entries.specs.Entries.{capacity}
use Rattle.entries.specs.Stored.{capacity_fits}
use Rattle.order_copy.specs.Flat.{lane_of, Readable}
use Rattle.order_copy.specs.Copied.{wide_entry, check_new}

pub wide_none : (f : List ℕ) (k to : ℕ) → to ≤ k → wide_entry f k (to - k) ≡ false
unfolding wide_entry
wide_none f k to h = let e : to - k ≡ 0 = omega arith in rw e

pub wide_found : (f : List ℕ) (k to : ℕ) → k < to → most_lane < lane_of f k → wide_entry f k (to - k) ≡ true
unfolding wide_entry
wide_found f k to h w = let e : to - k ≡ suc (to - suc k) = omega arith in rw (e, wide_entry, lt-ltb most_lane (lane_of f k) w)

pub wide_next : (f : List ℕ) (k to : ℕ) → k < to → lane_of f k ≤ most_lane → wide_entry f k (to - k) ≡ wide_entry f (k + 1) (to - (k + 1))
unfolding wide_entry
wide_next f k to h w =
    let e : to - k ≡ suc (to - (k + 1)) = omega arith in
    let s : suc k ≡ k + 1 = omega arith in
    rw (e, wide_entry, le-ltb most_lane (lane_of f k) w) (ap (λ j. wide_entry f j (to - (k + 1))) s)

-- neither of two tests holds
none : (x : ℕ) (b : Bool) → (ltb most_lane x || b) ≡ false → (x ≤ most_lane) × (b ≡ false)
none x b e =
    elim (dec_lt most_lane x) [ yes w ↦ absurd (true≢false (sym (ap (λ t. t || b) (lt-ltb most_lane x w)) ∙ e)) | no w ↦ (omega arith, sym (ap (λ t. t || b) (le-ltb most_lane x (omega arith))) ∙ e) ]

-- no entry is too wide
narrow : (f : List ℕ) (k n : ℕ) → wide_entry f k n ≡ false → (j : ℕ) → k ≤ j → j < k + n → lane_of f j ≤ most_lane
unfolding wide_entry
narrow f k zero e j l h = absurd (omega (arith, l, h))
narrow f k (suc n) e j l h =
    let p : (lane_of f k ≤ most_lane) × (wide_entry f (suc k) n ≡ false) = none (lane_of f k) (wide_entry f (suc k) n) e in
    elim (dec_lt k j) [ yes m ↦ narrow f (suc k) n p.1 j m (omega arith) | no m ↦ here p.0 (omega arith) ]
  where
    here : lane_of f k ≤ most_lane → j ≡ k → lane_of f j ≤ most_lane
    here w s = let x : lane_of f j ≡ lane_of f k = ap (lane_of f) s in omega (arith, w, x)

-- what an accepted copying may presume: the indices are there on both sides, and each entry can be read
pub record Ready (room : ℕ) (f : List ℕ) (from to : ℕ) : Type 0 where
  pub order : from ≤ to
  pub within : to ≤ room
  pub readable : (k : ℕ) → from ≤ k → k < to → Readable f k

module _ (room : ℕ) (f : List ℕ) (from to : ℕ) where
  pub past : to < from → refusal.too_short ≡ check_new room f from to
  unfolding check_new verdict
  past h = rw (lt-ltb to from h)

  pub short_order : from ≤ to → room < to → refusal.too_short ≡ check_new room f from to
  unfolding check_new verdict
  short_order a h = rw (le-ltb to from a, lt-ltb room to h)

  pub short_flat : from ≤ to → to ≤ room → capacity f < to → refusal.too_short ≡ check_new room f from to
  unfolding check_new verdict
  short_flat a b h = rw (le-ltb to from a, le-ltb room to b, lt-ltb (capacity f) to h)

  pub wide : from ≤ to → to ≤ room → to ≤ capacity f → true ≡ wide_entry f from (to - from) → refusal.too_short ≡ check_new room f from to
  unfolding check_new verdict
  wide a b c e = rw (le-ltb to from a, le-ltb room to b, le-ltb (capacity f) to c, sym e)

  pub fine : from ≤ to → to ≤ room → to ≤ capacity f → false ≡ wide_entry f from (to - from) → 0 ≡ check_new room f from to
  unfolding check_new verdict
  fine a b c e = rw (le-ltb to from a, le-ltb room to b, le-ltb (capacity f) to c, sym e)

  pub ready : check_new room f from to ≡ 0 → Ready room f from to
  ready e = elim (dec_lt to from) [ yes h ↦ absurd (two (past h ∙ e)) | no h ↦ rest (omega arith) ]
    where
      two : ◌≡◌ {A = ℕ} refusal.too_short 0 → ⊥
      two p = omega (arith, p)

      each : from ≤ to → to ≤ capacity f → wide_entry f from (to - from) ≡ false → (k : ℕ) → from ≤ k → k < to → Readable f k
      each a c d k l h = record { stored = omega (arith, capacity_fits f to c); narrow = narrow f from (to - from) d k l (omega arith) }

      seen : from ≤ to → to ≤ room → to ≤ capacity f → (w : Bool) → w ≡ wide_entry f from (to - from) → Ready room f from to
      seen a b c true d = absurd (two (wide a b c d ∙ e))
      seen a b c false d = record { order = a; within = b; readable = each a c (sym d) }

      rest : from ≤ to → Ready room f from to
      rest a =
          elim (dec_lt room to) [
            | yes h ↦ absurd (two (short_order a h ∙ e))
            | no h ↦ elim (dec_lt (capacity f) to) [ yes l ↦ absurd (two (short_flat a (omega arith) l ∙ e)) | no l ↦ seen a (omega arith) (omega arith) (wide_entry f from (to - from)) refl ]
          ]
