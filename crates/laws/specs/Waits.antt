-- Document 02, M-105, whether a registration waits, as a test: it is the sentence of Delaying, and an accepted registration waits unless it
-- is ready.
use Rattle.std.specs.Prelude.{◌≡◌, ◌⊎◌, Bool, false, not, ℕ, ◌<◌, length, eqb}
use Rattle.std.proofs.Math.Path.{refl}
use mathlib.Core.List.Memᴰ
use mathlib.Core.List.{List, [], ◌∷◌, Memᴰ}
use Rattle.std.proofs.Common.{inl, inr, eqb-true, eq-eqb}
use Rattle.std.proofs.Math.Bool.{true, or-true}
use Rattle.std.proofs.lemmas.Bool.{false≢true}
use Rattle.rules.specs.Model.{Pending, Model, reg_of, ready, watermark}
use Rattle.rules.specs.Checks.{any}
use Rattle.rules.specs.Reason.{waits}
use Rattle.laws.specs.ModelBase.{bool_cases, or_cases}
use Rattle.laws.specs.Delaying.{IsPending}
use Rattle.laws.specs.Sound.{Between}

-- a test that some element passes
module _ {A : Type 0} (t : A → Bool) where
  any_in : (l : List A) → any t l ≡ true → (x : A) × Memᴰ x l × (t x ≡ true)
  unfolding any
  any_in [] h = absurd (false≢true h)
  any_in (x ∷ l) h = go (or_cases (t x) (any t l) h) (any_in l)
    where
      go : (t x ≡ true) ⊎ (any t l ≡ true) → (any t l ≡ true → (y : A) × Memᴰ y l × (t y ≡ true)) → (y : A) × Memᴰ y (x ∷ l) × (t y ≡ true)
      go (inl e) f = (x, Memᴰ.head refl, e)
      go (inr e) f = let y = f e in (y.0, Memᴰ.tail y.1, y.2)

  in_any : (x : A) (l : List A) → Memᴰ x l → t x ≡ true → any t l ≡ true
  unfolding any
  in_any x [] h e = absurd (Memᴰ.not-nil h)
  in_any x (y ∷ l) (Memᴰ.head d) e = rw (← d, e)
  in_any x (y ∷ l) (Memᴰ.tail h) e = rw (in_any x l h e, or-true)

pub waits_pending : (r : ℕ) (k : Model) → waits r k ≡ true → IsPending k r
unfolding waits
waits_pending r k h = let w = any_in (λ (v : Pending). eqb v.reg r) k.pending h in (w.0, w.1, eqb-true w.0.reg r w.2)

pub pending_waits : (r : ℕ) (k : Model) → IsPending k r → waits r k ≡ true
unfolding waits
pending_waits r k w = in_any (λ (v : Pending). eqb v.reg r) w.0 k.pending w.1 (eq-eqb w.0.reg r w.2)

module _ {P N W : ℕ} {k : Model} (b : Between P N W k) where
  -- who waits is not ready
  pub waits_not_ready : (r : ℕ) → waits r k ≡ true → ready (watermark N k) (reg_of k r).ins ≡ false
  waits_not_ready r h = let w = waits_pending r k h in rw (← w.2) (b.sound.delaying.above w.0 w.1)

  -- and every other accepted one is
  pub waits_unless_ready : (r : ℕ) → r < length k.adds → waits r k ≡ not (ready (watermark N k) (reg_of k r).ins)
  waits_unless_ready r h = go (b.sound.delaying.others r h) (bool_cases (waits r k))
    where
      go : IsPending k r ⊎ (ready (watermark N k) (reg_of k r).ins ≡ true) → (waits r k ≡ true) ⊎ (waits r k ≡ false)
          → waits r k ≡ not (ready (watermark N k) (reg_of k r).ins)
      go x (inl e) = rw (e, waits_not_ready r e)
      go (inl x) (inr e) = absurd (false≢true (cc (e, pending_waits r k x)))
      go (inr x) (inr e) = rw (e, x)
