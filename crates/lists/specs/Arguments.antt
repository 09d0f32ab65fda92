-- What the checks of a call's lists tell of them, and the readiness test by the greatest input. Assumes nothing.
use Rattle.std.specs.Prelude.{◌≡◌, refl, ◌⊎◌, List, [], ◌∷◌, ◌++◌, true, false, ℕ, ◌≤◌, ◌<◌, leb, length}
use Rattle.std.proofs.Common.{sym, inl, inr, arith, leb-false, lt-ltb, le-ltb}
use Rattle.std.proofs.lemmas.Bool.{false≢true, lt-leb}
use Rattle.rules.specs.Model.{greatest, ready}
use Rattle.rules.specs.Checks.{any}
use Rattle.laws.specs.ModelBase.{bool_cases}
use Rattle.lists.specs.Part.{Below}

-- check 5 passed: every place is below N
pub any_below : (N : ℕ) (xs : List ℕ) → any (λ x. leb N x) xs ≡ false → Below N xs
unfolding any Below
any_below N [] e = tt
any_below N (x ∷ xs) e = go (bool_cases (leb N x)) (any_below N xs)
  where
    go : (leb N x ≡ true) ⊎ (leb N x ≡ false) → (any (λ y. leb N y) xs ≡ false → Below N xs) → (x < N) × Below N xs
    go (inl b) r = absurd (false≢true (sym (rw b at e)))
    go (inr b) r = (leb-false N x b, r (rw b at e))

pub below_any : (N : ℕ) (xs : List ℕ) → Below N xs → any (λ x. leb N x) xs ≡ false
unfolding any Below
below_any N [] b = refl
below_any N (x ∷ xs) b = rw (lt-leb N x b.0) (below_any N xs b.1)

pub below_append : (N : ℕ) (a b : List ℕ) → Below N (a ++ b) → Below N a × Below N b
unfolding Below
below_append N [] b h = (tt, h)
below_append N (x ∷ a) b h = let r = below_append N a b h.1 in ((h.0, r.0), r.1)

-- the greatest of places below N is below N
pub greatest_below : (N : ℕ) (xs : List ℕ) → 0 < N → Below N xs → greatest xs < N
unfolding greatest Below
greatest_below N [] z b = z
greatest_below N (x ∷ xs) z b = omega (arith, b.0, greatest_below N xs z b.1)

pub below_greatest : (N : ℕ) (xs : List ℕ) → greatest xs < N → Below N xs
unfolding greatest Below
below_greatest N [] h = tt
below_greatest N (x ∷ xs) h = (omega arith, below_greatest N xs (omega arith))

-- ready: no inputs, or the greatest below the watermark
pub ready_none : (m : ℕ) (xs : List ℕ) → length xs ≡ 0 → ready m xs ≡ true
unfolding ready
ready_none m [] e = refl
ready_none m (x ∷ xs) e = absurd (omega arith)

pub ready_low : (m : ℕ) (xs : List ℕ) → greatest xs < m → ready m xs ≡ true
unfolding ready
ready_low m [] h = refl
ready_low m (x ∷ xs) h = lt-ltb (greatest (x ∷ xs)) m h

pub ready_high : (m : ℕ) (xs : List ℕ) → (length xs ≡ 0 → ⊥) → m ≤ greatest xs → ready m xs ≡ false
unfolding ready
ready_high m [] n h = absurd (n refl)
ready_high m (x ∷ xs) n h = le-ltb (greatest (x ∷ xs)) m h
