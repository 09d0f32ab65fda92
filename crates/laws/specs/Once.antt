-- From the balance: no registration stands twice in the history (`one_place`), and with the weight 1 the sums are the counts.
use Rattle.std.specs.Prelude.{◌≡◌, refl, ◌⊎◌, ◌≢◌, true, false, length, get_or, eqb}
use mathlib.Core.List.{List, [], ◌∷◌}
use Rattle.std.proofs.Common.{inl, inr, eq-eqb, ne_eqb}
use Prim.Native.Nat.{ℕ, zero, suc, ◌+◌, ◌≤◌, ◌<◌}
use native.Mathlib.Omega.{arith}
use Rattle.rules.specs.Guide.{Item, Entry, held}
use Rattle.rules.specs.Model.{Pending}
use Rattle.laws.specs.History.{len, lt_or_le}
use Rattle.laws.specs.GuideInv.{eq_or_ne}
use Rattle.laws.specs.ModelBase.{entry_at, no_entry}
use Rattle.laws.specs.Balance.{esum, hsum, wsum, qsum, below}

module _ (φ : ℕ → ℕ) where
  esum_at : (l : List Item) (q : ℕ) (d : Item) → q < length l → φ (get_or l q d).added ≤ esum φ l
  unfolding esum
  esum_at [] q d h = absurd (omega arith)
  esum_at (e ∷ l) zero d h = omega arith
  esum_at (e ∷ l) (suc q) d h = omega (arith, esum_at l q d (omega arith))

  esum_two : (l : List Item) (q r : ℕ) (d : Item) → q < r → r < length l → φ (get_or l q d).added + φ (get_or l r d).added ≤ esum φ l
  unfolding esum
  esum_two [] q r d i h = absurd (omega arith)
  esum_two (e ∷ l) q zero d i h = absurd (omega arith)
  esum_two (e ∷ l) zero (suc r) d i h = omega (arith, esum_at l r d (omega arith))
  esum_two (e ∷ l) (suc q) (suc r) d i h = omega (arith, esum_two l q r d (omega arith) (omega arith))

  -- an entry of the history weighs no more than the history
  pub hsum_at : (H : List (List Item)) (s q : ℕ) → q < len H s → φ (entry_at H s q).added ≤ hsum φ H
  unfolding hsum entry_at
  hsum_at [] s q h = absurd (omega arith)
  hsum_at (l ∷ H) zero q h = omega (arith, esum_at l q no_entry h)
  hsum_at (l ∷ H) (suc s) q h = omega (arith, hsum_at H s q h)

  hsum_two : (H : List (List Item)) (s q t r : ℕ) → q < len H s → r < len H t → (s < t) ⊎ ((s ≡ t) × (q < r)) → φ (entry_at H s q).added + φ (entry_at H t r).added ≤ hsum φ H
  unfolding hsum entry_at
  hsum_two [] s q t r h k b = absurd (omega arith)
  hsum_two (l ∷ H) zero q zero r h k (inl b) = absurd (omega arith)
  hsum_two (l ∷ H) zero q zero r h k (inr b) = omega (arith, esum_two l q r no_entry b.1 k)
  hsum_two (l ∷ H) zero q (suc t) r h k b = omega (arith, esum_at l q no_entry h, hsum_at H t r k)
  hsum_two (l ∷ H) (suc s) q zero r h k (inl b) = absurd (omega arith)
  hsum_two (l ∷ H) (suc s) q zero r h k (inr b) = absurd (omega arith)
  hsum_two (l ∷ H) (suc s) q (suc t) r h k (inl b) = hsum_two_down (hsum_two H s q t r h k (inl (omega arith)))
    where
      hsum_two_down : φ (entry_at H s q).added + φ (entry_at H t r).added ≤ hsum φ H → φ (entry_at H s q).added + φ (entry_at H t r).added ≤ esum φ l + hsum φ H
      hsum_two_down x = omega arith
  hsum_two (l ∷ H) (suc s) q (suc t) r h k (inr b) = omega (arith, hsum_two H s q t r h k (inr (omega arith)))

-- the weight of one registration
unfoldable pub one_of : ℕ → ℕ → ℕ
one_of r x = elim (eqb r x) [ true ↦ 1 | false ↦ 0 ]

pub one_same : (r x : ℕ) → r ≡ x → one_of r x ≡ 1
unfolding one_of
one_same r x h = rw (eq-eqb r x h, one_of)

pub one_other : (r x : ℕ) → r ≢ x → one_of r x ≡ 0
unfolding one_of
one_other r x h = rw (ne_eqb r x h, one_of)

pub one_le : (r x : ℕ) → one_of r x ≤ 1
one_le r x = go (eq_or_ne r x)
  where
    go : (r ≡ x) ⊎ (r ≢ x) → one_of r x ≤ 1
    go (inl e) = omega (arith, one_same r x e)
    go (inr e) = omega (arith, one_other r x e)

below_none : (r n : ℕ) → n ≤ r → below (one_of r) n ≡ 0
unfolding below
below_none r zero h = refl
below_none r (suc n) h = omega (arith, below_none r n (omega arith), one_other r n (omega arith))

-- among the first n it weighs 1 if it is one of them
pub below_one : (r n : ℕ) → r < n → below (one_of r) n ≡ 1
unfolding below
below_one r zero h = absurd (omega arith)
below_one r (suc n) h = go (eq_or_ne r n) (λ i. below_one r n i)
  where
    go : (r ≡ n) ⊎ (r ≢ n) → (r < n → below (one_of r) n ≡ 1) → below (one_of r) n + one_of r n ≡ 1
    go (inl e) f = omega (arith, below_none r n (omega arith), one_same r n e)
    go (inr e) f = omega (arith, f (omega arith), one_other r n e)

pub below_le : (r n : ℕ) → below (one_of r) n ≤ 1
below_le r n = go (lt_or_le r n)
  where
    go : (r < n) ⊎ (n ≤ r) → below (one_of r) n ≤ 1
    go (inl h) = omega (arith, below_one r n h)
    go (inr h) = omega (arith, below_none r n h)

-- where every weight of the history is at most that of the first n registrations, a registration has one location
pub one_place : (H : List (List Item)) (n : ℕ) → ((φ : ℕ → ℕ) → hsum φ H ≤ below φ n) → (s q t r : ℕ) → q < len H s → r < len H t
    → (entry_at H s q).added ≡ (entry_at H t r).added → (s ≡ t) × (q ≡ r)
one_place H n f s q t r h k e = go (lt_or_le s t) (lt_or_le t s) (lt_or_le q r) (lt_or_le r q)
  where
    x : ℕ
    x = (entry_at H s q).added

    no_two : 2 ≤ hsum (one_of x) H → ⊥
    no_two b = omega (arith, f (one_of x), below_le x n)

    here : one_of x (entry_at H s q).added ≡ 1
    here = one_same x x refl

    there : one_of x (entry_at H t r).added ≡ 1
    there = one_same x _ e

    go : (s < t) ⊎ (t ≤ s) → (t < s) ⊎ (s ≤ t) → (q < r) ⊎ (r ≤ q) → (r < q) ⊎ (q ≤ r) → (s ≡ t) × (q ≡ r)
    go (inl a) b c d = absurd (no_two (omega (arith, hsum_two (one_of x) H s q t r h k (inl a), here, there)))
    go (inr a) (inl b) c d = absurd (no_two (omega (arith, hsum_two (one_of x) H t r s q k h (inl b), here, there)))
    go (inr a) (inr b) (inl c) d = absurd (no_two (omega (arith, hsum_two (one_of x) H s q t r h k (inr (omega arith, c)), here, there)))
    go (inr a) (inr b) (inr c) (inl d) = absurd (no_two (omega (arith, hsum_two (one_of x) H t r s q k h (inr (omega arith, d)), here, there)))
    go (inr a) (inr b) (inr c) (inr d) = omega arith

-- the weight 1 counts
pub wsum_one : (l : List Entry) → wsum (λ x. 1) l ≡ length l
unfolding wsum
wsum_one [] = refl
wsum_one (w ∷ l) = omega (arith, wsum_one l)

pub qsum_one : (l : List Pending) → qsum (λ x. 1) l ≡ length l
unfolding qsum
qsum_one [] = refl
qsum_one (w ∷ l) = omega (arith, qsum_one l)

pub below_all : (n : ℕ) → below (λ x. 1) n ≡ n
unfolding below
below_all zero = refl
below_all (suc n) = omega (arith, below_all n)

esum_one : (l : List Item) → esum (λ x. 1) l ≡ length l
unfolding esum
esum_one [] = refl
esum_one (w ∷ l) = omega (arith, esum_one l)

pub hsum_one : (H : List (List Item)) → hsum (λ x. 1) H ≡ held H
unfolding hsum held
hsum_one [] = refl
hsum_one (l ∷ H) = omega (arith, hsum_one H, esum_one l)
