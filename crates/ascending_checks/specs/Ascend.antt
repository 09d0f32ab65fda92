-- Places that ascend from m: what the code looks at, and what it says of them; and a breach by an add, by what the code looks at.
-- Assumes nothing.
use Rattle.std.specs.Prelude.{◌≡◌, refl, ◌⊎◌, List, [], ◌∷◌, Bool, true, false, ◌&&◌, ◌==◌, leb, eqb, length}
use Rattle.std.proofs.Common.{sym, ap, ◌∙◌, inl, inr, add-zero}
use Rattle.std.proofs.lemmas.Bool.{false≢true}
use Rattle.std.specs.List.{list_all, enumerate_from}
use Prim.Native.Nat.{ℕ, suc, ◌+◌, ◌≤◌, ◌<◌}
use native.Mathlib.Omega.{arith}
use borrow.Author.Tests.{eqb-true, ne_eqb}
use Rattle.rules.specs.Model.{member}
use Rattle.rules.specs.Checks.{any, repeats}
use Rattle.rules.specs.Ascending.{ascend, first_or, add_breach}
use Rattle.laws.specs.ModelBase.{bool_cases}
use Rattle.lists.specs.Part.{Below}
use Rattle.ascending_checks.specs.Parts.{ascends, Under}
use Rattle.std.specs.Prelude.{get_or, drop}
use borrow.Author.Tests.{eq-eqb}
use Rattle.lists.specs.Scan.{drop_step, drop_none}

-- what `ascends` looks at
ascends_from : (m k : ℕ) (xs : List ℕ) → list_all (λ (p : ℕ × ℕ). p.1 == (m + p.0)) (enumerate_from k xs) ≡ ascend (m + k) xs
unfolding ascend
ascends_from m k [] = refl
ascends_from m k (x ∷ xs) =
    let next : m + (k + 1) ≡ suc (m + k) = omega arith in
    ap (λ (b : Bool). (x == (m + k)) && b) (ascends_from m (k + 1) xs ∙ ap (λ (n : ℕ). ascend n xs) next)

pub ascends_is : (m : ℕ) (xs : List ℕ) → ascends m xs ≡ ascend m xs
ascends_is m xs = ascends_from m 0 xs ∙ rw add-zero

ascend_split : (m x : ℕ) (xs : List ℕ) → ascend m (x ∷ xs) ≡ true → (x ≡ m) × (ascend (suc m) xs ≡ true)
unfolding ascend
ascend_split m x xs e = go (bool_cases (eqb x m))
  where
    go : (eqb x m ≡ true) ⊎ (eqb x m ≡ false) → (x ≡ m) × (ascend (suc m) xs ≡ true)
    go (inl q) = (eqb-true x m q, rw q at e)
    go (inr q) = absurd (false≢true (rw q at e))

-- they end where as many places from m on do
pub ascend_below : (N m : ℕ) (xs : List ℕ) → ascend m xs ≡ true → m + length xs ≤ N → Below N xs
unfolding Below
ascend_below N m [] e h = tt
ascend_below N m (x ∷ xs) e h = let s = ascend_split m x xs e in (omega (arith, s.0), ascend_below N (suc m) xs s.1 (omega arith))

pub below_ascend : (N m : ℕ) (xs : List ℕ) → ascend m xs ≡ true → m ≤ N → Below N xs → m + length xs ≤ N
unfolding Below
below_ascend N m [] e h b = omega arith
below_ascend N m (x ∷ xs) e h b =
    let s = ascend_split m x xs e in
    let r = below_ascend N (suc m) xs s.1 (omega (arith, s.0, b.0)) b.1 in
    omega (arith, r)

-- none of them is one that lies below m, so none repeats
ascend_new : (m x : ℕ) (xs : List ℕ) → x < m → ascend m xs ≡ true → member x xs ≡ false
unfolding member
ascend_new m x [] h e = refl
ascend_new m x (y ∷ xs) h e = let s = ascend_split m y xs e in rw (ne_eqb x y (λ q. omega (arith, s.0))) (ascend_new (suc m) x xs (omega arith) s.1)

pub ascend_once : (m : ℕ) (xs : List ℕ) → ascend m xs ≡ true → repeats xs ≡ false
unfolding repeats
ascend_once m [] e = refl
ascend_once m (x ∷ xs) e = let s = ascend_split m x xs e in rw (ascend_new (suc m) x xs (omega (arith, s.0)) s.1) (ascend_once (suc m) xs s.1)

-- nor is any taken
pub ascend_free : (t : ℕ → Bool) (m : ℕ) (xs : List ℕ) → Under m t → ascend m xs ≡ true → any t xs ≡ false
unfolding any
ascend_free t m [] u e = refl
ascend_free t m (x ∷ xs) u e = let s = ascend_split m x xs e in rw (u x (omega (arith, s.0))) (ascend_free t (suc m) xs (λ y h. u y (omega arith)) s.1)

ascend_first : (m : ℕ) (xs : List ℕ) → ascend m xs ≡ true → first_or m xs ≡ m
unfolding first_or
ascend_first m [] e = refl
ascend_first m (x ∷ xs) e = (ascend_split m x xs e).0

-- a breach: the outputs do not ascend from m, or an input is m or more
module _ (m : ℕ) (ins outs : List ℕ) where
  pub breach_outs : ascend m outs ≡ false → add_breach m ins outs ≡ true
  unfolding add_breach
  breach_outs e = rw e

  pub breach_ins : ascend m outs ≡ true → add_breach m ins outs ≡ any (λ i. leb m i) ins
  unfolding add_breach
  breach_ins e = rw (e, ascend_first m outs e)

  pub breach_none : add_breach m ins outs ≡ false → (ascend m outs ≡ true) × (any (λ i. leb m i) ins ≡ false)
  breach_none h = go (bool_cases (ascend m outs))
    where
      go : (ascend m outs ≡ true) ⊎ (ascend m outs ≡ false) → (ascend m outs ≡ true) × (any (λ i. leb m i) ins ≡ false)
      go (inl e) = (e, sym (breach_ins e) ∙ h)
      go (inr e) = absurd (false≢true (sym h ∙ breach_outs e))

module _ (m : ℕ) (xs : List ℕ) where
  pub ascend_begins : ascend m xs ≡ ascend (m + 0) (drop 0 xs)
  ascend_begins = rw add-zero

  module _ (i : ℕ) (h : i < length xs) where
    pub ascend_more : get_or xs i 0 ≡ m + i → ascend (m + i) (drop i xs) ≡ ascend (m + (i + 1)) (drop (i + 1) xs)
    unfolding ascend
    ascend_more e =
        let next : m + (i + 1) ≡ suc (m + i) = omega arith in
        rw (drop_step xs i h, next, eq-eqb (get_or xs i 0) (m + i) e)

    pub ascend_stops : (get_or xs i 0 ≡ m + i → ⊥) → ascend (m + i) (drop i xs) ≡ false
    unfolding ascend
    ascend_stops n = rw (drop_step xs i h, ne_eqb (get_or xs i 0) (m + i) n)

  pub ascend_ends : (i : ℕ) → length xs ≤ i → ascend (m + i) (drop i xs) ≡ true
  unfolding ascend
  ascend_ends i h = rw (drop_none xs i h)
