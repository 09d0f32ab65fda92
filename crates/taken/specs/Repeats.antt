-- When a list of places has one twice, by its first i places. Assumes nothing.
use Rattle.std.specs.Prelude.{◌≡◌, refl, ◌⊎◌, List, [], ◌∷◌, ◌++◌, Bool, true, false, cond, ◌||◌, ℕ, ◌+◌, ◌-◌, ◌≤◌, ◌<◌, eqb, length, get_or, take, drop, reverse}
use Rattle.std.proofs.Common.{sym, ap, ◌∙◌, subst, inl, inr, ⊎_elim, add-one, arith, take-append-drop, take-suc, length-take-le, get_or-take, eq-eqb, ne_eqb}
use Rattle.std.proofs.lemmas.List.{get_or-reverse, length-reverse}
use Rattle.std.proofs.lemmas.Grind.{get_or_default_zero}
use Rattle.std.proofs.Math.Bool.{or-true, or-false}
use Rattle.rules.specs.Model.{member}
use Rattle.rules.specs.Checks.{repeats}
use Rattle.laws.specs.ModelBase.{bool_cases}
use Rattle.laws.specs.Accepted.{or_false as or_split}
use Rattle.laws.specs.GuideInv.{eq_or_ne}
use Rattle.lists.specs.Part.{Below}
use Rattle.lists.specs.Arguments.{below_append}

member_append : (x : ℕ) (a b : List ℕ) → member x (a ++ b) ≡ (member x a || member x b)
unfolding member
member_append x [] b = refl
member_append x (y ∷ a) b = go (eqb x y) (member_append x a b)
  where
    go : (c : Bool) → member x (a ++ b) ≡ (member x a || member x b) → (c || member x (a ++ b)) ≡ ((c || member x a) || member x b)
    go true e = refl
    go false e = e

eqb_swap : (a b : ℕ) → eqb a b ≡ eqb b a
eqb_swap a b = ⊎_elim (λ e. eq-eqb a b e ∙ sym (eq-eqb b a (sym e))) (λ n. ne_eqb a b n ∙ sym (ne_eqb b a (λ e. n (sym e)))) (eq_or_ne a b)

member_snoc : (x y : ℕ) (a : List ℕ) → member x (a ++ (y ∷ [])) ≡ (member x a || eqb x y)
unfolding member
member_snoc x y a = member_append x a (y ∷ []) ∙ ap (λ (c : Bool). member x a || c) (or-false (eqb x y))

-- one more at the end: a list repeats where it did before, or where it has that one already
pub repeats_snoc : (a : List ℕ) (x : ℕ) → repeats (a ++ (x ∷ [])) ≡ (repeats a || member x a)
unfolding repeats member
repeats_snoc [] x = refl
repeats_snoc (y ∷ a) x =
    ap (λ (c : Bool). c || repeats (a ++ (x ∷ []))) (member_snoc y x a) ∙ ap (λ (c : Bool). (member y a || eqb y x) || c) (repeats_snoc a x)
    ∙ ap (λ (c : Bool). (member y a || c) || (repeats a || member x a)) (eqb_swap y x) ∙ four (member y a) (eqb x y) (repeats a) (member x a)
  where
    four : (a b c d : Bool) → ((a || b) || (c || d)) ≡ ((a || c) || (b || d))
    four true b c d = refl
    four false true true d = refl
    four false true false d = refl
    four false false c d = refl

repeats_more : (a b : List ℕ) → repeats a ≡ true → repeats (a ++ b) ≡ true
unfolding repeats
repeats_more [] b e = absurd (let z : ◌≡◌ {A = ℕ} 0 1 = ap (λ (c : Bool). cond {A = ℕ} c 1 0) e in omega arith)
repeats_more (y ∷ a) b e = go (bool_cases (member y a)) (repeats_more a b)
  where
    go : (member y a ≡ true) ⊎ (member y a ≡ false) → (repeats a ≡ true → repeats (a ++ b) ≡ true) → (member y (a ++ b) || repeats (a ++ b)) ≡ true
    go (inl m) r = rw (member_append y a b, m)
    go (inr m) r = rw (r (rw m at e), or-true)

pub take_next : (xs : List ℕ) (i : ℕ) → i < length xs → take (i + 1) xs ≡ take i xs ++ (get_or xs i 0 ∷ [])
take_next xs i h = rw (add-one, take-suc xs i 0)

-- one that has come before repeats
pub repeats_met : (xs : List ℕ) (i : ℕ) → i < length xs → member (get_or xs i 0) (take i xs) ≡ true → repeats xs ≡ true
repeats_met xs i h m =
    let a : repeats (take (i + 1) xs) ≡ true = ap repeats (take_next xs i h) ∙ repeats_snoc (take i xs) (get_or xs i 0) ∙ rw (m, or-true) in
    let b : repeats (take (i + 1) xs ++ drop (i + 1) xs) ≡ true = repeats_more (take (i + 1) xs) (drop (i + 1) xs) a in
    subst (λ (l : List ℕ). repeats l ≡ true) (take-append-drop (i + 1) xs) b

-- the last of the first i
module _ (xs : List ℕ) (i : ℕ) (some : 0 < i) (most : i ≤ length xs) where
  pub take_last : take i xs ≡ take (i - 1) xs ++ (get_or xs (i - 1) 0 ∷ [])
  take_last = let e : i ≡ i - 1 + 1 = omega arith in ap (λ (n : ℕ). take n xs) e ∙ take_next xs (i - 1) (omega arith)

  pub repeats_last : repeats (take i xs) ≡ false → (repeats (take (i - 1) xs) ≡ false) × (member (get_or xs (i - 1) 0) (take (i - 1) xs) ≡ false)
  repeats_last e =
      or_split (repeats (take (i - 1) xs)) (member (get_or xs (i - 1) 0) (take (i - 1) xs)) (sym (ap repeats take_last ∙ repeats_snoc (take (i - 1) xs) (get_or xs (i - 1) 0)) ∙ e)

pub repeats_few : (xs : List ℕ) → length xs < 2 → repeats xs ≡ false
unfolding repeats member
repeats_few [] h = refl
repeats_few (x ∷ []) h = refl
repeats_few (x ∷ (y ∷ xs)) h = absurd (omega arith)

-- the first i of places below v
pub below_first : (v : ℕ) (xs : List ℕ) → Below v xs → (i : ℕ) → Below v (take i xs)
below_first v xs b i = (below_append v (take i xs) (drop i xs) (rw take-append-drop b)).0

-- a walk from the n-th of a list down to the first: after i of them it is at the one before those
pub walked_back : (xs : List ℕ) (n i x : ℕ) → n ≤ length xs → (i < length (reverse (take n xs))) × (x ≡ get_or (reverse (take n xs)) i x) → (i < n) × (x ≡ get_or xs (n - i - 1) 0)
walked_back xs n i x most h =
    let l : length (take n xs) ≡ n = length-take-le n xs most in
    let k : i < n = omega (arith, h.0, length-reverse (take n xs)) in
    let e : length (take n xs) - 1 - i ≡ n - i - 1 = omega arith in (
      k,
      h.1 ∙ get_or_default_zero (reverse (take n xs)) i x h.0 ∙ get_or-reverse (take n xs) i 0 (omega arith) ∙ ap (λ (j : ℕ). get_or (take n xs) j 0) e ∙ get_or-take n xs (n - i - 1) 0 (omega arith),
    )

pub or_false : (a : Bool) → (a || false) ≡ a
or_false true = refl
or_false false = refl
