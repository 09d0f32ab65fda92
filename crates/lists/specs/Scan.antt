-- A call's list looked at in std's words, and where one of it passes a test. Assumes nothing.
use Rattle.std.specs.Prelude.{◌≡◌, refl, List, [], ◌∷◌, ◌++◌, Bool, true, false, ◌||◌, length, get_or, take, drop}
use Rattle.std.proofs.Math.Path.{ap}
use Rattle.std.proofs.Common.{◌∙◌, subst, take-append-drop, drop-cons}
use Rattle.std.proofs.Math.Bool.{or-true}
use Prim.Native.Nat.{ℕ, ◌<◌, max}
use native.Mathlib.Omega.{arith}
use Rattle.std.specs.List.{list_any, fold, reduce}
use Rattle.std.specs.Option.{unwrap_or}
use Rattle.rules.specs.Model.{greatest}
use Rattle.rules.specs.Checks.{any}
use Rattle.std.proofs.Common.{add-one, drop_of_length-le}
use Prim.Native.Nat.{◌+◌, ◌≤◌}

pub any_found : (t : ℕ → Bool) (xs : List ℕ) (i : ℕ) → i < length xs → t (get_or xs i 0) ≡ true → any t (drop i xs) ≡ true
unfolding any
any_found t xs i h e = rw (drop-cons xs i 0 h, e)

-- std's word for it
pub any_is : (t : ℕ → Bool) (xs : List ℕ) → list_any t xs ≡ any t xs
unfolding any
any_is t [] = refl
any_is t (x ∷ xs) = ap (λ b. t x || b) (any_is t xs)

pub any_append : (t : ℕ → Bool) (a b : List ℕ) → any t (a ++ b) ≡ (any t a || any t b)
unfolding any
any_append t [] b = refl
any_append t (x ∷ a) b = go (t x) (any_append t a b)
  where
    go : (c : Bool) → any t (a ++ b) ≡ (any t a || any t b) → (c || any t (a ++ b)) ≡ ((c || any t a) || any t b)
    go true e = refl
    go false e = e

-- one that passes the test
pub any_at : (t : ℕ → Bool) (xs : List ℕ) (i : ℕ) → i < length xs → t (get_or xs i 0) ≡ true → any t xs ≡ true
any_at t xs i h e =
    let a : any t (take i xs ++ drop i xs) ≡ true = any_append t (take i xs) (drop i xs) ∙ rw (any_found t xs i h e, or-true) in
    subst (λ (l : List ℕ). any t l ≡ true) (take-append-drop i xs) a

pub any_one : (t : ℕ → Bool) (x : ℕ) → any t (x ∷ []) ≡ t x
unfolding any
any_one t x = go (t x)
  where
    go : (c : Bool) → (c || false) ≡ c
    go true = refl
    go false = refl

fold_greatest : (m : ℕ) (xs : List ℕ) → fold max m xs ≡ max m (greatest xs)
unfolding greatest
fold_greatest m [] = omega arith
fold_greatest m (x ∷ xs) = fold_greatest (max m x) xs ∙ three m x (greatest xs)
  where
    three : (m x y : ℕ) → max (max m x) y ≡ max m (max x y)
    three m x y = omega arith

-- std's word for it
pub greatest_is : (xs : List ℕ) → unwrap_or (reduce max xs) 0 ≡ greatest xs
unfolding greatest
greatest_is [] = refl
greatest_is (x ∷ xs) = fold_greatest x xs

pub drop_step : (xs : List ℕ) (i : ℕ) → i < length xs → drop i xs ≡ get_or xs i 0 ∷ drop (i + 1) xs
drop_step xs i h = rw (add-one, drop-cons xs i 0)

pub drop_none : (xs : List ℕ) (i : ℕ) → length xs ≤ i → drop i xs ≡ []
drop_none xs i h = drop_of_length-le xs h

module _ (t : ℕ → Bool) (xs : List ℕ) (i : ℕ) where
  pub any_next : i < length xs → t (get_or xs i 0) ≡ false → any t (drop i xs) ≡ any t (drop (i + 1) xs)
  unfolding any
  any_next h e = ap (any t) (drop_step xs i h) ∙ rw e

  pub any_none : length xs ≤ i → any t (drop i xs) ≡ false
  unfolding any
  any_none h = ap (any t) (drop_none xs i h)

module _ (xs : List ℕ) where
  pub greatest_begins : greatest xs ≡ max 0 (greatest (drop 0 xs))
  greatest_begins = omega arith

  pub greatest_less : (m i : ℕ) → i < length xs → get_or xs i 0 ≤ m → max m (greatest (drop i xs)) ≡ max m (greatest (drop (i + 1) xs))
  unfolding greatest
  greatest_less m i h k = rw (drop_step xs i h) (three m (get_or xs i 0) (greatest (drop (i + 1) xs)) k)
    where
      three : (m x y : ℕ) → x ≤ m → max m (max x y) ≡ max m y
      three m x y q = omega arith

  pub greatest_more : (m i : ℕ) → i < length xs → m ≤ get_or xs i 0 → max m (greatest (drop i xs)) ≡ max (get_or xs i 0) (greatest (drop (i + 1) xs))
  unfolding greatest
  greatest_more m i h k = rw (drop_step xs i h) (three m (get_or xs i 0) (greatest (drop (i + 1) xs)) k)
    where
      three : (m x y : ℕ) → m ≤ x → max m (max x y) ≡ max x y
      three m x y q = omega arith

  pub greatest_turn : (m i : ℕ) → i < length xs → max m (greatest (drop i xs)) ≡ max (max m (get_or xs i 0)) (greatest (drop (i + 1) xs))
  unfolding greatest
  greatest_turn m i h = rw (drop_step xs i h) (three m (get_or xs i 0) (greatest (drop (i + 1) xs)))
    where
      three : (m x y : ℕ) → max m (max x y) ≡ max (max m x) y
      three m x y = omega arith

  pub greatest_ends : (m i : ℕ) → length xs ≤ i → max m (greatest (drop i xs)) ≡ m
  unfolding greatest
  greatest_ends m i h = rw (drop_none xs i h) (omega arith)
