-- Laws of the search: what it gives at a span that is passed, at one that is taken, and past the end.
use mathlib.Core.Path.{◌≡◌, ◌∙◌}
use mathlib.Core.List.{List}
use Prim.Native.Nat.{ℕ, zero, suc, ◌≤◌, ◌<◌, ◌+◌}
use native.Mathlib.Omega.{arith}
use native.Mathlib.Nat.{add-zero}
use native.Mathlib.Numerals.{add-one}
use lib.ListN.{length, get_or, drop_of_length-le}
use lib.Seq.{drop-cons}
use borrow.Author.Tests.{le-ltb, lt-ltb}
use Rattle.choice.specs.declared.MatchedSpan.TheVariants.{Existing, New}
use Rattle.choice.specs.Search.{matched, first_below}

module _ (l : List ℕ) (i p : ℕ) where
  -- a span that is not shorter than p is passed
  pub passed : i < length l → p ≤ get_or l i 0 → matched l i p ≡ matched l (i + 1) p
  unfolding matched first_below
  passed h g = rw (add-one, drop-cons l i 0) (simp (le-ltb _ _ g))

  -- one that is shorter ends the search
  pub stops : i < length l → get_or l i 0 < p → matched l i p ≡ Existing i
  unfolding matched first_below
  stops h g = rw (drop-cons l i 0) (simp (lt-ltb _ _ g))

  -- past the end there is none
  pub ends : length l ≤ i → matched l i p ≡ New 1
  unfolding matched first_below
  ends h = rw (drop_of_length-le l h)

-- n spans that are not shorter are passed
pub passes : (l : List ℕ) (i p n : ℕ) → ((k : ℕ) → k < n → p ≤ get_or l (i + k) 0) → i + n ≤ length l → matched l i p ≡ matched l (i + n) p
passes l i p zero h f = rw add-zero
passes l i p (suc n) h f =
    let e : i + n + 1 ≡ i + suc n = omega arith in
    passes l i p n (λ k x. h k (omega arith)) (omega arith) ∙ rw e at (passed l (i + n) p (omega arith) (h n (omega arith)))
