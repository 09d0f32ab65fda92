-- A list of places as it lies in the pool: the n numbers from `at` on. With it, what a loop over such a list has left to do.
-- Assumes nothing.
use Rattle.std.specs.Prelude.{◌≡◌, List, [], ◌∷◌, length, get_or, take, drop}
use Prim.Native.Nat.{ℕ, zero, suc, ◌+◌, ◌-◌, ◌≤◌, ◌<◌}
use Rattle.std.proofs.Common.{length-take, length-drop, get_or-take, get_or-drop}
use native.Mathlib.Omega.{arith}
use Rattle.std.proofs.Math.Seq.{drop-cons}
use Rattle.std.proofs.Common.{add-zero}
use Rattle.std.proofs.Math.Nat.{sub-zero}

-- the n numbers of the pool from `at` on
unfoldable pub part : List ℕ → ℕ → ℕ → List ℕ
part pool at n = take n (drop at pool)

-- every one of a list is below N
unfoldable pub Below : ℕ → List ℕ → Type 0
Below N [] = Unit {0}
Below N (x ∷ xs) = (x < N) × Below N xs

-- the list lies in the pool, and its numbers are below m
pub record Listed (pool : List ℕ) (at n m : ℕ) : Type 0 where
  pub inside : at + n ≤ length pool
  pub places : (j : ℕ) → j < n → get_or pool (at + j) 0 < m

module _ (pool : List ℕ) (at n : ℕ) (h : at + n ≤ length pool) where
  pub part_step : (j : ℕ) → j < n → part pool (at + j) (n - j) ≡ get_or pool (at + j) 0 ∷ part pool (at + (j + 1)) (n - (j + 1))
  unfolding part
  part_step j k =
      let e : n - j ≡ suc (n - (j + 1)) = omega arith in
      let f : at + (j + 1) ≡ suc (at + j) = omega arith in
      rw (e, f, drop-cons pool (at + j) 0 (omega arith))

  pub part_end : (j : ℕ) → n ≤ j → part pool (at + j) (n - j) ≡ []
  unfolding part
  part_end j k = let e : n - j ≡ 0 = omega arith in rw e

  pub part_length : length (part pool at n) ≡ n
  unfolding part
  part_length = simp (length-take, length-drop) (omega arith)

  pub part_at : (j : ℕ) → j < n → get_or (part pool at n) j 0 ≡ get_or pool (at + j) 0
  unfolding part
  part_at j k = rw (get_or-take, get_or-drop)

-- `&pool[at..at + n]` as a contract sees it
pub part_range : (pool : List ℕ) (at n : ℕ) → take (at + n - at) (drop at pool) ≡ part pool at n
unfolding part
part_range pool at n = let e : at + n - at ≡ n = omega arith in rw e

pub range_at : (pool : List ℕ) (at n j : ℕ) → j < n → get_or (take (at + n - at) (drop at pool)) j 0 ≡ get_or pool (at + j) 0
range_at pool at n j k = let e : at + n - at ≡ n = omega arith in rw (e, get_or-take, get_or-drop)

pub below_at : (N : ℕ) (xs : List ℕ) → Below N xs → (j : ℕ) → j < length xs → get_or xs j 0 < N
unfolding Below
below_at N [] b j h = absurd (omega arith)
below_at N (x ∷ xs) b zero h = b.0
below_at N (x ∷ xs) b (suc j) h = below_at N xs b.1 j (omega arith)

pub at_below : (N : ℕ) (xs : List ℕ) → ((j : ℕ) → j < length xs → get_or xs j 0 < N) → Below N xs
unfolding Below
at_below N [] h = tt
at_below N (x ∷ xs) h = (h 0 (omega arith), at_below N xs (λ j k. h (suc j) (omega arith)))

-- a list that lies in the pool with numbers below N is listed there
pub listed_of : (pool : List ℕ) (at n N m : ℕ) → at + n ≤ length pool → Below N (part pool at n) → N ≤ m → Listed pool at n m
listed_of pool at n N m h b k =
    record {
      inside = h;
      places = λ j l.
          let x = below_at N (part pool at n) b j (omega (arith, part_length pool at n h)) in
          omega (arith, part_at pool at n h j l);
    }

module _ (pool : List ℕ) (at n : ℕ) (h : at + n ≤ length pool) where
  pub part_begin : part pool at n ≡ part pool (at + 0) (n - 0)
  part_begin = rw (add-zero, sub-zero)
