-- What counting the a entries of the order from index n on asks; and the steps of the loop that counts them. Assumes nothing.
use Rattle.std.specs.Prelude.{◌≡◌, List, [], ◌∷◌, map, length, get_or, set}
use Prim.Native.Nat.{ℕ, zero, suc, ◌+◌, ◌-◌, ◌^◌, ◌≤◌, ◌<◌}
use Rattle.std.proofs.Common.{add-zero}
use Rattle.std.proofs.Math.Nat.{sub-zero}
use native.Mathlib.Omega.{arith}
use Rattle.rules.specs.Guide.{tallied}
use Rattle.entries.specs.Entries.{row, entry_at, entry_of}

-- the parallelism of the q-th entry from n on
abbrev pub parallelism_from : List ℕ → ℕ → ℕ → ℕ
parallelism_from o n q = (entry_at o (n + q)).parallelism

-- each of the a entries from n on has a parallelism that the tally has a count for, and that count does not overflow
pub record Countable (o t : List ℕ) (n a : ℕ) : Type 0 where
  pub known : (q : ℕ) → q < a → parallelism_from o n q < length t
  pub small : (q : ℕ) → q < a → get_or t (parallelism_from o n q) 0 + a < 2 ^ 32

-- one more at one place: no count grows by more than 1
pub counted_one : (t : List ℕ) (w x : ℕ) → get_or (set t w (get_or t w 0 + 1)) x 0 ≤ get_or t x 0 + 1
counted_one [] w x = omega arith
counted_one (y ∷ t) zero zero = omega arith
counted_one (y ∷ t) zero (suc x) = omega arith
counted_one (y ∷ t) (suc w) zero = omega arith
counted_one (y ∷ t) (suc w) (suc x) = counted_one t w x

module _ (o : List ℕ) (n a : ℕ) where
  -- what is still to be counted from the q-th entry on
  abbrev pub to_count : List ℕ → ℕ → List ℕ
  to_count t q = tallied t (map entry_of (row o (n + q) (a - q)))

  pub count_begins : (t : List ℕ) → tallied t (map entry_of (row o n a)) ≡ to_count t 0
  count_begins t = rw (add-zero, sub-zero)

  pub count_turn : (t t' : List ℕ) (q w : ℕ) → q < a → w ≡ parallelism_from o n q → t' ≡ set t w (get_or t w 0 + 1) → to_count t q ≡ to_count t' (q + 1)
  unfolding tallied entry_of
  count_turn t t' q w h f g =
      let e1 : a - q ≡ suc (a - (q + 1)) = omega arith in
      let e2 : n + (q + 1) ≡ suc (n + q) = omega arith in
      rw (g, f, e1, e2)

  pub count_ends : (t : List ℕ) (q : ℕ) → a ≤ q → to_count t q ≡ t
  unfolding tallied
  count_ends t q h = let e : a - q ≡ 0 = omega arith in rw e
