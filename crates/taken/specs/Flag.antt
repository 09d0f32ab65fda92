-- Where the flag of a place lies in the waiting storage: of the quarters of v numbers, the fourth holds them. The modules above this one go
-- by its laws alone. Assumes nothing.
use Rattle.std.specs.Prelude.{◌≡◌, List, ℕ, ◌+◌, ◌*◌, ◌≤◌, ◌<◌, length, get_or, set}
use Rattle.std.proofs.Common.{arith}
use Rattle.std.proofs.Math.ListN.{length-set}
use Rattle.std.proofs.Math.Seq.{get_or-set_same, get_or-set_other, set-set}
use Rattle.std.proofs.lemmas.List.{set-get_or}
use Rattle.rules.specs.Checks.{waiting_needed}

abbrev pub flags_at : ℕ → ℕ
flags_at v = 3 * v

-- the flag of place x of v, and the storage with another one
unfoldable pub flag_at : List ℕ → ℕ → ℕ → ℕ
flag_at w v x = get_or w (flags_at v + x) 0

unfoldable pub with_flag : List ℕ → ℕ → ℕ → ℕ → List ℕ
with_flag w v x n = set w (flags_at v + x) n

module _ (w : List ℕ) (v x n : ℕ) where
  pub flag_length : length (with_flag w v x n) ≡ length w
  unfolding with_flag
  flag_length = simp length-set

  -- what is stored is read
  pub flag_same : x < v → waiting_needed v ≤ length w → flag_at (with_flag w v x n) v x ≡ n
  unfolding flag_at with_flag
  flag_same h long = get_or-set_same w _ n 0 (omega arith)

  pub flag_other : (y : ℕ) → (y ≡ x → ⊥) → flag_at (with_flag w v x n) v y ≡ flag_at w v y
  unfolding flag_at with_flag
  flag_other y h = get_or-set_other w _ _ n 0 (λ e. h (omega arith))

  -- the later store counts, and one that stores what stood there changes nothing
  pub flag_twice : (m : ℕ) → with_flag (with_flag w v x n) v x m ≡ with_flag w v x m
  unfolding with_flag
  flag_twice m = set-set w _ n m

pub flag_own : (w : List ℕ) (v x : ℕ) → with_flag w v x (flag_at w v x) ≡ w
unfolding flag_at with_flag
flag_own w v x = set-get_or w _ 0
