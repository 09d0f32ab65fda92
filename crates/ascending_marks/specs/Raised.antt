-- Marks while repeats are looked for: 1 more for a place already met. The marks of a session are even (Raising.even-marks), so that an odd
-- one is that of a place met before. Definitions; the laws are in Raising. Assumes nothing.
use Rattle.std.specs.Prelude.{◌≡◌, List, [], ◌∷◌, Bool, true, false, ℕ, ◌+◌, ◌%◌, ◌≤◌, ◌<◌, length, get_or, set, take}
use Rattle.rules.specs.Checks.{repeats}
use Rattle.lists.specs.Part.{Below}

-- the marks of v places are even, and the places are below v
pub record Unraised (marks outs : List ℕ) : Type 0 where
  pub v : ℕ
  pub long : v ≤ length marks
  pub even : (x : ℕ) → x < v → get_or marks x 0 % 2 ≡ 0
  pub below : Below v outs

-- marks with that of each place of xs raised by 1
unfoldable pub raised : List ℕ → List ℕ → List ℕ
raised marks [] = marks
raised marks (x ∷ xs) = raised (set marks x (get_or marks x 0 + 1)) xs

-- the first n of outs do not repeat and are raised; outs repeats exactly where it has more than n
pub record Raises (marks outs : List ℕ) (n : ℕ) (marks' : List ℕ) : Type 0 where
  pub most : n ≤ length outs
  pub single : repeats (take n outs) ≡ false
  pub again : n < length outs → repeats outs ≡ true
  pub is : marks' ≡ raised marks (take n outs)

-- the marks are what raising the first n of outs made of some marks before
pub record Lowering (marks outs : List ℕ) (n : ℕ) : Type 0 where
  pub before : List ℕ
  pub unraised : Unraised before outs
  pub raises : Raises before outs n marks

-- those marks are back
pub record Lowers (marks outs : List ℕ) (n : ℕ) (marks' : List ℕ) : Type 0 where
  pub back : (u : List ℕ) → Unraised u outs → Raises u outs n marks → marks' ≡ u

-- `repeats`: the answer, and the marks as they were
pub record Repeats (marks outs : List ℕ) (r : Bool) (marks' : List ℕ) : Type 0 where
  pub answer : r ≡ repeats outs
  pub same : marks' ≡ marks
