-- Flags of taken places: 1 for a place that is set, written or promised, else 0; while repeats are looked for, 2 more for a place already
-- met. Definitions; the laws are in Raising, FlagLaws and ClaimLaws. Assumes nothing.
use Rattle.std.specs.Prelude.{◌≡◌, List, [], ◌∷◌, Bool, true, false, cond, not, ◌||◌, ℕ, ◌+◌, ◌≤◌, ◌<◌, length, take, leb, eqb}
use Rattle.rules.specs.Checks.{any, repeats, waiting_needed}
use Rattle.lists.specs.Part.{Below}
use Rattle.taken.specs.Flag.{flag_at, with_flag}

-- the flag of place x says that it is taken
unfoldable pub taken_at : List ℕ → ℕ → ℕ → Bool
taken_at w v x = eqb (flag_at w v x) 1

-- the flags are those of the test t
pub record Flags (N : ℕ) (t : ℕ → Bool) (w : List ℕ) : Type 0 where
  pub long : waiting_needed N ≤ length w
  pub at : (x : ℕ) → x < N → flag_at w N x ≡ cond {A = ℕ} (t x) 1 0

-- w with the flag of each place of xs set
unfoldable pub claimed : List ℕ → ℕ → List ℕ → List ℕ
claimed w v [] = w
claimed w v (x ∷ xs) = claimed (with_flag w v x 1) v xs

-- every flag is 0 or 1
pub record Plain (w : List ℕ) (v : ℕ) : Type 0 where
  pub long : waiting_needed v ≤ length w
  pub plain : (x : ℕ) → x < v → flag_at w v x ≤ 1

-- and the places are below v
pub record Flagged (w : List ℕ) (v : ℕ) (xs : List ℕ) : Type 0 where
  pub flags : Plain w v
  pub below : Below v xs

-- w with the flag of each place of xs raised by 2
unfoldable pub raised : List ℕ → ℕ → List ℕ → List ℕ
raised w v [] = w
raised w v (x ∷ xs) = raised (with_flag w v x (flag_at w v x + 2)) v xs

-- the first n of xs do not repeat and are raised; xs repeats exactly where it has more than n
pub record Raises (w : List ℕ) (v : ℕ) (xs : List ℕ) (n : ℕ) (w' : List ℕ) : Type 0 where
  pub most : n ≤ length xs
  pub single : repeats (take n xs) ≡ false
  pub again : n < length xs → repeats xs ≡ true
  pub is : w' ≡ raised w v (take n xs)

-- storage is what raising the first n of xs made of some storage before
pub record Lowering (w : List ℕ) (v : ℕ) (xs : List ℕ) (n : ℕ) : Type 0 where
  pub before : List ℕ
  pub flagged : Flagged before v xs
  pub raises : Raises before v xs n w

-- that storage is back
pub record Lowers (w : List ℕ) (v : ℕ) (xs : List ℕ) (n : ℕ) (w' : List ℕ) : Type 0 where
  pub back : (u : List ℕ) → Flagged u v xs → Raises u v xs n w → w' ≡ u

-- `repeats`: the answer, and storage as it was
pub record Repeats (w xs : List ℕ) (r : Bool) (w' : List ℕ) : Type 0 where
  pub answer : r ≡ repeats xs
  pub same : w' ≡ w

-- the first i of xs are below v, do not repeat, were not taken and are flagged
pub record Claiming (w : List ℕ) (v : ℕ) (xs : List ℕ) (i : ℕ) (w' : List ℕ) : Type 0 where
  pub most : i ≤ length xs
  pub below : Below v (take i xs)
  pub once : repeats (take i xs) ≡ false
  pub free : any (taken_at w v) (take i xs) ≡ false
  pub is : w' ≡ claimed w v (take i xs)

-- storage is what flagging the first n of xs made of some storage before
pub record Unclaiming (w : List ℕ) (v : ℕ) (xs : List ℕ) (n : ℕ) : Type 0 where
  pub before : List ℕ
  pub plain : Plain before v
  pub claiming : Claiming before v xs n w

-- that storage is back
pub record Unclaims (w : List ℕ) (v : ℕ) (xs : List ℕ) (n : ℕ) (w' : List ℕ) : Type 0 where
  pub back : (u : List ℕ) → Plain u v → Claiming u v xs n w → w' ≡ u

-- one of xs is v or more, stands twice or is taken
unfoldable pub unclaimable : List ℕ → ℕ → List ℕ → Bool
unclaimable w v xs = any (λ x. leb v x) xs || (repeats xs || any (taken_at w v) xs)

-- `claim_new`: none is, and the places of xs are flagged; or storage is as it was
pub record Claims (w : List ℕ) (v : ℕ) (xs : List ℕ) (r : Bool) (w' : List ℕ) : Type 0 where
  pub answer : r ≡ not (unclaimable w v xs)
  pub claims : r ≡ true → w' ≡ claimed w v xs
  pub same : r ≡ false → w' ≡ w
