-- What the checks of add ask and promise: whatever test the flags are those of, the number is that of the checks with this test, and the
-- storage is as it was. Definitions only. Assumes nothing.
use Rattle.std.specs.Prelude.{◌≡◌, List, Bool, not, ◌&&◌, ℕ, ◌+◌, ◌≤◌, length, leb, ltb}
use Rattle.rules.specs.Limits.{most_lane, most_in_a_list}
use Rattle.rules.specs.Checks.{verdict}
use Rattle.lists.specs.Part.{Below}
use Rattle.taken.specs.Flags.{Flags}
use Rattle.checking.specs.Parts.{state_checks, add_checks}
use Rattle.add_checks.specs.ListChecks.{many}

-- what add's checks ask but of the places: the session open, the lane, the counts of inputs and outputs, a registration left, and room for
-- their numbers in what the pool has left
abbrev pub fits : Bool → ℕ → List ℕ → List ℕ → ℕ → ℕ → ℕ → Bool
fits closed lane ins outs v added left = not closed && (leb lane most_lane && (not (many ins outs) && (ltb added v && leb (length ins + length outs) left)))

-- `check_state`: the flags are those of some test
pub record MayCheck (w outs : List ℕ) (v used inputs room : ℕ) : Type 0 where
  pub taken : ℕ → Bool
  pub flags : Flags v taken w
  pub below : Below v outs
  pub fits : used ≤ room
  pub few : inputs ≤ most_in_a_list

pub record ChecksState (w outs : List ℕ) (v added used inputs room n : ℕ) (w' : List ℕ) : Type 0 where
  pub is : (t : ℕ → Bool) → Flags v t w → n ≡ verdict (state_checks v t outs added used inputs room)
  pub same : w' ≡ w

-- `check_add`
pub record MayAdd (w : List ℕ) (v used room : ℕ) : Type 0 where
  pub taken : ℕ → Bool
  pub flags : Flags v taken w
  pub fits : used ≤ room

pub record ChecksAdd (w : List ℕ) (lane : ℕ) (ins outs : List ℕ) (closed : Bool) (v added used room n : ℕ) (w' : List ℕ) : Type 0 where
  pub is : (t : ℕ → Bool) → Flags v t w → n ≡ verdict (add_checks closed v lane ins outs t added used room)
  pub same : w' ≡ w
