-- What flagging an add's outputs asks and promises. Definitions only. Assumes nothing.
use Rattle.std.specs.Prelude.{◌≡◌, List, Bool, true, false, ℕ}
use Rattle.rules.specs.Model.{greatest}
use Rattle.rules.specs.Checks.{verdict}
use Rattle.taken.specs.Flags.{Flags, claimed}
use Rattle.checking.specs.Parts.{add_checks}
use Rattle.add_checks.specs.Promises.{MayAdd}

-- top is the greatest of ins
pub record MayAdmit (w ins : List ℕ) (top v used room : ℕ) : Type 0 where
  pub may : MayAdd w v used room
  pub top_is : top ≡ greatest ins

-- `admits_add`: true exactly where add passes its checks, and its outputs are flagged; or the storage is as it was
pub record FlagsAdd (w : List ℕ) (lane : ℕ) (ins outs : List ℕ) (closed : Bool) (v added used room : ℕ) (r : Bool) (w' : List ℕ) : Type 0 where
  pub passes : r ≡ true → (t : ℕ → Bool) → Flags v t w → verdict (add_checks closed v lane ins outs t added used room) ≡ 0
  pub fails : r ≡ false → (t : ℕ → Bool) → Flags v t w → verdict (add_checks closed v lane ins outs t added used room) ≡ 0 → ⊥
  pub claims : r ≡ true → w' ≡ claimed w v outs
  pub same : r ≡ false → w' ≡ w

-- `claim_add`: the number of the checks; where it is 0 the outputs are flagged, else the storage is as it was
pub record ClaimsAdd (w : List ℕ) (lane : ℕ) (ins outs : List ℕ) (closed : Bool) (v added used room n : ℕ) (w' : List ℕ) : Type 0 where
  pub is : (t : ℕ → Bool) → Flags v t w → n ≡ verdict (add_checks closed v lane ins outs t added used room)
  pub claims : n ≡ 0 → w' ≡ claimed w v outs
  pub same : (n ≡ 0 → ⊥) → w' ≡ w
