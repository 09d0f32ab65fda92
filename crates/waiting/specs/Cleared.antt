-- The waiting storage cleared: no place has a head or a flag. Cells and links are not looked at before they are stored. Assumes nothing.
use Rattle.std.specs.Prelude.{◌≡◌, List, ℕ, ◌<◌, length}
use Rattle.std.proofs.Common.{◌∙◌, arith}
use Rattle.rules.specs.Checks.{waiting_needed}
use Rattle.zeros.specs.Zeros.{Cleared, cleared_below, cleared_beyond}
use Rattle.taken.specs.Flag.{flags_at, flag_at}
use Rattle.registrar.specs.Reading.{head_at}
use Rattle.waiting.specs.Apart.{SameBeyond}

-- `clear`: heads and flags are 0, and what lies beyond the needed length is as it was
pub record Emptied (v : ℕ) (w w' : List ℕ) : Type 0 where
  pub long : length w' ≡ length w
  pub heads : (p : ℕ) → p < v → head_at w' p ≡ 0
  pub flags : (x : ℕ) → x < v → flag_at w' v x ≡ 0
  pub beyond : SameBeyond v w w'

-- the heads, and then the flags
pub emptied : {v : ℕ} {w w₁ w' : List ℕ} → Cleared 0 v w w₁ → Cleared (flags_at v) (waiting_needed v) w₁ w' → Emptied v w w'
unfolding flag_at
emptied h f =
    record {
      long = f.long ∙ h.long;
      heads = λ p k. cleared_below f p (omega arith) ∙ h.zero p (omega arith) k;
      flags = λ x k. f.zero _ (omega arith) (omega arith);
      beyond = λ i k. cleared_beyond f i k ∙ cleared_beyond h i (omega arith);
    }
