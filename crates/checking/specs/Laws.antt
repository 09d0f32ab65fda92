-- The laws by which the proofs of the checks of set, flush and final go, one for each way out, and that the lists of checks are the model's.
-- Assumes nothing.
use Rattle.std.specs.Prelude.{◌≡◌, List, ◌++◌, Bool, true, false, ℕ, ◌≤◌, ◌<◌, length}
use Rattle.std.proofs.Math.Path.{refl, sym}
use Rattle.std.proofs.Common.{◌∙◌}
use borrow.Author.Tests.{lt-ltb, le-ltb, le-leb, lt-leb}
use Rattle.rules.specs.Limits.{least_flagged, most_flushes}
use Rattle.rules.specs.Refusals as refusal
use Rattle.rules.specs.Model.{Model}
use Rattle.rules.specs.Checks.{verdict, any, taken, pooled, check_closed, check_places, check_set, check_add, check_flush, check_final}
use Rattle.rules.specs.Calls.{set, add, flush, final, checks, answer}
use Rattle.taken.specs.Flags.{taken_at}
use Rattle.taken.specs.FlagLaws.{flag_is}
use Rattle.checking.specs.Parts.{set_checks, list_checks, state_checks, flush_checks, final_checks, ChecksSet}

-- set
module _ {w : List ℕ} {v x : ℕ} {closed : Bool} where
  pub set_closed : closed ≡ true → ChecksSet w closed v x refusal.closed
  unfolding set_checks verdict
  set_closed e = record { is = λ t f. rw e refl }

  module _ (e : closed ≡ false) where
    pub set_flagged : least_flagged ≤ x → ChecksSet w closed v x refusal.flagged_place
    unfolding set_checks verdict check_places any
    set_flagged h = record { is = λ t f. rw (e, le-leb least_flagged x h) }

    module _ (a : x < least_flagged) where
      pub set_unknown : v ≤ x → ChecksSet w closed v x refusal.unknown_place
      unfolding set_checks verdict check_places any
      set_unknown h = record { is = λ t f. rw (e, lt-leb least_flagged x a, le-leb v x h) }

      module _ (b : x < v) where
        pub set_taken : taken_at w v x ≡ true → ChecksSet w closed v x refusal.taken_place
        unfolding set_checks verdict check_places any
        set_taken h = record { is = λ t f. rw (e, lt-leb least_flagged x a, lt-leb v x b, sym (flag_is v t w f x b) ∙ h) }

        pub set_free : taken_at w v x ≡ false → ChecksSet w closed v x 0
        unfolding set_checks verdict check_places any
        set_free h = record { is = λ t f. rw (e, lt-leb least_flagged x a, lt-leb v x b, sym (flag_is v t w f x b) ∙ h) }

-- flush and final
module _ {closed : Bool} (n : ℕ) where
  pub flush_closed : closed ≡ true → refusal.closed ≡ verdict (flush_checks closed n)
  unfolding flush_checks verdict
  flush_closed e = rw e refl

  pub final_closed : closed ≡ true → refusal.closed ≡ verdict (final_checks closed n)
  unfolding final_checks verdict
  final_closed e = rw e refl

  module _ (e : closed ≡ false) where
    pub flush_many : most_flushes ≤ n → refusal.too_many_flushes ≡ verdict (flush_checks closed n)
    unfolding flush_checks verdict
    flush_many h = rw (e, le-leb most_flushes n h)

    pub flush_good : n < most_flushes → 0 ≡ verdict (flush_checks closed n)
    unfolding flush_checks verdict
    flush_good h = rw (e, lt-leb most_flushes n h)

    pub final_pending : 0 < n → refusal.still_waiting ≡ verdict (final_checks closed n)
    unfolding final_checks verdict
    final_pending h = rw (e, lt-ltb 0 n h)

    pub final_good : n ≤ 0 → 0 ≡ verdict (final_checks closed n)
    unfolding final_checks verdict
    final_good h = rw (e, le-ltb 0 n h)

-- the model's answers
pub answer_set : (N W x : ℕ) (k : Model) → verdict (set_checks k.closed N x (taken k)) ≡ answer N W (set x) k
unfolding answer checks check_set check_closed set_checks
answer_set N W x k = refl

pub answer_add : (N W lane : ℕ) (ins outs : List ℕ) (k : Model)
    → verdict (list_checks k.closed N lane ins outs ++ state_checks N (taken k) outs (length k.adds) (pooled k.adds) (length ins) W) ≡ answer N W (add lane ins outs) k
unfolding answer checks check_add check_closed list_checks state_checks check_places
answer_add N W lane ins outs k = refl

pub answer_flush : (N W : ℕ) (k : Model) → verdict (flush_checks k.closed k.flushes) ≡ answer N W flush k
unfolding answer checks check_flush check_closed flush_checks
answer_flush N W k = refl

pub answer_final : (N W : ℕ) (k : Model) → verdict (final_checks k.closed (length k.pending)) ≡ answer N W final k
unfolding answer checks check_final check_closed final_checks
answer_final N W k = refl
