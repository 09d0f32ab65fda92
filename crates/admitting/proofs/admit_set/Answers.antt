-- `admitting::admit_set` meets its contract: refused, nothing has changed; accepted, the marked place leaves what comes off on the stack.
use mathlib.Core.Path.{refl}
use Rattle.std.proofs.Common.{rules}
use Rattle.std.specs.Prelude.{◌≡◌, Result, Err}
use Rattle.rules.specs.declared.Refusal.{Refusal}
use Rattle.rules.specs.Answer.{number_of_pos}
use Rattle.admitting.specs.declared.Admitted.{Admitted}
use Rattle.admitting.specs.Promise.{may_do}
use Rattle.admitting.specs.Numbers.{set_number}
use Rattle.admitting.specs.Begun.{admits_not}
use Rattle.admitting.specs.Setting.{set_marks, set_admits}
use Rattle.admitting.proofs.admit_set.Goals as goal

pub returns-in_err-check_set : goal.returns-in_err-check_set
returns-in_err-check_set c =
    let e : ◌≡◌ {A = Result Admitted Refusal} c.from_residual.result (Err c.in_err-check_set.field-0.0) = search rules in
    rw e (λ σ q. admits_not _ _ _ _ _ (set_number _ _ _ _ _ refl c.in_err-check_set.ensures) (number_of_pos _) refl)

pub mark_set-m-requires : goal.mark_set-m-requires
mark_set-m-requires c = set_marks _ _ _ _ refl (may_do _ _ _ _ (set_number _ _ _ _ _ refl c.in_ok-check_set.ensures) refl c.requires.asks)

pub returns : goal.returns
returns c = λ σ q.
    set_admits _ _ _ _ refl _ _ _ _ c.mark_set-m.auto.waiting c.mark_set-m.ensures _ (set_number _ _ _ _ _ refl c.in_ok-check_set.ensures) refl q
