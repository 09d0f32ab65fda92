-- `ascending_calls::set` meets its contract: the number is the rules', and 0 lets the lowest place be marked, which is x.
use mathlib.Core.Path.{◌≡◌, refl}
use borrow.Author.Rules.{rules}
use Rattle.std.specs.Prelude.{Result, Err}
use Rattle.rules.specs.declared.Refusal.{Refusal}
use Rattle.rules.specs.Answer.{number_of_pos}
use Rattle.ascending_session.specs.declared.Ascending.{Ascending}
use native.Mathlib.Omega.{arith}
use Rattle.ascending_calls.specs.Numbers.{set_number}
use Rattle.ascending_calls.specs.Setting.{set_inside, set_low, sets_marks}
use Rattle.ascending_session.specs.Promise.{called_refused, called_done, may_do}
use Rattle.ascending_calls.proofs.set.Goals as goal

pub returns-in_err-check_set-clause-called : goal.returns-in_err-check_set-clause-called
returns-in_err-check_set-clause-called c =
    let e : ◌≡◌ {A = Result Ascending Refusal} c.from_residual.result (Err c.in_err-check_set.field-0.0) = search rules in
    rw e (called_refused (set_number refl c.in_err-check_set.ensures) (number_of_pos _))

pub set_mark-requires : goal.set_mark-requires
set_mark-requires c = set_inside (may_do (set_number refl c.in_ok-check_set.ensures) refl c.requires)

pub overflow_add-result : goal.overflow_add-result
overflow_add-result c = omega (arith, set_low (may_do (set_number refl c.in_ok-check_set.ensures) refl c.requires))

pub returns-clause-called : goal.returns-clause-called
returns-clause-called c = let h = set_number refl c.in_ok-check_set.ensures in
    called_done h refl (sets_marks c.set_mark.ensures (may_do h refl c.requires))
