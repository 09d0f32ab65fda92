-- `sorter::close` meets its contract: the number is the model's, and 0 lets the work be done: what releasing all spans leaves, closed, with
-- registrations and places fixed.
use mathlib.Core.Path.{◌≡◌, refl}
use borrow.Author.Rules.{rules}
use Rattle.std.specs.Prelude.{Result, Err}
use Rattle.rules.specs.declared.Refusal.{Refusal}
use Rattle.rules.specs.Answer.{number_of_pos}
use Rattle.session.specs.declared.Session.{Session}
use Rattle.admitting.specs.Numbers.{final_number}
use Rattle.admitting.specs.Promise.{called_refused, called_does, may_do}
use Rattle.sorter.specs.FlushWork.{final_releases, final_counts, final_does}
use Rattle.sorter.proofs.close.Goals as goal

pub returns-in_err-check_final-clause-called : goal.returns-in_err-check_final-clause-called
returns-in_err-check_final-clause-called c =
    let e : ◌≡◌ {A = Result Session Refusal} c.from_residual.result (Err c.in_err-check_final.field-0.0) = search rules in
    rw e (called_refused _ _ _ _ (number_of_pos _) (final_number _ _ _ c.in_err-check_final.ensures))

pub release_all-guide-requires : goal.release_all-guide-requires
release_all-guide-requires c = final_releases _ _ (may_do _ _ _ _ (final_number _ _ _ c.in_ok-check_final.ensures) refl c.requires)

pub overflow_cast-result : goal.overflow_cast-result
overflow_cast-result c =
    record { fits = final_counts _ _ (may_do _ _ _ _ (final_number _ _ _ c.in_ok-check_final.ensures) refl c.requires) }

pub returns-clause-called : goal.returns-clause-called
returns-clause-called c =
    called_does _ _ _ _ _ _ (final_number _ _ _ c.in_ok-check_final.ensures) refl (final_does _ _ _ _ _ _ c.release_all-guide.ensures)
