-- `sorter::flush` meets its contract: the number is the model's, and 0 lets the work be done: what releasing all spans leaves, with one plain
-- flush more.
use mathlib.Core.Path.{◌≡◌, refl}
use borrow.Author.Rules.{rules}
use Rattle.std.specs.Prelude.{Result, Err}
use Rattle.rules.specs.declared.Refusal.{Refusal}
use Rattle.rules.specs.Answer.{number_of_pos}
use Rattle.session.specs.declared.Session.{Session}
use native.Mathlib.Omega.{arith}
use Rattle.admitting.specs.Numbers.{flush_number}
use Rattle.admitting.specs.Promise.{called_refused, called_does, may_do}
use Rattle.sorter.specs.FlushWork.{flush_releases, flush_counts, flush_does}
use Rattle.sorter.proofs.flush.Goals as goal

pub returns-in_err-check_flush-clause-called : goal.returns-in_err-check_flush-clause-called
returns-in_err-check_flush-clause-called c =
    let e : ◌≡◌ {A = Result Session Refusal} c.from_residual.result (Err c.in_err-check_flush.field-0.0) = search rules in
    rw e (called_refused _ _ _ _ (number_of_pos _) (flush_number _ _ _ c.in_err-check_flush.ensures))

pub release_all-guide-requires : goal.release_all-guide-requires
release_all-guide-requires c = flush_releases _ _ (may_do _ _ _ _ (flush_number _ _ _ c.in_ok-check_flush.ensures) refl c.requires)

pub overflow_add-result : goal.overflow_add-result
overflow_add-result c = omega (arith, flush_counts _ _ (may_do _ _ _ _ (flush_number _ _ _ c.in_ok-check_flush.ensures) refl c.requires))

pub returns-clause-called : goal.returns-clause-called
returns-clause-called c =
    called_does _ _ _ _ _ _ (flush_number _ _ _ c.in_ok-check_flush.ensures) refl (flush_does _ _ _ _ _ _ c.release_all-guide.ensures)
