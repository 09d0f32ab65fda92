-- `ascending_calls::flush` meets its contract: the number is the model's, and 0 lets the work be done: what releasing all spans leaves, with
-- one plain flush more.
use mathlib.Core.Path.{◌≡◌, refl}
use borrow.Author.Rules.{rules}
use Rattle.std.specs.Prelude.{Result, Err}
use Rattle.rules.specs.declared.Refusal.{Refusal}
use Rattle.rules.specs.Answer.{number_of_pos}
use Rattle.ascending_session.specs.declared.Ascending.{Ascending}
use native.Mathlib.Omega.{arith}
use Rattle.ascending_calls.specs.Numbers.{flush_number}
use Rattle.ascending_session.specs.Promise.{called_refused, called_done, may_do}
use Rattle.ascending_calls.specs.Flushing.{flush_releases, flush_counts, flush_does}
use Rattle.ascending_calls.proofs.flush.Goals as goal

pub returns-in_err-check_flush-clause-called : goal.returns-in_err-check_flush-clause-called
returns-in_err-check_flush-clause-called c =
    let e : ◌≡◌ {A = Result Ascending Refusal} c.from_residual.result (Err c.in_err-check_flush.field-0.0) = search rules in
    rw e (called_refused (flush_number c.in_err-check_flush.ensures) (number_of_pos _))

pub release_all-guide-requires : goal.release_all-guide-requires
release_all-guide-requires c = flush_releases (may_do (flush_number c.in_ok-check_flush.ensures) refl c.requires)

pub overflow_add-result : goal.overflow_add-result
overflow_add-result c = omega (arith, flush_counts (may_do (flush_number c.in_ok-check_flush.ensures) refl c.requires))

pub returns-clause-called : goal.returns-clause-called
returns-clause-called c = called_done (flush_number c.in_ok-check_flush.ensures) refl (flush_does c.release_all-guide.ensures)
