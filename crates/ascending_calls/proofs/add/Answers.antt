-- `ascending_calls::add` meets its contract: the number is the rules', the checks leave the marks as they were, and 0 lets the registration be
-- placed.
use mathlib.Core.Path.{◌≡◌, refl}
use borrow.Author.Rules.{rules}
use Rattle.std.specs.Prelude.{Result, Err}
use Rattle.rules.specs.declared.Refusal.{Refusal}
use Rattle.rules.specs.Answer.{number_of_pos}
use Rattle.ascending_session.specs.declared.Ascending.{Ascending}
use native.Mathlib.Omega.{arith}
use Rattle.ascending_adding.specs.Adding.{add_counts}
use Rattle.ascending_calls.specs.Numbers.{may_check}
use Rattle.ascending_calls.specs.Adding.{add_refused, may_add, add_done}
use Rattle.ascending_calls.proofs.add.Goals as goal

pub check_add-requires : goal.check_add-requires
check_add-requires c = may_check c.requires

pub returns-in_err-check_add-clause-called : goal.returns-in_err-check_add-clause-called
returns-in_err-check_add-clause-called c =
    let e : ◌≡◌ {A = Result Ascending Refusal} c.from_residual.result (Err c.in_err-check_add.field-0.0) = search rules in
    rw e (add_refused refl refl c.in_err-check_add.ensures (number_of_pos _))

pub place_new-guide-requires : goal.place_new-guide-requires
place_new-guide-requires c = may_add refl refl c.in_ok-check_add.ensures refl c.requires

pub overflow_add-result : goal.overflow_add-result
overflow_add-result c = omega (arith, add_counts _ _ _ (may_add refl refl c.in_ok-check_add.ensures refl c.requires))

pub overflow_add-result-2 : goal.overflow_add-result-2
overflow_add-result-2 c = omega (arith, add_counts _ _ _ (may_add refl refl c.in_ok-check_add.ensures refl c.requires))

pub overflow_add-result-3 : goal.overflow_add-result-3
overflow_add-result-3 c = omega (arith, add_counts _ _ _ (may_add refl refl c.in_ok-check_add.ensures refl c.requires))

pub overflow_add-result-4 : goal.overflow_add-result-4
overflow_add-result-4 c = omega (arith, add_counts _ _ _ (may_add refl refl c.in_ok-check_add.ensures refl c.requires))

pub returns-clause-called : goal.returns-clause-called
returns-clause-called c = add_done refl refl c.in_ok-check_add.ensures refl c.place_new-guide.ensures.added
