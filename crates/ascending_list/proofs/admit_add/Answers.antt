-- `ascending_list::admit_add` meets its contract: the number is the rules'.
use mathlib.Core.Path.{◌≡◌, refl}
use borrow.Author.Rules.{rules}
use Rattle.std.specs.Prelude.{Option, Result, Err}
use Rattle.rules.specs.declared.Refusal.{Refusal}
use Rattle.lists.specs.declared.Registration.{Registration}
use Rattle.ascending_calls.specs.Numbers.{add_number, may_check}
use Rattle.ascending_list.proofs.admit_add.Goals as goal

pub check_add-requires : goal.check_add-requires
check_add-requires c = may_check c.requires.asks

pub returns-in_err-check_add : goal.returns-in_err-check_add
returns-in_err-check_add c =
    let e : ◌≡◌ {A = Result (Option Registration) Refusal} c.from_residual.result (Err c.in_err-check_add.field-0.0) = search rules in
    let x = c.in_err-check_add.ensures in
    record { numbers = rw e (λ σ q. add_number refl refl x); same = x.same; left = rw e tt }

pub returns : goal.returns
returns c = let x = c.in_ok-check_add.ensures in record { numbers = λ σ q. add_number refl refl x; same = x.same; left = (refl, refl, refl) }
