-- `sorter::add` meets its contract: refused, nothing has changed; admitted, the placing makes the call.
use mathlib.Core.Path.{◌≡◌, refl}
use borrow.Author.Rules.{rules}
use Rattle.std.specs.Prelude.{Result, Err}
use Rattle.rules.specs.declared.Refusal.{Refusal}
use Rattle.rules.specs.Answer.{number_of_pos}
use Rattle.session.specs.declared.Session.{Session}
use Rattle.admitting.specs.Admitted.{admitted_refused, admitted_placed, add_asked, add_admitted}
use Rattle.sorter.proofs.add.Goals as goal

pub admit_add-requires : goal.admit_add-requires
admit_add-requires c = add_asked c.requires

pub returns-in_err-a-clause-called : goal.returns-in_err-a-clause-called
returns-in_err-a-clause-called c =
    let e : ◌≡◌ {A = Result Session Refusal} c.from_residual.result (Err c.in_err-a.field-0.0) = search rules in
    rw e (admitted_refused _ _ _ _ _ (add_admitted c.requires c.in_err-a.ensures) (number_of_pos _))

pub place_admitted-requires : goal.place_admitted-requires
place_admitted-requires c = (add_admitted c.requires c.in_ok-a.ensures).may refl

pub returns-clause-called : goal.returns-clause-called
returns-clause-called c = admitted_placed _ _ _ _ _ (add_admitted c.requires c.in_ok-a.ensures) _ _ refl c.place_admitted.ensures.placed
