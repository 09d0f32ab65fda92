-- The later checks count where the earlier ones pass. Assumes nothing.
use Rattle.std.proofs.Common.{◌≡◌, refl, rules}
use Rattle.rules.specs.Answer.{number, number_of, number_of_pos}
use Rattle.add_checks.specs.StateChecks.{add_lists, may_state, add_state}
use Rattle.add_checks.proofs.check_add.Goals as goal

pub returns-in_err-check_lists : goal.returns-in_err-check_lists
returns-in_err-check_lists c =
    let e : number c.from_residual.result ≡ number_of c.in_err-check_lists.field-0.0 = search rules in
    rw e (add_lists _ _ _ _ _ _ _ _ _ _ c.in_err-check_lists.ensures (number_of_pos c.in_err-check_lists.field-0.0))

pub check_state-requires : goal.check_state-requires
check_state-requires c = may_state _ _ _ _ _ _ _ _ 0 c.in_ok-check_lists.ensures refl c.requires

pub returns : goal.returns
returns c = add_state _ _ _ _ _ _ _ _ _ 0 c.in_ok-check_lists.ensures refl _ _ c.check_state.ensures
