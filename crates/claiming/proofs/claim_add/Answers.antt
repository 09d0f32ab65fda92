-- Admitted, the number is 0; refused, it is that of `check_add`, which is not 0. Assumes nothing.
use Rattle.claiming.specs.Claiming.{claimed_add, may_again, refused_add}
use Rattle.claiming.proofs.claim_add.Goals as goal

pub returns-then-admits_add : goal.returns-then-admits_add
returns-then-admits_add c = claimed_add c.admits_add.ensures c.if-admits_add.true

pub check_add-requires : goal.check_add-requires
check_add-requires c = may_again c.admits_add.ensures c.if-admits_add.false c.requires.may

pub returns : goal.returns
returns c = refused_add c.admits_add.ensures c.if-admits_add.false c.requires.may c.check_add.ensures
