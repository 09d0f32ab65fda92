-- `encoding::add_end` meets its contract: from what the two lists' ends say.
use Rattle.std.proofs.Common.{refl, arith}
use Rattle.encoding.specs.Ends.{add_none, add_some}
use Rattle.encoding.proofs.add_end.Goals as goal

pub returns-in_err-middle-clause-ends : goal.returns-in_err-middle-clause-ends
returns-in_err-middle-clause-ends c = rw c.from_residual.ensures (add_none _ _ 0 c.in_err-middle.ensures.ends refl)

pub returns-clause-ends : goal.returns-clause-ends
returns-clause-ends c = add_some _ _ c.in_ok-middle.middle _ c.in_ok-middle.ensures.ends (λ e. omega (arith, c.in_ok-middle.ensures.past)) c.list_end-2.ensures.ends
