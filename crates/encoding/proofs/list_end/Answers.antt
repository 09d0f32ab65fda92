-- `encoding::list_end` meets its contract: a law for each way out.
use Rattle.encoding.specs.Ends.{list_past, list_short, list_whole}
use Rattle.encoding.proofs.list_end.Goals as goal

pub returns-in_err-n-clause-ends : goal.returns-in_err-n-clause-ends
returns-in_err-n-clause-ends c = rw c.from_residual.ensures (list_past _ _ c.in_err-n.ensures.lookup.3)

pub returns-then-calls-at-clause-ends : goal.returns-then-calls-at-clause-ends
returns-then-calls-at-clause-ends c = let k = c.in_ok-n.ensures.lookup.3 in list_short _ _ _ (k.1 0) k.0 c.if-calls-at.true

pub returns-clause-ends : goal.returns-clause-ends
returns-clause-ends c = let k = c.in_ok-n.ensures.lookup.3 in list_whole _ _ _ (k.1 0) k.0 c.if-calls-at.false
