-- A law for each way out. Assumes nothing.
use Rattle.checking.specs.Laws.{final_closed, final_pending, final_good}
use Rattle.checking.proofs.check_final.Goals as goal

pub returns-then-closed : goal.returns-then-closed
returns-then-closed c = final_closed _ c.if-closed.true

pub returns-then-delayed-gt0 : goal.returns-then-delayed-gt0
returns-then-delayed-gt0 c = final_pending _ c.if-closed.false c.if-delayed-gt0.true

pub returns : goal.returns
returns c = final_good _ c.if-closed.false c.if-delayed-gt0.false
