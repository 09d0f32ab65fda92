-- The places below p are done: storage holds what is left from p on, and what was due below p stands on the stack. Assumes nothing.
use Rattle.registrar.specs.Keeps.{placing_start, placing_chained, placing_next}
use Rattle.registrar.proofs.advance_placed.Goals as goal

pub loop-p-init : goal.loop-p-init
loop-p-init c = let a = c.args in placing_start a.waiting.now a.v a.lo a.top

pub splice-t-requires : goal.splice-t-requires
splice-t-requires c = rw c.head-newest.ensures (placing_chained c.requires c.loop-p.invariant c.loop-p-test.true)

pub loop-p-preserved : goal.loop-p-preserved
loop-p-preserved c = placing_next c.requires c.loop-p.invariant c.loop-p-test.true (rw c.head-newest.ensures at c.splice-t.ensures)
