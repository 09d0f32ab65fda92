-- A law for each way out. Assumes nothing.
use Rattle.checking.specs.Laws.{flush_closed, flush_many, flush_good}
use Rattle.checking.proofs.check_flush.Goals as goal

pub returns-then-closed : goal.returns-then-closed
returns-then-closed c = flush_closed _ c.if-closed.true

pub returns-then-flushes-ge-MOST_FLUSHES : goal.returns-then-flushes-ge-MOST_FLUSHES
returns-then-flushes-ge-MOST_FLUSHES c = flush_many _ c.if-closed.false c.if-flushes-ge-MOST_FLUSHES.true

pub returns : goal.returns
returns c = flush_good _ c.if-closed.false c.if-flushes-ge-MOST_FLUSHES.false
