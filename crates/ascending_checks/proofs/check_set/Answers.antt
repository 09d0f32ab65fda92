-- A law for each way out. Assumes nothing.
use Rattle.ascending_checks.specs.Laws.{set_closed, set_flagged, set_unknown, set_breaks, set_lowest}
use Rattle.ascending_checks.proofs.check_set.Goals as goal

pub returns-then-closed : goal.returns-then-closed
returns-then-closed c = set_closed c.if-closed.true

pub returns-then-x-ge-LEAST_FLAGGED : goal.returns-then-x-ge-LEAST_FLAGGED
returns-then-x-ge-LEAST_FLAGGED c = set_flagged c.if-closed.false c.if-x-ge-LEAST_FLAGGED.true

pub returns-then-v-x : goal.returns-then-v-x
returns-then-v-x c = set_unknown c.if-closed.false c.if-x-ge-LEAST_FLAGGED.false c.if-v-x.true

pub returns-then-x-lowest : goal.returns-then-x-lowest
returns-then-x-lowest c = set_breaks c.if-closed.false c.if-x-ge-LEAST_FLAGGED.false c.if-v-x.false c.if-x-lowest.true

pub returns : goal.returns
returns c = set_lowest c.if-closed.false c.if-x-ge-LEAST_FLAGGED.false c.if-v-x.false c.if-x-lowest.false
