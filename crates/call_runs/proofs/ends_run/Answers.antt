-- Of the two tests, one way out each. Assumes nothing.
use Rattle.call_runs.specs.Making.{run_ends, run_goes_on}
use Rattle.call_runs.proofs.ends_run.Goals as goal

pub returns-then-tag-eq-LANE_ADD : goal.returns-then-tag-eq-LANE_ADD
returns-then-tag-eq-LANE_ADD c = run_goes_on c.if-tag-eq-LANE_ADD.true

pub returns : goal.returns
returns c = run_ends c.if-tag-eq-LANE_ADD.false
