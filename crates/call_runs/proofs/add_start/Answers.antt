-- After the tag of an add with a lane comes the lane; after the other's, its lists. Assumes nothing.
use native.Mathlib.Omega.{arith}
use Rattle.call_runs.specs.Making.{lane_inside, add_in_lane, add_in_none}
use Rattle.call_runs.proofs.add_start.Goals as goal

pub offset_bounds-calls-at : goal.offset_bounds-calls-at
offset_bounds-calls-at c = omega (arith, c.requires.0.inside)

pub bounds-calls-at : goal.bounds-calls-at
bounds-calls-at c = c.requires.0.inside

pub overflow_add-result : goal.overflow_add-result
overflow_add-result c = omega (arith, lane_inside c.requires.0 c.requires.1 c.requires.2 c.if-calls-at-eq-LANE_ADD.true)

pub offset_bounds-calls-at-then-calls-at-eq-LANE_ADD : goal.offset_bounds-calls-at-then-calls-at-eq-LANE_ADD
offset_bounds-calls-at-then-calls-at-eq-LANE_ADD c = omega (arith, lane_inside c.requires.0 c.requires.1 c.requires.2 c.if-calls-at-eq-LANE_ADD.true)

pub bounds-calls-at-then-calls-at-eq-LANE_ADD : goal.bounds-calls-at-then-calls-at-eq-LANE_ADD
bounds-calls-at-then-calls-at-eq-LANE_ADD c = lane_inside c.requires.0 c.requires.1 c.requires.2 c.if-calls-at-eq-LANE_ADD.true

pub overflow_add-result-then-calls-at-eq-LANE_ADD : goal.overflow_add-result-then-calls-at-eq-LANE_ADD
overflow_add-result-then-calls-at-eq-LANE_ADD c = omega (arith, lane_inside c.requires.0 c.requires.1 c.requires.2 c.if-calls-at-eq-LANE_ADD.true)

pub returns-then-calls-at-eq-LANE_ADD : goal.returns-then-calls-at-eq-LANE_ADD
returns-then-calls-at-eq-LANE_ADD c = add_in_lane c.requires.0 c.requires.1 c.requires.2 c.if-calls-at-eq-LANE_ADD.true

pub overflow_add-result-2 : goal.overflow_add-result-2
overflow_add-result-2 c = omega (arith, c.requires.0.inside)

pub returns : goal.returns
returns c = add_in_none c.requires.0 c.requires.1 c.requires.2 c.if-calls-at-eq-LANE_ADD.false
