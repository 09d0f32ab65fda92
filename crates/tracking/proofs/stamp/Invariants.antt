-- What remains to be done keeps the answer: both lists stamped at the places not yet looked at. Assumes nothing.
use Prim.Native.Nat.{◌≤◌}
use Rattle.rules.specs.Limits.{mark_written}
use Rattle.tracking.specs.Loops.{Stamping}
use Rattle.tracking.proofs.stamp.Given as goal

abbrev pub invariant-loop-x : goal.invariant-loop-x
invariant-loop-x l = (l.x-index ≤ l.n) × Stamping l.pool l.at l.n mark_written l.initial.marks l.marks l.x-index × Stamping l.pool l.at l.n l.loc l.initial.locations l.locations l.x-index
