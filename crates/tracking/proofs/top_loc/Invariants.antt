-- What remains to be done keeps the answer: the greatest of `m` and of the locations of the places not yet looked at. Assumes nothing.
use Prim.Native.Nat.{◌≤◌}
use mathlib.Core.Path.{◌≡◌}
use Rattle.lists.specs.Part.{part}
use Rattle.tracking.specs.Tracking.{peak}
use Rattle.tracking.specs.Loops.{to_peak}
use Rattle.tracking.proofs.top_loc.Given as goal

abbrev pub invariant-loop-x : goal.invariant-loop-x
invariant-loop-x l = (l.x-index ≤ l.n) × (peak l.locations (part l.pool l.at l.n) ≡ to_peak l.pool l.at l.n l.locations l.m l.x-index)
