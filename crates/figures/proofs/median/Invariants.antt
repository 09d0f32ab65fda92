-- What remains to be done keeps the answer: the median looked for from i on, with the running sum before it. Assumes nothing.
use mathlib.Core.Path.{◌≡◌}
use Prim.Native.Nat.{◌+◌, ◌-◌, ◌≤◌}
use lib.ListN.{length, drop}
use Rattle.rules.specs.Summary.{sum, median, median_from}
use Rattle.figures.proofs.median.Given as goal

abbrev pub invariant-loop-i : goal.invariant-loop-i
invariant-loop-i l = (l.i-end ≡ length l.t) × ((l.i ≤ length l.t) × ((l.running + sum (drop l.i l.t) ≡ sum l.t) × (median l.t ≡ median_from l.all l.i l.running (drop l.i l.t))))

abbrev pub decreases-loop-i : goal.decreases-loop-i
decreases-loop-i l = length l.t - l.i
