-- The array holds the sums of thousands of the counts passed so far; one count more changes one of them. Assumes nothing.
use mathlib.Core.Path.{◌≡◌}
use Prim.Native.Nat.{◌-◌, ◌≤◌}
use lib.ListN.{length}
use Rattle.figures.specs.Loops.{Thousands}
use Rattle.figures.proofs.thousands.Given as goal

abbrev pub invariant-loop-i : goal.invariant-loop-i
invariant-loop-i l = (l.i-end ≡ length l.t) × ((l.i ≤ length l.t) × (Thousands l.t l.i l.sums))

abbrev pub decreases-loop-i : goal.decreases-loop-i
decreases-loop-i l = length l.t - l.i
