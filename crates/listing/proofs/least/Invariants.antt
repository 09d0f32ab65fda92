-- The least so far with that of the entries left is the smallest of all. Assumes nothing.
use mathlib.Core.Path.{◌≡◌}
use Prim.Native.Nat.{◌-◌, ◌≤◌, ◌<◌, ◌^◌}
use Rattle.rules.specs.Listing.{least}
use Rattle.listing.specs.Listed.{entries_from}
use Rattle.listing.specs.Lines.{least_of}
use Rattle.listing.proofs.least.Given as goal

abbrev pub invariant-loop-i : goal.invariant-loop-i
invariant-loop-i l = (1 ≤ l.i) × ((l.i ≤ l.n) × ((l.least < 2 ^ 32) × (least (entries_from l.order 0 l.n) ≡ least_of l.least (entries_from l.order l.i (l.n - l.i)))))

abbrev pub decreases-loop-i : goal.decreases-loop-i
decreases-loop-i l = l.n - l.i
