-- `encoding::count_calls` meets its contract. The invariant: the calls read so far come before what the remaining numbers decode to.
use Rattle.encoding.specs.Ends.{Counting}
use lib.ListN.{length}
use Prim.Native.Nat.{◌-◌}
use Rattle.encoding.proofs.count_calls.Given as goal

abbrev pub invariant-loop-at : goal.invariant-loop-at
invariant-loop-at l = Counting l.calls l.at l.n

abbrev pub decreases-loop-at : goal.decreases-loop-at
decreases-loop-at l = length l.calls - l.at
