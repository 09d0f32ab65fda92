-- `ascending_list::run_open` meets its contract: a call that is made leads further, and the measure is what is left of the numbers.
use Prim.Native.Nat.{◌-◌, ◌≤◌}
use lib.ListN.{length}
use Rattle.ascending_session.specs.Slices.{contents, SameSlices}
use Rattle.ascending_list.specs.Progress.{Leads}
use Rattle.ascending_list.proofs.run_open.Given as goal

abbrev pub invariant-loop-at : goal.invariant-loop-at
invariant-loop-at l =
    record {
      leads : Leads l.calls l.initial.z (contents l.initial.storage) l.initial.answers l.initial.at l.initial.n l.z (contents l.storage) l.answers l.at l.n;
      onward : l.initial.at ≤ l.at;
      same : SameSlices l.initial.storage l.storage;
    }

abbrev pub decreases-loop-at : goal.decreases-loop-at
decreases-loop-at l = length l.calls - l.at
