-- `ascending_list::run_calls` meets its contract: runs of calls lead from the start to the end, and the measure is what is left of the numbers.
use Prim.Native.Nat.{◌-◌}
use lib.ListN.{length}
use Rattle.ascending_session.specs.Slices.{contents, SameSlices}
use Rattle.ascending_list.specs.Progress.{Leads}
use Rattle.ascending_list.proofs.run_calls.Given as goal

abbrev pub invariant-loop-r : goal.invariant-loop-r
invariant-loop-r l =
    record {
      leads : Leads l.calls l.initial.r.session (contents l.initial.storage) l.initial.answers l.initial.r.at l.initial.r.made
          l.r.session (contents l.storage) l.answers l.r.at l.r.made;
      same : SameSlices l.initial.storage l.storage;
    }

abbrev pub decreases-loop-r : goal.decreases-loop-r
decreases-loop-r l = length l.calls - l.r.at
