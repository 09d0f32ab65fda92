-- `call_runs::run_open` meets its contract. The invariant: whatever list is being made, the calls up to `at` are made too; the measure is what
-- is left of the numbers.
use lib.ListN.{length}
use Prim.Native.Nat.{◌-◌}
use Rattle.session.specs.Slices.{contents, SameSlices}
use Rattle.call_runs.specs.Cascading.{Cascading}
use Rattle.call_runs.specs.Continuing.{Going}
use Rattle.call_runs.proofs.run_open.Given as goal

abbrev pub invariant-loop-t : goal.invariant-loop-t
invariant-loop-t l =
    record {
      cascading : Cascading l.c l.initial.z (contents l.initial.storage) l.initial.t l.z (contents l.storage) l.t;
      same : SameSlices l.initial.storage l.storage;
    }

abbrev pub decreases-loop-t : goal.decreases-loop-t
decreases-loop-t l = l.z.delayed

abbrev pub invariant-loop-at : goal.invariant-loop-at
invariant-loop-at l =
    record {
      going : Going l.calls l.initial.z (contents l.initial.storage) l.initial.answers l.initial.at l.initial.n l.z (contents l.storage) l.answers l.at l.n;
      same : SameSlices l.initial.storage l.storage;
    }

abbrev pub decreases-loop-at : goal.decreases-loop-at
decreases-loop-at l = length l.calls - l.at
