-- What remains of the job for the model that is held is what remained at the start. Assumes nothing.
use Prim.Native.Nat.{◌-◌}
use lib.ListN.{length}
use Rattle.session.specs.Slices.{contents, SameSlices}
use Rattle.job.specs.Laws.{Running}
use Rattle.job.proofs.run_calls.Given as goal

abbrev pub invariant-loop-next : goal.invariant-loop-next
invariant-loop-next l =
    record {
      running : Running l.initial.session (contents l.initial.storage) l.job l.start l.session (contents l.storage) l.at l.line l.initial.into l.into;
      same : SameSlices l.initial.storage l.storage;
    }

abbrev pub decreases-loop-next : goal.decreases-loop-next
decreases-loop-next l = length l.job - l.at
