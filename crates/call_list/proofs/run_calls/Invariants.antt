-- `call_list::run_calls` meets its contract. The invariant: since the first flush or final the calls up to `r.at` are made, and a flush, a
-- final or the end is there; the measure is what is left of the numbers.
use mathlib.Core.Path.{◌≡◌}
use mathlib.Core.Bool.{true}
use lib.ListN.{length, get_or}
use Prim.Native.Nat.{◌-◌, ◌<◌}
use Rattle.session.specs.Slices.{contents, SameSlices}
use Rattle.call_runs.specs.Made.{ends_run}
use Rattle.call_runs.specs.Continuing.{Going}
use Rattle.call_list.proofs.run_calls.Given as goal

abbrev pub invariant-loop-r : goal.invariant-loop-r
invariant-loop-r l =
    record {
      going : Going l.calls l.initial.r.session (contents l.initial.storage) l.initial.answers l.initial.r.at l.initial.r.made
          l.r.session (contents l.storage) l.answers l.r.at l.r.made;
      stops : l.r.at < length l.calls → ends_run (get_or l.calls l.r.at 0) ≡ true;
      same : SameSlices l.initial.storage l.storage;
    }

abbrev pub decreases-loop-r : goal.decreases-loop-r
decreases-loop-r l = length l.calls - l.r.at
