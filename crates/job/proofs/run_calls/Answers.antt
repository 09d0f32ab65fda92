-- What remains of the job for the model that is held is what remained at the start. Assumes nothing.
use mathlib.Core.Path.{◌≡◌, refl, ap, ◌∙◌}
use Rattle.std.specs.Prelude.{Ok}
use Rattle.jobturn.specs.Ends as end
use Rattle.jobturn.specs.Steps as step'
use Rattle.jobturn.specs.Steps.{step_as}
use Rattle.job.specs.Laws.{running_begins, running_may, runs_on, runs_ended}
use Rattle.job.proofs.run_calls.Goals as goal
use Rattle.job.proofs.run_calls.Goals.{In-Ok-On}

-- the call was made, and another one follows it
goes_on : (c : In-Ok-On) → step_as c.run_call-t.result.step ≡ step'.On c.in-Ok-On.next c.in-Ok-On.n
goes_on c = ap step_as (c.in-Ok-On.is ∙ ap Ok (rw c.in-Ok-On.is at c.in-Ok-On.field-0-is))

pub loop-next-init : goal.loop-next-init
loop-next-init c =
    record {
      running = running_begins c.requires _;
      same = record { spans = refl; order = refl; tally = refl; rows = refl; marks = refl; locations = refl; waiting = refl; pool = refl };
    }

pub run_call-t-requires : goal.run_call-t-requires
run_call-t-requires c = running_may c.requires c.loop-next.invariant.running _ c.loop-next.auto.into

pub loop-next-preserved : goal.loop-next-preserved
loop-next-preserved c =
    let a = c.run_call-t.ensures.same in
    let b = c.loop-next.invariant.same in
    record {
      running = runs_on c.requires c.loop-next.invariant.running c.run_call-t.ensures.turned _ _ (goes_on (goal.at.loop-next-preserved c).In-Ok-On);
      same = record {
        spans = a.spans ∙ b.spans;
        order = a.order ∙ b.order;
        tally = a.tally ∙ b.tally;
        rows = a.rows ∙ b.rows;
        marks = a.marks ∙ b.marks;
        locations = a.locations ∙ b.locations;
        waiting = a.waiting ∙ b.waiting;
        pool = a.pool ∙ b.pool;
      };
    }

pub returns-in-Ok-Finished-clause-ran : goal.returns-in-Ok-Finished-clause-ran
returns-in-Ok-Finished-clause-ran c =
    runs_ended c.requires c.loop-next.invariant.running c.run_call-t.ensures.turned (end.Finished c.in-Ok-Finished.figures)
    (ap step_as (c.in-Ok-Finished.is ∙ ap Ok (rw c.in-Ok-Finished.is at c.in-Ok-Finished.field-0-is)))

pub returns-in-Err-clause-ran : goal.returns-in-Err-clause-ran
returns-in-Err-clause-ran c = runs_ended c.requires c.loop-next.invariant.running c.run_call-t.ensures.turned (end.rejected_as c.in-Err.e) (ap step_as c.in-Err.is)
