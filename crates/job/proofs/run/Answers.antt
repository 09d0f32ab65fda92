-- Each way out is a law: too long, a bad head, opening refused, or the calls run to their end. Assumes nothing.
use lib.ListN.{length}
use mathlib.Core.Path.{refl, sym, ap, ◌∙◌, subst}
use Rattle.rules.specs.Answer.{number_of, number_of_pos}
use Rattle.session.specs.Slices.{contents}
use Rattle.jobcalls.specs.declared.Rejection.{Rejection}
use Rattle.job.specs.Run.{Ended, unopened_at, Ran}
use Rattle.job.specs.Laws.{ran_long, ran_malformed, ran_refused, ran_all}
use Rattle.job.proofs.run.Goals as goal

pub returns-then-job-gt-MOST_JOB_BYTES-clause-ran : goal.returns-then-job-gt-MOST_JOB_BYTES-clause-ran
returns-then-job-gt-MOST_JOB_BYTES-clause-ran c = ran_long c.args.job.now _ c.unopened.ensures _ _ c.if-job-gt-MOST_JOB_BYTES.true

pub returns-in-Ok-open-clause-ran : goal.returns-in-Ok-open-clause-ran
returns-in-Ok-open-clause-ran c = ran_all c.args.job.now c.if-job-gt-MOST_JOB_BYTES.false _ _ _ _ _ _ c.in-Ok.ensures refl _ _ _ _ _
    c.requires c.in-Ok-open.ensures.opens refl _ _ _ _ c.run_calls.ensures.ran (ap length c.open.ensures.kept.pool)

pub returns-in-Err-open-clause-ran : goal.returns-in-Err-open-clause-ran
returns-in-Err-open-clause-ran c =
    let f : Ended → Type 0 = λ x. Ran c.args.job.now x.end x.session (contents c.args.storage.now) (contents c.open.new.storage) c.args.into.now c.read_head.new.into in
    subst f (sym c.unopened-in-Err-open.ensures) (ran_refused c.args.job.now c.if-job-gt-MOST_JOB_BYTES.false _ _ _ _ _ _ c.in-Ok.ensures refl _ _ _ _ _
    c.requires c.in-Err-open.ensures.opens (number_of_pos _))

pub returns-in-Err-clause-ran : goal.returns-in-Err-clause-ran
returns-in-Err-clause-ran c = ran_malformed c.args.job.now c.if-job-gt-MOST_JOB_BYTES.false _ _ _ _ c.in-Err.ensures c.read_head.auto.into refl
    _ (c.unopened-in-Err.ensures ∙ ap (λ (r : Rejection). unopened_at r.line (number_of r.refusal)) c.into.ensures) _
