-- Each way out is a law: too long, a bad head, or the calls read to their end. Assumes nothing.
use Rattle.std.proofs.Common.{rules, ◌≡◌, refl, ap, ◌∙◌}
use Rattle.std.specs.Prelude.{Result, Err}
use Rattle.jobcalls.specs.declared.Rejection.{Rejection}
use Rattle.jobcalls.specs.Rejections.{rejection_of}
use Rattle.jobneeds.specs.declared.Needs.{Needs}
use Rattle.jobneeds.specs.Told.{reading_as}
use Rattle.jobneeds.specs.Laws.{told_long, told_malformed, may_read, told_read}
use Rattle.jobneeds.proofs.read_needs.Goals as goal

pub returns-then-job-gt-MOST_JOB_BYTES : goal.returns-then-job-gt-MOST_JOB_BYTES
returns-then-job-gt-MOST_JOB_BYTES c = told_long c.args.job.now c.if-job-gt-MOST_JOB_BYTES.true

pub returns-in_err-head : goal.returns-in_err-head
returns-in_err-head c =
    let e : ◌≡◌ {A = Result Needs Rejection} c.from_residual.result (Err (rejection_of c.in_err-head.field-0.0)) = search rules in
    ap reading_as e ∙ told_malformed c.if-job-gt-MOST_JOB_BYTES.false c.in_err-head.ensures _ refl

pub read_calls-requires : goal.read_calls-requires
read_calls-requires c = may_read c.if-job-gt-MOST_JOB_BYTES.false c.in_ok-head.ensures _ _ _ refl _ c.read_head.auto.into

pub returns : goal.returns
returns c = told_read c.if-job-gt-MOST_JOB_BYTES.false c.in_ok-head.ensures _ _ _ refl c.read_calls.result c.read_calls.ensures
