-- The session and the storage that the run left are asked. Assumes nothing.
use Rattle.job_reason.specs.Laws.{has_ended}
use Rattle.job_reason.proofs.explain_job.Goals as goal

pub explain_end-requires : goal.explain_end-requires
explain_end-requires c = has_ended c.run-ended.ensures.ran

pub returns : goal.returns
returns c = c.explain_end.ensures.tells c.run-ended.ensures.ran
