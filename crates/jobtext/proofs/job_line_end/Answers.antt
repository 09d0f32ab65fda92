-- A start past the bytes, and any other. Assumes nothing.
use mathlib.Core.Path.{◌∙◌}
use Rattle.jobtext.specs.LineEnds.{end_past, end_within}
use Rattle.jobtext.proofs.job_line_end.Goals as goal

pub returns-then-job-from : goal.returns-then-job-from
returns-then-job-from c = end_past c.args.job.now c.args.from c.if-job-from.true

pub returns : goal.returns
returns c = c.line_end.ensures ∙ end_within c.args.job.now c.args.from c.if-job-from.false
