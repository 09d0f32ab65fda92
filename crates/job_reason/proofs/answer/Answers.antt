-- What the session answers, or the two lines of a refusal. Assumes nothing.
use mathlib.Core.Path.{refl, ◌∙◌}
use Rattle.rules.specs.Reason.{reason_lines}
use Rattle.job_reason.specs.Laws.{answered}
use Rattle.job_reason.proofs.answer.Goals as goal

pub returns-in-Ok : goal.returns-in-Ok
returns-in-Ok c = answered c.in-Ok.ensures refl (c.put_reason.auto.out ∙ c.requires) c.put_reason.ensures

pub returns-in-Err : goal.returns-in-Err
unfolding reason_lines
returns-in-Err c = answered c.in-Err.ensures refl (c.put_rejection.auto.out ∙ c.requires) (rw c.into.ensures at c.put_rejection.ensures)
