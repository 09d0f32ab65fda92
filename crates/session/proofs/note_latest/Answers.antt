-- `session::note_latest` meets its contract: the two ways of `noted`.
use mathlib.Core.Path.{sym, ◌∙◌}
use Rattle.session.specs.Noting.{noted_none, noted_some}
use Rattle.session.proofs.note_latest.Goals as goal

pub returns-then-from-to : goal.returns-then-from-to
returns-then-from-to c = c.note_written.ensures ∙ sym (noted_some _ _ _ _ c.if-from-to.true)

pub returns-else-from-to : goal.returns-else-from-to
returns-else-from-to c = sym (noted_none _ _ _ _ c.if-from-to.false)
