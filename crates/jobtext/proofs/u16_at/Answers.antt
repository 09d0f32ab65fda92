-- The two bytes are those that stand there. Assumes nothing.
use mathlib.Core.Path.{sym, ◌∙◌}
use Rattle.jobtext.specs.Words.{two_taken}
use Rattle.jobtext.proofs.u16_at.Goals as goal

pub returns : goal.returns
returns c = c.u16_of.ensures ∙ sym (two_taken c.args.s.now c.args.i c.requires)
