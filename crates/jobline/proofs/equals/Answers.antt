-- A line as long as the text that starts with it is the text. Assumes nothing.
use Rattle.std.proofs.Common.{sym, ◌∙◌}
use Rattle.jobline.specs.Keys.{same_key}
use Rattle.jobline.proofs.equals.Goals as goal

pub returns-then-s-text : goal.returns-then-s-text
returns-then-s-text c = c.starts.ensures ∙ sym (same_key c.args.text.now c.args.s.now c.if-s-text.true)
