-- `alone_checks::check_flush` meets its contract: each return is one way to a verdict. Assumes nothing.
use mathlib.Core.Path.{sym, ◌∙◌}
use Rattle.alone_checks.specs.Verdicts.{flush_worn, flush_good}
use Rattle.alone_checks.proofs.check_flush.Goals as goal

pub returns-then-worn : goal.returns-then-worn
returns-then-worn c = flush_worn c.args.last (sym c.worn.ensures ∙ c.if-worn.true)

pub returns : goal.returns
returns c = flush_good c.args.last (sym c.worn.ensures ∙ c.if-worn.false)
