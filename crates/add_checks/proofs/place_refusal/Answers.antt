-- A law for each way out. Assumes nothing.
use Rattle.add_checks.specs.ListChecks.{flagged_some, flagged_none}
use mathlib.Core.Path.{sym, ◌∙◌}
use Rattle.add_checks.proofs.place_refusal.Goals as goal

pub returns-then-any_at_least : goal.returns-then-any_at_least
returns-then-any_at_least c = flagged_some _ _ (sym c.any_at_least.ensures ∙ c.if-any_at_least.true)

pub returns-else-any_at_least : goal.returns-else-any_at_least
returns-else-any_at_least c = flagged_none _ _ (sym c.any_at_least.ensures ∙ c.if-any_at_least.false)
