-- One of the inputs, or one of the outputs. Assumes nothing.
use mathlib.Core.Path.{sym, ◌∙◌}
use lib.Dec.{leb}
use Rattle.lists.specs.Scan.{any_append}
use Rattle.add_checks.proofs.any_at_least.Goals as goal

pub returns-then-any_at_least : goal.returns-then-any_at_least
returns-then-any_at_least c = let a = c.args in
    c.if-any_at_least.true ∙ sym (any_append (λ x. leb a.bound x) a.r.inputs.now a.r.outputs.now ∙ rw (sym c.any_at_least.ensures ∙ c.if-any_at_least.true))

pub returns-else-any_at_least : goal.returns-else-any_at_least
returns-else-any_at_least c = let a = c.args in
    c.any_at_least-else-any_at_least.ensures ∙ sym (any_append (λ x. leb a.bound x) a.r.inputs.now a.r.outputs.now ∙ rw (sym c.any_at_least.ensures ∙ c.if-any_at_least.false))
