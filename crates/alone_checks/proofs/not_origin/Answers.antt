-- `alone_checks::not_origin` meets its contract by the tests. Assumes nothing.
use borrow.Author.Tests.{eq-eqb, ne_eqb}
use Rattle.alone_checks.specs.Numbers.{origin_not}
use Rattle.alone_checks.proofs.not_origin.Goals as goal

pub returns-then-at-ne0 : goal.returns-then-at-ne0
unfolding origin_not
returns-then-at-ne0 c = rw (ne_eqb c.args.at.span 0 c.if-at-ne0.true)

pub returns-else-at-ne0 : goal.returns-else-at-ne0
unfolding origin_not
returns-else-at-ne0 c = rw (eq-eqb c.args.at.span 0 c.if-at-ne0.false)
