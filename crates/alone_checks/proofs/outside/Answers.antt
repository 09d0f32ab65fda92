-- `alone_checks::outside` meets its contract by the tests. Assumes nothing.
use borrow.Author.Tests.{le-ltb, lt-ltb}
use Rattle.alone_checks.proofs.outside.Goals as goal

pub returns-then-x-lt1 : goal.returns-then-x-lt1
returns-then-x-lt1 c = rw (lt-ltb c.args.x 1 c.if-x-lt1.true)

pub returns-else-x-lt1 : goal.returns-else-x-lt1
returns-else-x-lt1 c = rw (le-ltb c.args.x 1 c.if-x-lt1.false)
