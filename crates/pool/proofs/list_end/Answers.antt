-- The next start where there is a next registration, else the end of what is used. Assumes nothing.
use borrow.Author.Tests.{lt-ltb, le-ltb}
use Rattle.pool.specs.Lists.{end_of}
use Rattle.pool.proofs.list_end.Goals as goal

pub returns-then-r-n : goal.returns-then-r-n
unfolding end_of
returns-then-r-n c = rw (lt-ltb _ _ c.if-r-n.true) c.list_start.ensures

pub returns : goal.returns
unfolding end_of
returns c = rw (le-ltb _ _ c.if-r-n.false)
