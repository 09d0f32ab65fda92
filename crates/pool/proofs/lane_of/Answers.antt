-- The cell as it is read. Assumes nothing.
use borrow.Author.Rules.{rules}
use Rattle.pool.specs.Lists.{lane_of, cell_at}
use Rattle.pool.proofs.lane_of.Goals as goal

pub returns : goal.returns
unfolding lane_of cell_at
returns c = search rules
