-- One store. Assumes nothing.
use borrow.Author.Rules.{rules}
use Rattle.pool.specs.Lists.{cell, with_cell}
use Rattle.pool.proofs.set_cell.Goals as goal

pub returns : goal.returns
unfolding with_cell cell
returns c = search rules
