-- The cell as it is read. Assumes nothing.
use borrow.Author.Rules.{rules}
use Rattle.pool.specs.Lists.{inputs_of, cell_at}
use Rattle.pool.proofs.list_inputs.Goals as goal

pub returns : goal.returns
unfolding inputs_of cell_at
returns c = search rules
