-- `records::fill_one` meets its contract: four stores. Assumes nothing.
use Rattle.records.specs.Filling.{fill_one}
use Rattle.records.proofs.fill_one.Goals as goal

pub returns : goal.returns
unfolding fill_one
returns c = rw c.packed.ensures
