-- Its three steps, one after the other. Assumes nothing.
use Rattle.entering.specs.Entering.{stores}
use Rattle.entering.proofs.store_lists.Goals as goal

pub returns : goal.returns
returns c = stores _ _ _ _ _ _ _ _ _ c.store_list.ensures _ _ c.store_list-2.ensures c.set_cell.ensures
