-- `jobturn::put` meets its contract: a set or an add is put down by encoding's promises, and for a flush nothing is. Assumes nothing.
use Rattle.jobturn.specs.Putting.{puts_set, puts_add}
use Rattle.jobturn.proofs.put.Goals as goal

pub returns-in-Set : goal.returns-in-Set
returns-in-Set c = puts_set c.in-Set.is c.put_set.ensures.put c.put_set.ensures.takes

pub returns-in-Add : goal.returns-in-Add
returns-in-Add c = puts_add c.in-Add.is c.put_add.ensures.put c.put_add.ensures.takes
