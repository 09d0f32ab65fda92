-- The heads are cleared, and then the flags. Assumes nothing.
use Rattle.waiting.specs.Cleared.{emptied}
use Rattle.waiting.proofs.clear.Goals as goal

pub returns : goal.returns
returns c = emptied c.clear.ensures c.clear-2.ensures
