-- One store. Assumes nothing.
use borrow.Author.Rules.{rules}
use Rattle.taken.specs.Flag.{with_flag}
use Rattle.taken.proofs.set_flag.Goals as goal

pub returns : goal.returns
unfolding with_flag
returns c = search rules
