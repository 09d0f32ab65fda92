-- The flag as it lies. Assumes nothing.
use borrow.Author.Rules.{rules}
use Rattle.taken.specs.Flag.{flag_at}
use Rattle.taken.proofs.flag.Goals as goal

pub returns : goal.returns
unfolding flag_at
returns c = search rules
