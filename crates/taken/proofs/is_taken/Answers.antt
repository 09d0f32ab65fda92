-- The flag as it is read. Assumes nothing.
use Rattle.taken.specs.Flags.{taken_at}
use Rattle.taken.proofs.is_taken.Goals as goal

pub returns : goal.returns
unfolding taken_at
returns c = rw c.flag.ensures
