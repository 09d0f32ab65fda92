-- `tracking::packed` meets its contract: the sum is the definition's, and fits 64 bits. Assumes nothing.
use mathlib.Core.Path.{refl}
use Rattle.rules.specs.Record.{pack}
use Rattle.tracking.proofs.packed.Goals as goal

pub returns : goal.returns
unfolding pack
returns c = refl
