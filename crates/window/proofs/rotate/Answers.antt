-- `window::rotate` meets its contract: three shifts, put together. Assumes nothing.
use Rattle.window.specs.Rotate.{rotated}
use Rattle.window.proofs.rotate.Goals as goal

pub returns : goal.returns
unfolding rotated
returns c = cc
