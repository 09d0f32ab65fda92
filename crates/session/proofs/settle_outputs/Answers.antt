-- `session::settle_outputs` meets its contract: the stamp's and the watermark's promises, put together.
use mathlib.Core.Path.{refl}
use Rattle.session.specs.Outputs.{asked_advance}
use Rattle.session.proofs.settle_outputs.Goals as goal

pub advance-requires : goal.advance-requires
advance-requires c = let a = c.args in
    asked_advance a.marks.now c.stamp.new.marks a.locations.now c.stamp.new.locations a.pool.now a.at a.n a.v a.v a.watermark _ refl c.requires c.stamp.ensures
