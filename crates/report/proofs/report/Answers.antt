-- The listing is that of the storage, which is the model's. Assumes nothing.
use native.Mathlib.Omega.{arith}
use Rattle.report.specs.Laws.{within, ready, reported}
use Rattle.report.proofs.report.Goals as goal

pub put_listing-requires : goal.put_listing-requires
put_listing-requires c = (ready c.requires.shown, omega (arith, within c.requires.shown, c.requires.enough))

pub returns : goal.returns
returns c = λ P N W k x. reported x c.put_listing.ensures
