-- The fresh session over cleared slices. Assumes nothing.
use Rattle.std.proofs.Common.{arith}
use Rattle.opening.specs.Slices.{begins}
use Rattle.opening.proofs.begin_over.Goals as goal

pub overflow_cast-p : goal.overflow_cast-p
overflow_cast-p c = omega (arith, c.requires.low_p)

pub overflow_cast-v : goal.overflow_cast-v
overflow_cast-v c = omega (arith, c.requires.low_v)

pub returns : goal.returns
returns c = let a = c.clear.ensures in
    begins c.fresh.ensures (record { tally = a.tally; rows = a.rows; marks = a.marks; locations = a.locations; waiting = c.clear-2.ensures })
