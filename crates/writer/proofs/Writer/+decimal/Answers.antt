-- The digits before the last are those of the tenth, written by the call; the measure is the number. Assumes nothing.
use Rattle.std.proofs.Common.{arith}
use Rattle.writer.specs.Written.{led_small, led_large, fits_large, fits_last, written_last}
use Rattle.writer.proofs.Writer.+decimal.Goals as goal
use Rattle.writer.proofs.Writer.+decimal.Goals.{then-n-ge10, else-n-ge10}

pub decimal-requires : goal.decimal-requires
decimal-requires t c = (omega (arith, c.if-n-ge10.true), fits_large c.args.self.now c.args.n c.if-n-ge10.true c.ranges.n.fits c.requires)

pub byte-requires : goal.byte-requires
byte-requires t c = let n = c.args.n in
    elim c.if-n-ge10.branch [
      | then-n-ge10 w ↦ rw w.self-is (fits_last n c.requires (led_large n w.if-n-ge10.true c.ranges.n.fits w.decimal.ensures))
      | else-n-ge10 w ↦ rw w.self-is (fits_last n c.requires (led_small c.args.self.now n (omega (arith, w.if-n-ge10.false))))
    ]

pub returns : goal.returns
returns t c = let n = c.args.n in
    elim c.if-n-ge10.branch [
      | then-n-ge10 w ↦ written_last n (led_large n w.if-n-ge10.true c.ranges.n.fits w.decimal.ensures) (rw (← w.self-is) c.byte.ensures)
      | else-n-ge10 w ↦ written_last n (led_small c.args.self.now n (omega (arith, w.if-n-ge10.false))) (rw (← w.self-is) c.byte.ensures)
    ]
