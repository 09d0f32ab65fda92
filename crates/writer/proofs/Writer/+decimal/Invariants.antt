-- The digits before the last are those of the tenth, written by the call; the measure is the number. Assumes nothing.
use Rattle.writer.proofs.Writer.+decimal.Given as goal

abbrev pub decreases-decimal : goal.decreases-decimal
decreases-decimal l = l.n
