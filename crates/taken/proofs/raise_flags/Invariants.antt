-- The first i places are raised and do not repeat. A flag above 1 is that of a place met before. Assumes nothing.
use Rattle.taken.specs.Raising.{Raising}
use Rattle.taken.proofs.raise_flags.Given as goal

abbrev pub invariant-loop-i : goal.invariant-loop-i
invariant-loop-i l = Raising l.initial.waiting l.v l.outs l.i l.waiting
