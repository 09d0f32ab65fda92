-- The first i places are raised and do not repeat. An odd mark is that of a place met before. Assumes nothing.
use Rattle.ascending_marks.specs.Raising.{Raising}
use Rattle.ascending_marks.proofs.raise_marks.Given as goal

abbrev pub invariant-loop-i : goal.invariant-loop-i
invariant-loop-i l = Raising l.initial.marks l.outs l.i l.marks
