-- The first i places were new and are flagged. A flag that is up is that of a taken place or of one met before. Assumes nothing.
use Rattle.taken.specs.Flags.{Claiming}
use Rattle.taken.proofs.claim_new.Given as goal

abbrev pub invariant-loop-i : goal.invariant-loop-i
invariant-loop-i l = Claiming l.initial.waiting l.v l.outs l.i l.waiting
