-- The registration reached is on the chain, and what follows it has the same last. Registrations descend along a chain, so links fall. Assumes nothing.
use Rattle.registrar.specs.Loops.{Seeking}
use Rattle.registrar.proofs.oldest.Given as goal

abbrev pub invariant-loop-next : goal.invariant-loop-next
invariant-loop-next l = Seeking l.waiting l.v l.from l.r l.next

abbrev pub decreases-loop-next : goal.decreases-loop-next
decreases-loop-next l = l.next
