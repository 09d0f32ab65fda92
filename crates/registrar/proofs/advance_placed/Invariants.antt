-- The places below p are done: storage holds what is left from p on, and what was due below p stands on the stack. Assumes nothing.
use Rattle.registrar.specs.Keeps.{Placing}
use Rattle.registrar.proofs.advance_placed.Given as goal

abbrev pub invariant-loop-p : goal.invariant-loop-p
invariant-loop-p l = Placing l.initial.waiting l.v l.lo l.top l.waiting l.p l.t
