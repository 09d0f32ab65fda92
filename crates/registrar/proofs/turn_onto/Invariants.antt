-- What is left of the chain, turned round onto the present top, gives what the whole chain gives. Links fall, since registrations descend. Assumes nothing.
use mathlib.Core.Path.{◌≡◌}
use lib.ListN.{length}
use Rattle.registrar.specs.Loops.{Turning}
use Rattle.registrar.proofs.turn_onto.Given as goal

abbrev pub invariant-loop-h : goal.invariant-loop-h
invariant-loop-h l = Turning l.initial.waiting l.v l.from l.onto l.waiting l.h l.top × (length l.waiting ≡ length l.initial.waiting)

abbrev pub decreases-loop-h : goal.decreases-loop-h
decreases-loop-h l = l.h
