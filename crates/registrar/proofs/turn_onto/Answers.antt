-- What is left of the chain, turned round onto the present top, gives what the whole chain gives. Links fall, since registrations descend. Assumes nothing.
use native.Mathlib.Omega.{arith}
use Prim.Native.Nat.{◌<◌, ◌≤◌, ◌-◌}
use mathlib.Core.Path.{◌∙◌}
use lib.ListN.{length}
use Rattle.rules.specs.Checks.{waiting_needed}
use Rattle.registrar.specs.Loops.{turn_at, turn_more, turn_end}
use Rattle.registrar.proofs.turn_onto.Goals as goal
use Rattle.registrar.proofs.turn_onto.Goals.{In-loop-h}

-- in a turn: the link is that of a registration, and its link is in the storage
bound : (c : In-loop-h) → (c.loop-h.h - 1 < c.args.v) × (waiting_needed c.args.v ≤ length c.loop-h.waiting)
bound c = (omega (arith, turn_at _ _ _ _ _ _ _ c.loop-h.invariant.0), c.loop-h.invariant.0.long)

pub link-next-requires : goal.link-next-requires
link-next-requires c = bound (goal.at.link-next-requires c).In-loop-h

pub set_link-requires : goal.set_link-requires
set_link-requires c = bound (goal.at.set_link-requires c).In-loop-h

pub loop-h-smaller : goal.loop-h-smaller
loop-h-smaller c = rw c.link-next.ensures (turn_more _ _ _ _ _ _ _ c.loop-h.invariant.0 c.loop-h-test.true).1

pub loop-h-preserved : goal.loop-h-preserved
loop-h-preserved c = (
  rw (c.set_link.ensures, c.link-next.ensures) (turn_more _ _ _ _ _ _ _ c.loop-h.invariant.0 c.loop-h-test.true).0,
  c.set_link.auto.waiting ∙ c.loop-h.invariant.1,
)

pub returns : goal.returns
returns c = turn_end _ _ _ _ _ _ _ c.loop-h.invariant.0 c.loop-h-test.false
