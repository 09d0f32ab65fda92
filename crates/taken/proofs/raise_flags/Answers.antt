-- The first i places are raised and do not repeat. A flag above 1 is that of a place met before. Assumes nothing.
use lib.ListN.{length, get_or}
use Prim.Native.Nat.{◌≤◌, ◌<◌}
use native.Mathlib.Omega.{arith}
use Rattle.rules.specs.Checks.{waiting_needed}
use Rattle.taken.specs.Raising.{raise_start, raise_in, raise_met, raise_next}
use Rattle.taken.proofs.raise_flags.Goals as goal
use Rattle.taken.proofs.raise_flags.Goals.{In-loop-i}

inside : (c : In-loop-i) → (get_or c.args.outs.now c.loop-i.i 0 < c.args.v) × (waiting_needed c.args.v ≤ length c.loop-i.waiting)
inside c = raise_in c.requires c.loop-i.invariant (omega arith)

pub loop-i-init : goal.loop-i-init
loop-i-init c = let a = c.args in raise_start a.waiting.now a.v a.outs.now

pub flag-up-requires : goal.flag-up-requires
flag-up-requires c = inside (goal.at.flag-up-requires c).In-loop-i

pub returns-then-up-gt1 : goal.returns-then-up-gt1
returns-then-up-gt1 c = raise_met c.requires c.loop-i.invariant (omega arith) (omega (arith, c.if-up-gt1.true, c.flag-up.ensures))

pub set_flag-requires : goal.set_flag-requires
set_flag-requires c = inside (goal.at.set_flag-requires c).In-loop-i

pub loop-i-preserved : goal.loop-i-preserved
loop-i-preserved c = rw (c.set_flag.ensures, c.flag-up.ensures)
    (raise_next c.requires c.loop-i.invariant (omega arith) (omega (arith, c.if-up-gt1.false, c.flag-up.ensures)))
