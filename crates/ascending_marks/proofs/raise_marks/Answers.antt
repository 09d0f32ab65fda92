-- The first i places are raised and do not repeat. An odd mark is that of a place met before. Assumes nothing.
use lib.ListN.{length, get_or}
use Prim.Native.Nat.{◌<◌}
use native.Mathlib.Omega.{arith}
use Rattle.ascending_marks.specs.Raising.{raise_start, raise_length, raise_in, raise_met, raise_next}
use Rattle.ascending_marks.proofs.raise_marks.Goals as goal
use Rattle.ascending_marks.proofs.raise_marks.Goals.{In-loop-i}

inside : (c : In-loop-i) → get_or c.args.outs.now c.loop-i.i 0 < length c.loop-i.marks
inside c = raise_in c.requires c.loop-i.invariant (omega arith)

pub loop-i-init : goal.loop-i-init
loop-i-init c = raise_start c.args.marks.now c.args.outs.now

pub offset_bounds-marks-x : goal.offset_bounds-marks-x
offset_bounds-marks-x c = record { fits = omega (arith, inside (goal.at.offset_bounds-marks-x c).In-loop-i, raise_length c.loop-i.invariant) }

pub bounds-marks-x : goal.bounds-marks-x
bounds-marks-x c = inside (goal.at.bounds-marks-x c).In-loop-i

pub returns-then-marks-x-ne0 : goal.returns-then-marks-x-ne0
returns-then-marks-x-ne0 c = raise_met c.requires c.loop-i.invariant (omega arith) c.if-marks-x-ne0.true

pub offset_bounds-marks-x-in-loop-i : goal.offset_bounds-marks-x-in-loop-i
offset_bounds-marks-x-in-loop-i c = record { fits = omega (arith, inside (goal.at.offset_bounds-marks-x-in-loop-i c).In-loop-i, raise_length c.loop-i.invariant) }

pub bounds-marks-x-in-loop-i : goal.bounds-marks-x-in-loop-i
bounds-marks-x-in-loop-i c = inside (goal.at.bounds-marks-x-in-loop-i c).In-loop-i

pub bounds-marks-x-in-loop-i-2 : goal.bounds-marks-x-in-loop-i-2
bounds-marks-x-in-loop-i-2 c = inside (goal.at.bounds-marks-x-in-loop-i-2 c).In-loop-i

pub loop-i-preserved : goal.loop-i-preserved
loop-i-preserved c = raise_next c.requires c.loop-i.invariant (omega arith) c.if-marks-x-ne0.false
