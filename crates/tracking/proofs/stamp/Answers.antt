-- What remains to be done keeps the answer: both lists stamped at the places not yet looked at. Assumes nothing.
use native.Mathlib.Omega.{arith}
use Rattle.lists.specs.Part.{range_at}
use Rattle.tracking.specs.Loops.{stamp_next, stamp_end}
use Rattle.tracking.proofs.stamp.Goals as goal

pub loop-x-preserved : goal.loop-x-preserved
loop-x-preserved c = let h = c.requires.0.inside in
    let l = c.loop-x in
    let e = range_at c.args.pool.now c.args.at c.args.n l.x-index (omega arith) in
    (omega arith, stamp_next h l.invariant.1 e (omega arith), stamp_next h l.invariant.2 e (omega arith))

pub returns : goal.returns
returns c = let h = c.requires.0.inside in
    let i = c.loop-x.invariant in
    record { marks_are = stamp_end h i.1 (omega arith); locations_are = stamp_end h i.2 (omega arith) }
