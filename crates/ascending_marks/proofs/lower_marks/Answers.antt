-- The places that the walk has not reached are still raised, and each of them once, so lowering the last of them leaves those before. Assumes nothing.
use Rattle.std.proofs.lemmas.Iterator.Adapters.{YieldsList-from_rev_slice}
use Rattle.std.proofs.lemmas.Iterator.Consumers.{YieldsList-turn, YieldsList-end}
use Rattle.std.proofs.lemmas.List.{length_push, length-reverse}
use Rattle.std.proofs.Common.{length-take-le}
use lib.ListN.{length, get_or, take}
use Prim.Native.Nat.{◌+◌, ◌-◌, ◌≤◌, ◌<◌}
use mathlib.Core.Path.{◌≡◌}
use native.Mathlib.Omega.{arith}
use Rattle.taken.specs.Repeats.{walked_back}
use Rattle.ascending_marks.specs.Raising.{lower_in, lower_next, lower_end}
use Rattle.ascending_marks.proofs.lower_marks.Goals as goal
use Rattle.ascending_marks.proofs.lower_marks.Goals.{In-Some}

-- which place a turn is at
turn : (c : In-Some) → let i = length c.loop-x.yielded in (i < c.args.n) × (c.in-Some.x.now ≡ get_or c.args.outs.now (c.args.n - i - 1) 0)
turn c =
    let a = c.args in
    let walk = YieldsList-turn (YieldsList-from_rev_slice (take a.n a.outs.now) (cc)) c.loop-x.yielded _ c.loop-x.yielded_by _ _ c.in-Some.x c.in-Some.is c.next.ensures.steps in
    walked_back a.outs.now a.n (length c.loop-x.yielded) c.in-Some.x.now c.requires.raises.most walk

inside : (c : In-Some) → (c.in-Some.x.now < length c.loop-x.marks) × (1 ≤ get_or c.loop-x.marks c.in-Some.x.now 0)
inside c =
    let p = c.requires in
    let t = turn c in
    let k = lower_in p.unraised (c.loop-x.invariant.1 p.before p.unraised p.raises) (omega arith) in
    rw t.1 (k.1, k.2)

pub offset_bounds-marks-x : goal.offset_bounds-marks-x
offset_bounds-marks-x c = record { fits = omega (arith, (inside (goal.at.offset_bounds-marks-x c).In-Some).0) }

pub bounds-marks-x : goal.bounds-marks-x
bounds-marks-x c = (inside (goal.at.bounds-marks-x c).In-Some).0

pub overflow_sub-marks : goal.overflow_sub-marks
overflow_sub-marks c = (inside (goal.at.overflow_sub-marks c).In-Some).1

pub bounds-marks-x-in-loop-x : goal.bounds-marks-x-in-loop-x
bounds-marks-x-in-loop-x c = (inside (goal.at.bounds-marks-x-in-loop-x c).In-Some).0

pub loop-x-preserved : goal.loop-x-preserved
loop-x-preserved c =
    let t = turn (goal.at.loop-x-preserved c).In-Some in
    let l = length_push c.loop-x.yielded c.in-Some.x in
    let e : c.args.n - (length c.loop-x.yielded + 1) ≡ c.args.n - length c.loop-x.yielded - 1 = omega arith in (
      rw l (omega arith),
      λ u f g. rw (l, e, t.1) (lower_next f (c.loop-x.invariant.1 u f g) (omega arith)),
    )

pub returns : goal.returns
returns c =
    let a = c.args in
    let end = YieldsList-end (YieldsList-from_rev_slice (take a.n a.outs.now) (cc)) c.loop-x.yielded _ c.loop-x.yielded_by _ _ c.in-None.is c.next.ensures.steps in
    let all : length c.loop-x.yielded ≡ a.n = omega (arith, end.1, length-reverse (take a.n a.outs.now), length-take-le a.n a.outs.now c.requires.raises.most) in
    record { back = λ u f g. lower_end (c.loop-x.invariant.1 u f g) (omega arith) }
