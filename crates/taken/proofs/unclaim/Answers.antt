-- The places that the walk has not reached are still flagged, none of them was before, so taking the flag of the last of them back leaves those before. Assumes nothing.
use Rattle.std.proofs.lemmas.Iterator.Adapters.{YieldsList-from_rev_slice}
use Rattle.std.proofs.lemmas.Iterator.Consumers.{YieldsList-turn, YieldsList-end}
use Rattle.std.proofs.lemmas.List.{length_push, length-reverse}
use lib.ListN.{length, get_or, take}
use Rattle.std.proofs.Common.{length-take-le}
use Prim.Native.Nat.{◌+◌, ◌-◌, ◌<◌}
use mathlib.Core.Path.{◌≡◌, ◌∙◌}
use native.Mathlib.Omega.{arith}
use Rattle.taken.specs.Repeats.{walked_back}
use Rattle.taken.specs.ClaimLaws.{unclaim_in, unclaim_next, unclaim_end}
use Rattle.taken.proofs.unclaim.Goals as goal
use Rattle.taken.proofs.unclaim.Goals.{In-Some}

-- which place a turn is at
turn : (c : In-Some) → let i = length c.loop-x.yielded in (i < c.args.n) × (c.in-Some.x.now ≡ get_or c.args.outs.now (c.args.n - i - 1) 0)
turn c =
    let a = c.args in
    let walk = YieldsList-turn (YieldsList-from_rev_slice (take a.n a.outs.now) (cc)) c.loop-x.yielded _ c.loop-x.yielded_by _ _ c.in-Some.x c.in-Some.is c.next.ensures.steps in
    walked_back a.outs.now a.n (length c.loop-x.yielded) c.in-Some.x.now c.requires.claiming.most walk

pub set_flag-requires : goal.set_flag-requires
set_flag-requires c =
    let p = c.requires in
    let t = turn (goal.at.set_flag-requires c).In-Some in
    let k = unclaim_in p.plain (c.loop-x.invariant.2 p.before p.plain p.claiming) (omega arith) in
    (omega (arith, k.1, t.1), k.2)

pub loop-x-preserved : goal.loop-x-preserved
loop-x-preserved c =
    let t = turn (goal.at.loop-x-preserved c).In-Some in
    let l = length_push c.loop-x.yielded c.in-Some.x in
    let e : c.args.n - (length c.loop-x.yielded + 1) ≡ c.args.n - length c.loop-x.yielded - 1 = omega arith in (
      rw l (omega arith),
      c.set_flag.auto.waiting ∙ c.loop-x.invariant.1,
      λ u f g. rw (l, e, c.set_flag.ensures, t.1) (unclaim_next f (c.loop-x.invariant.2 u f g) (omega arith)),
    )

pub returns : goal.returns
returns c =
    let a = c.args in
    let end = YieldsList-end (YieldsList-from_rev_slice (take a.n a.outs.now) (cc)) c.loop-x.yielded _ c.loop-x.yielded_by _ _ c.in-None.is c.next.ensures.steps in
    let all : length c.loop-x.yielded ≡ a.n = omega (arith, end.1, length-reverse (take a.n a.outs.now), length-take-le a.n a.outs.now c.requires.claiming.most) in
    record { back = λ u f g. unclaim_end (c.loop-x.invariant.2 u f g) (omega arith) }
