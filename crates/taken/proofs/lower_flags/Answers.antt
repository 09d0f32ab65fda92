-- The places that the walk has not reached are still raised, and each of them once, so lowering the last of them leaves those before. Assumes nothing.
use Rattle.std.proofs.lemmas.Iterator.Adapters.{YieldsList-from_rev_slice}
use Rattle.std.proofs.lemmas.Iterator.Consumers.{YieldsList-turn, YieldsList-end}
use Rattle.std.proofs.lemmas.List.{length_push, length-reverse}
use lib.ListN.{length, get_or, take}
use Rattle.std.proofs.Common.{length-take-le}
use Prim.Native.Nat.{◌+◌, ◌-◌, ◌≤◌, ◌<◌}
use mathlib.Core.Path.{◌≡◌, ◌∙◌}
use native.Mathlib.Omega.{arith}
use Rattle.rules.specs.Checks.{waiting_needed}
use Rattle.taken.specs.Flag.{flag_at}
use Rattle.taken.specs.Repeats.{walked_back}
use Rattle.taken.specs.Raising.{lower_in, lower_next, lower_end}
use Rattle.taken.proofs.lower_flags.Goals as goal
use Rattle.taken.proofs.lower_flags.Goals.{In-Some}

-- which place a turn is at
turn : (c : In-Some) → let i = length c.loop-x.yielded in (i < c.args.n) × (c.in-Some.x.now ≡ get_or c.args.outs.now (c.args.n - i - 1) 0)
turn c =
    let a = c.args in
    let walk = YieldsList-turn (YieldsList-from_rev_slice (take a.n a.outs.now) (cc)) c.loop-x.yielded _ c.loop-x.yielded_by _ _ c.in-Some.x c.in-Some.is c.next.ensures.steps in
    walked_back a.outs.now a.n (length c.loop-x.yielded) c.in-Some.x.now c.requires.raises.most walk

inside : (c : In-Some) → (c.in-Some.x.now < c.args.v) × (waiting_needed c.args.v ≤ length c.loop-x.waiting) × (2 ≤ flag_at c.loop-x.waiting c.args.v c.in-Some.x.now)
inside c =
    let p = c.requires in
    let t = turn c in
    let k = lower_in p.flagged (c.loop-x.invariant.2 p.before p.flagged p.raises) (omega arith) in
    rw t.1 (k.1, k.2, k.3)

pub flag-up-requires : goal.flag-up-requires
flag-up-requires c = let k = inside (goal.at.flag-up-requires c).In-Some in (k.0, k.1)

pub overflow_sub-up : goal.overflow_sub-up
overflow_sub-up c = omega (arith, (inside (goal.at.overflow_sub-up c).In-Some).2, c.flag-up.ensures)

pub set_flag-requires : goal.set_flag-requires
set_flag-requires c = let k = inside (goal.at.set_flag-requires c).In-Some in (k.0, k.1)

pub loop-x-preserved : goal.loop-x-preserved
loop-x-preserved c =
    let t = turn (goal.at.loop-x-preserved c).In-Some in
    let l = length_push c.loop-x.yielded c.in-Some.x in
    let e : c.args.n - (length c.loop-x.yielded + 1) ≡ c.args.n - length c.loop-x.yielded - 1 = omega arith in (
      rw l (omega arith),
      c.set_flag.auto.waiting ∙ c.loop-x.invariant.1,
      λ u f g. rw (l, e, c.set_flag.ensures, c.flag-up.ensures, t.1) (lower_next f (c.loop-x.invariant.2 u f g) (omega arith)),
    )

pub returns : goal.returns
returns c =
    let a = c.args in
    let end = YieldsList-end (YieldsList-from_rev_slice (take a.n a.outs.now) (cc)) c.loop-x.yielded _ c.loop-x.yielded_by _ _ c.in-None.is c.next.ensures.steps in
    let all : length c.loop-x.yielded ≡ a.n = omega (arith, end.1, length-reverse (take a.n a.outs.now), length-take-le a.n a.outs.now c.requires.raises.most) in
    record { back = λ u f g. lower_end (c.loop-x.invariant.2 u f g) (omega arith) }
