-- `order_copy::has_wide` meets its contract. The loop's invariant: whether one of the entries is too wide is whether one from k on is.
-- Assumes nothing.
use native.Mathlib.Omega.{arith}
use mathlib.Core.Path.{◌≡◌, sym, ap, ◌∙◌}
use Rattle.entries.specs.declared.Entry.{Entry}
use Rattle.order_copy.specs.Flat.{lane_of}
use Rattle.order_copy.specs.Checked.{wide_none, wide_found, wide_next}
use Rattle.order_copy.proofs.has_wide.Goals as goal
use Rattle.order_copy.proofs.has_wide.Goals.{After-load}

-- the lane that is looked at
lane-loaded : (c : After-load) → c.load.result.lane ≡ lane_of c.args.flat.now c.loop-k.k
lane-loaded c = ap (λ (e : Entry). e.lane) c.load.ensures

pub load-requires : goal.load-requires
load-requires c = omega arith

pub returns-then-load-gt-MOST_LANE : goal.returns-then-load-gt-MOST_LANE
returns-then-load-gt-MOST_LANE c = let a = c.args in
    sym (c.loop-k.invariant ∙ wide_found a.flat.now c.loop-k.k a.to c.loop-k-test.true (omega (arith, c.if-load-gt-MOST_LANE.true, lane-loaded (goal.at.returns-then-load-gt-MOST_LANE c).After-load)))

pub loop-k-preserved : goal.loop-k-preserved
loop-k-preserved c = let a = c.args in
    c.loop-k.invariant ∙ wide_next a.flat.now c.loop-k.k a.to c.loop-k-test.true (omega (arith, c.if-load-gt-MOST_LANE.false, lane-loaded (goal.at.loop-k-preserved c).After-load))

pub returns : goal.returns
returns c = let l = c.loop-k in let a = c.args in sym (l.invariant ∙ wide_none a.flat.now l.k a.to (omega (arith, c.loop-k-test.false)))
