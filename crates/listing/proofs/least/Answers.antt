-- The least so far with that of the entries left is the smallest of all. Assumes nothing.
use native.Mathlib.Omega.{arith}
use Rattle.listing.specs.Lines.{least_none, least_begins, least_on, least_ends}
use Rattle.listing.proofs.least.Goals as goal

pub returns-then-n-eq0 : goal.returns-then-n-eq0
returns-then-n-eq0 c = let a = c.args in least_none a.order.now a.n c.if-n-eq0.true

pub loop-i-init : goal.loop-i-init
loop-i-init c = let a = c.args in
    (omega arith, (omega arith, (omega (arith, c.parallelism_at-least.type_inv), rw c.parallelism_at-least.ensures (least_begins a.order.now a.n c.if-n-eq0.false))))

pub loop-i-preserved : goal.loop-i-preserved
loop-i-preserved c = (
  omega arith,
  (omega arith, (omega (arith, c.loop-i.invariant), least_on c.args.order.now c.args.n c.loop-i.i c.loop-i.least _ _ c.loop-i-test.true c.loop-i.invariant.1.1.1 (omega arith))),
)

pub returns : goal.returns
returns c = let a = c.args in
    least_ends a.order.now a.n c.loop-i.i c.loop-i.least _ c.loop-i-test.false c.loop-i.invariant.1.1.1
