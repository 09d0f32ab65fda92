-- `encoding::count_calls` meets its contract. The invariant: the calls read so far come before what the remaining numbers decode to.
use Rattle.std.proofs.Common.{refl, arith}
use Rattle.encoding.specs.Ends.{count_start, count_turn, count_stop, count_end}
use Rattle.encoding.proofs.count_calls.Goals as goal

pub loop-at-init : goal.loop-at-init
loop-at-init c = count_start _

pub returns-in_err-at : goal.returns-in_err-at
returns-in_err-at c = rw c.from_residual.ensures (count_stop _ _ _ 0 c.loop-at.invariant c.loop-at-test.true c.in_err-at.ensures.ends refl)

pub loop-at-preserved : goal.loop-at-preserved
loop-at-preserved c = count_turn _ _ _ _ c.loop-at.invariant c.in_ok-at.ensures.ends (λ e. omega (arith, c.in_ok-at.ensures.past))

pub returns : goal.returns
returns c = count_end _ _ _ c.loop-at.invariant c.loop-at-test.false
