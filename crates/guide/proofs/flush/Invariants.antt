-- `guide::flush` meets its contract. The invariant: after i turns i spans are released, and the order has room for what is still held.
-- Assumes nothing.
use Rattle.guide.specs.Flushed.{Flushing}
use Prim.Native.Nat.{◌-◌, ◌≤◌}
use lib.ListN.{length}
use mathlib.Core.Path.{◌≡◌}
use Rattle.guide.proofs.flush.Given as goal

abbrev pub invariant-loop-i : goal.invariant-loop-i
invariant-loop-i l =
    (l.i ≤ 32) × ((length l.order ≡ length l.initial.order) × ((length l.tally ≡ length l.initial.tally) × Flushing l.initial.h l.h l.spans l.initial.order l.initial.tally l.order l.tally l.i))

abbrev pub decreases-loop-i : goal.decreases-loop-i
decreases-loop-i l = 32 - l.i
