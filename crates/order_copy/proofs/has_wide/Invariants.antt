-- `order_copy::has_wide` meets its contract. The loop's invariant: whether one of the entries is too wide is whether one from k on is.
-- Assumes nothing.
use mathlib.Core.Path.{◌≡◌}
use Prim.Native.Nat.{◌-◌}
use Rattle.order_copy.specs.Copied.{wide_entry}
use Rattle.order_copy.proofs.has_wide.Given as goal

abbrev pub invariant-loop-k : goal.invariant-loop-k
invariant-loop-k l = wide_entry l.flat l.from (l.to - l.from) ≡ wide_entry l.flat l.k (l.to - l.k)
