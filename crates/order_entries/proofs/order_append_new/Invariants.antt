-- The entries from `from` to k - 1 are copied; every other entry is as it was. Assumes nothing.
use Rattle.std.proofs.Common.{◌≡◌}
use Rattle.order_copy.specs.Copied.{copied}
use Rattle.order_entries.proofs.order_append_new.Given as goal

abbrev pub invariant-loop-k : goal.invariant-loop-k
invariant-loop-k l = l.order ≡ copied l.fn.order l.flat l.fn.from l.k
