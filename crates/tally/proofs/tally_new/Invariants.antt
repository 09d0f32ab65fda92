-- `tally::tally_new` meets its contract. The invariant says what is still to be counted, and that no count can overflow meanwhile.
-- Assumes nothing.
use Rattle.rules.specs.Guide.{tallied}
use Rattle.tally.specs.Counting.{parallelism_from, to_count}
use mathlib.Core.List.{map}
use Rattle.entries.specs.Entries.{row, entry_of}
use lib.ListN.{length, get_or}
use Prim.Native.Nat.{ℕ, ◌+◌, ◌-◌, ◌^◌, ◌≤◌, ◌<◌}
use mathlib.Core.Path.{◌≡◌}
use Rattle.tally.proofs.tally_new.Given as goal

abbrev pub invariant-loop-q : goal.invariant-loop-q
invariant-loop-q l = (l.q ≤ l.a)
    × ((length l.tally ≡ length l.initial.tally)
    × (((k : ℕ) → k < l.a → get_or l.tally (parallelism_from l.order l.n k) 0 + (l.a - l.q) < 2 ^ 32)
    × (tallied l.initial.tally (map entry_of (row l.order l.n l.a)) ≡ to_count l.order l.n l.a l.tally l.q)))

abbrev pub decreases-loop-q : goal.decreases-loop-q
decreases-loop-q l = l.a - l.q
