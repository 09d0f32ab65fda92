-- `records::fill_rows` meets its contract. The invariant says what is still to be filled. Assumes nothing.
use Rattle.records.specs.Filling.{filled, to_fill}
use Rattle.entries.specs.Entries.{row}
use lib.ListN.{length}
use Prim.Native.Nat.{◌-◌, ◌≤◌}
use mathlib.Core.Path.{◌≡◌}
use Rattle.records.proofs.fill_rows.Given as goal

abbrev pub invariant-loop-q : goal.invariant-loop-q
invariant-loop-q l = (l.q ≤ l.a) × ((length l.rows ≡ length l.initial.rows) × (filled l.initial.rows l.n (row l.order l.n l.a) ≡ to_fill l.order l.n l.a l.rows l.q))

abbrev pub decreases-loop-q : goal.decreases-loop-q
decreases-loop-q l = l.a - l.q
