-- `entries::append_row` meets its contract. The invariant says what is still to be appended. Assumes nothing.
use mathlib.Core.Path.{◌≡◌}
use Prim.Native.Nat.{◌-◌, ◌≤◌}
use lib.ListN.{length}
use Rattle.entries.specs.Entries.{row, annotated, appended}
use Rattle.entries.proofs.Laws.{rest}
use Rattle.entries.proofs.append_row.Given as goal

abbrev pub invariant-loop-q : goal.invariant-loop-q
invariant-loop-q l =
    (l.q ≤ l.a) × ((length l.order ≡ length l.initial.order) × (appended l.initial.order l.n (annotated l.p l.a l.b 0 (row l.spans l.base l.a)) ≡ rest l.spans l.p l.a l.b l.n l.base l.order l.q))

abbrev pub decreases-loop-q : goal.decreases-loop-q
decreases-loop-q l = l.a - l.q
