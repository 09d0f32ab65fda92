-- `order_copy::check_new` meets its contract: a law for each way out. Assumes nothing.
use mathlib.Core.Path.{sym, ◌∙◌}
use native.Mathlib.Omega.{arith}
use Rattle.entries.specs.Stored.{capacity_fits}
use Rattle.order_copy.specs.Checked.{past, short_order, short_flat, wide, fine}
use Rattle.order_copy.proofs.check_new.Goals as goal
use Rattle.order_copy.proofs.check_new.Goals.{then-to-from-via-then-to-from, then-to-from-via-else-to-from+then-room-to}
use Rattle.order_copy.proofs.check_new.Goals.{then-to-from-via-else-to-from+else-room-to+then-capacity-to, then-to-from-via-else-to-from+else-room-to+else-capacity-to+then-has_wide}

pub returns-then-to-from : goal.returns-then-to-from
returns-then-to-from c = elim c.then-to-from.branch [
  | then-to-from-via-then-to-from w ↦ past _ _ _ _ w.if-to-from.true
  | then-to-from-via-else-to-from+then-room-to w ↦ short_order _ _ _ _ w.if-to-from.false w.if-room-to.true
  | then-to-from-via-else-to-from+else-room-to+then-capacity-to w ↦ short_flat _ _ _ _ w.if-to-from.false w.if-room-to.false (omega (arith, w.if-capacity-to.true, w.capacity.ensures))
  | then-to-from-via-else-to-from+else-room-to+else-capacity-to+then-has_wide w ↦
      wide _ _ _ _ w.if-to-from.false w.if-room-to.false (omega (arith, w.if-capacity-to.false, w.capacity.ensures)) (sym w.if-has_wide.true ∙ w.has_wide.ensures)
]

pub has_wide-requires : goal.has_wide-requires
has_wide-requires c = let a = c.args in capacity_fits a.flat.now a.to (omega (arith, c.if-capacity-to.false, c.capacity.ensures))

pub returns : goal.returns
returns c = fine _ _ _ _ (omega (arith, c.if-to-from.false)) (omega (arith, c.if-room-to.false)) (omega (arith, c.if-capacity-to.false, c.capacity.ensures))
    (sym c.if-has_wide.false ∙ c.has_wide.ensures)
