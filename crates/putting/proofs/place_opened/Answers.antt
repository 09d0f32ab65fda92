-- `putting::place_opened` meets its contract: the spans opened, and the put into the new last one. Assumes nothing.
use lib.ListN.{get_or}
use mathlib.Core.Path.{refl}
use native.Mathlib.Omega.{arith}
use Rattle.entries.specs.Entries.{has_entry}
use Rattle.buffer.specs.View.{row_start}
use Rattle.buffer.specs.Held.{held_few}
use Rattle.placing.specs.Opened.{opened_number, opened_slot, open_put}
use Rattle.putting.proofs.place_opened.Goals as goal
use Rattle.putting.proofs.place_opened.Goals.{After-open_spans-h}

-- the last span begins in the lent spans
slot-there : (c : After-open_spans-h) → let a = c.args in has_entry a.spans.now (row_start (get_or c.open_spans-h.result.window.rows 31 0) a.g.p)
slot-there c =
    let a = c.args in
    let r = c.open_spans-h in
    opened_slot a.g r.result a.spans.now a.order.now r.new.order a.tally.now r.new.tally a.n c.requires.standing.laid c.requires.le_n.0 r.ensures

pub store_held-requires : goal.store_held-requires
store_held-requires c = rw c.row_start.ensures (slot-there (goal.at.store_held-requires c).After-open_spans-h)

-- one more than the window held fits 32 bits
pub overflow_add-held : goal.overflow_add-held
overflow_add-held c = let laid = c.open_spans-h.ensures.stands.laid in
    omega (arith, held_few c.open_spans-h.result c.args.spans.now laid, laid.few)

pub returns : goal.returns
returns c = let u = c.store_held in
    let r = c.open_spans-h in
    let a = c.args in
    let sp = a.spans.now in
    record {
      becomes = open_put a.g r.result sp a.order.now r.new.order a.tally.now r.new.tally a.n c.requires.standing.laid c.requires.le_n.0 r.ensures
          u.new.s a.e (rw c.row_start.ensures at u.ensures);
      location = (
        opened_number a.g r.result sp a.order.now r.new.order a.tally.now r.new.tally a.n c.requires.standing.laid c.requires.le_n.0 r.ensures,
        refl,
      );
    }
