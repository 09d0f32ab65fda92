-- `putting::place_existing` meets its contract: the slot lies within the span storage; the put, and the release where the span is full.
-- Assumes nothing.
use native.Mathlib.Omega.{arith}
use mathlib.Core.Path.{◌≡◌, refl}
use Rattle.entries.specs.Entries.{has_entry}
use Rattle.buffer.specs.Moves.{slot_of, longer, put_spans, slot_fits}
use Rattle.buffer.specs.Held.{held_few}
use Rattle.placing.specs.Done.{put_is, put_kept, put_gone, longer_free}
use Rattle.putting.proofs.place_existing.Goals as goal
use Rattle.putting.proofs.place_existing.Goals.{After-store_held, Start}

-- the entry goes into the lent spans
slot-there : (s : Start) → has_entry s.args.spans.now (slot_of s.args.g s.args.i)
slot-there s = slot_fits s.args.g s.args.spans.now s.requires.standing.laid s.args.i s.requires.le_i.1.1

put-at : (u : After-store_held) → let a = u.args in u.store_held.new.s ≡ put_spans a.g a.spans.now a.i a.e
unfolding put_spans
put-at u = rw u.row_start-start.ensures at u.store_held.ensures

pub overflow_add-start : goal.overflow_add-start
overflow_add-start c = omega (arith, slot-there (goal.at.overflow_add-start c).Start)

pub store_held-requires : goal.store_held-requires
store_held-requires c = omega (arith, slot-there (goal.at.store_held-requires c).Start)

-- one more than the window held fits 32 bits
pub overflow_add-held : goal.overflow_add-held
overflow_add-held c = omega (arith, held_few c.args.g c.args.spans.now c.requires.standing.laid, c.requires.standing.laid.few)

pub release_one-h-requires : goal.release_one-h-requires
unfolding longer put_spans
release_one-h-requires c = let a = c.args in
    let s' = c.store_held.new.s in
    let o = a.order.now in
    let t = a.tally.now in
    record {
      standing =
          (put_is a.g a.spans.now s' o t a.i a.e c.requires.standing c.requires.le_i (put-at (goal.at.release_one-h-requires c).After-store_held)).stands;
      free = longer_free a.g a.i c.requires.le_i.0 c.requires.free;
    }

pub returns-then-g-pos : goal.returns-then-g-pos
unfolding longer put_spans
returns-then-g-pos c = let z = c.release_one-h in
    let a = c.args in
    let s' = c.store_held.new.s in
    let o = a.order.now in
    let t = a.tally.now in
    let o' = z.new.order in
    let t' = z.new.tally in
    let put = put-at (goal.at.returns-then-g-pos c).After-store_held in
    record {
      becomes = put_gone a.g a.spans.now s' o t a.i a.e c.requires.standing c.requires.le_i put z.result o' t' (omega (arith, c.if-g-pos.true)) z.ensures.becomes;
      location = (refl, refl);
    }

pub returns-else-g-pos : goal.returns-else-g-pos
unfolding longer put_spans
returns-else-g-pos c = let a = c.args in record {
  becomes = put_kept a.g a.spans.now c.store_held.new.s a.order.now a.tally.now a.i a.e c.requires.standing c.requires.le_i (put-at (goal.at.returns-else-g-pos c).After-store_held)
      (omega (arith, c.if-g-pos.false));
  location = (refl, refl);
}
