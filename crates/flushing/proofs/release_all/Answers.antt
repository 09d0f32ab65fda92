-- `flushing::release_all` meets its contract: the promises of the guide's flush and of the rows, put together by `releases`.
use Rattle.flushing.specs.Released.{asks_flush, asks_fill, asks_note, releases}
use Rattle.flushing.proofs.release_all.Goals as goal

pub flush-h-requires : goal.flush-h-requires
flush-h-requires c = let a = c.args in
    let q = asks_flush a.g a.added a.spans.now a.order.now a.tally.now a.rows.now c.requires in
    record { standing = q.0; ready = q.1 }

pub overflow_sub-m : goal.overflow_sub-m
overflow_sub-m c = c.flush-h.ensures.frame.grows

pub fill_rows-requires : goal.fill_rows-requires
fill_rows-requires c = let a = c.args in
    let q = asks_fill a.g a.added a.spans.now a.order.now a.tally.now a.rows.now c.flush-h.result c.flush-h.new.order c.flush-h.new.tally c.flush-h.ensures c.requires in
    record { fits = q.0; fillable = q.1 }

pub note_latest-requires : goal.note_latest-requires
note_latest-requires c = let a = c.args in
    asks_note a.g a.added a.spans.now a.order.now a.tally.now a.rows.now c.flush-h.result c.flush-h.new.order
    c.flush-h.new.tally c.flush-h.ensures c.fill_rows.new.rows c.fill_rows.ensures
    c.requires

pub returns : goal.returns
returns c = let a = c.args in
    releases a.g a.added a.spans.now a.order.now a.tally.now a.rows.now c.flush-h.result c.flush-h.new.order
    c.flush-h.new.tally c.flush-h.ensures c.fill_rows.new.rows c.fill_rows.ensures
    c.note_latest.new.rows c.note_latest.ensures c.requires
