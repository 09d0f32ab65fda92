-- `session::place_next_over` meets its contract: the placing's promise, then the registrar's, put together by `turn_done`.
use mathlib.Core.Path.{refl}
use Rattle.session.specs.Storage.{storage, given_read}
use Rattle.session.specs.PlaceNext.{turn_place, turn_advance, turn_done}
use Rattle.session.proofs.place_next_over.Goals as goal

pub place_one_over-m-requires : goal.place_one_over-m-requires
place_one_over-m-requires c = let a = c.args in
    turn_place a.c a.s (given_read a.spans a.order a.tally a.rows a.marks a.locations a.waiting a.pool.now) a.top c.requires

pub advance_placed-over-requires : goal.advance_placed-over-requires
advance_placed-over-requires c = let a = c.args in
    let u = c.place_one_over-m in
    turn_advance a.c a.s (given_read a.spans a.order a.tally a.rows a.marks a.locations a.waiting a.pool.now) a.top a.s.guide.v
    c.next-under.result refl c.next-under.ensures u.result.guide u.result.watermark
    (storage u.new.spans u.new.order u.new.tally u.new.rows u.new.marks u.new.locations a.waiting.now a.pool.now) u.ensures
    c.requires

pub returns : goal.returns
returns c = let a = c.args in
    let u = c.place_one_over-m in
    turn_done a.c a.s (given_read a.spans a.order a.tally a.rows a.marks a.locations a.waiting a.pool.now) a.top a.s.guide.v
    c.next-under.result refl c.next-under.ensures u.result.guide u.result.watermark
    (storage u.new.spans u.new.order u.new.tally u.new.rows u.new.marks u.new.locations a.waiting.now a.pool.now) u.ensures
    c.advance_placed-over.result c.advance_placed-over.new.waiting refl c.advance_placed-over.ensures
    c.advance_placed-over.auto.waiting
