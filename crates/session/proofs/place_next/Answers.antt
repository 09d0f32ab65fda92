-- `session::place_next` meets its contract: the placing's promise, then the registrar's, put together by `turn_done`.
use mathlib.Core.Path.{refl}
use Rattle.session.specs.Slices.{contents}
use Rattle.session.specs.PlaceNext.{turn_place, turn_advance, turn_done}
use Rattle.session.proofs.place_next.Goals as goal

pub place_one-m-requires : goal.place_one-m-requires
place_one-m-requires c = let a = c.args in
    turn_place a.c a.s (contents a.storage.now) a.top c.requires

pub advance_placed-over-requires : goal.advance_placed-over-requires
advance_placed-over-requires c = let a = c.args in
    let u = c.place_one-m in
    rw u.ensures.lists.0
    (turn_advance a.c a.s (contents a.storage.now) a.top a.s.guide.v
    c.next-under.result refl c.next-under.ensures u.result.guide u.result.watermark (contents u.new.storage) u.ensures.placed
    c.requires)

pub returns-clause-placed : goal.returns-clause-placed
returns-clause-placed c = let a = c.args in
    let u = c.place_one-m in
    turn_done a.c a.s (contents a.storage.now) a.top a.s.guide.v
    c.next-under.result refl c.next-under.ensures u.result.guide u.result.watermark (contents u.new.storage) u.ensures.placed
    c.advance_placed-over.result c.advance_placed-over.new.waiting u.ensures.lists.0
    (rw u.ensures.lists.0 at c.advance_placed-over.ensures) (rw u.ensures.lists.0 at c.advance_placed-over.auto.waiting)
