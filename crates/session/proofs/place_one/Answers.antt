-- `session::place_one` meets its contract: the promises of its four callees, put together by `places_one`.
use Rattle.session.specs.Slices.{contents}
use Rattle.session.specs.PlaceOne.{asks_find, asks_push, asks_fill, asks_settle, places_one}
use Rattle.session.specs.Outputs.{settled_at}
use Rattle.session.proofs.place_one.Goals as goal

pub find_after-a-requires : goal.find_after-a-requires
find_after-a-requires c = let a = c.args in
    asks_find a.c a.r a.s.guide a.s.watermark a.s.added a.s.used (contents a.storage.now) c.requires

pub push-d-requires : goal.push-d-requires
push-d-requires c = let a = c.args in
    let asked = asks_push a.c a.r a.s.guide a.s.watermark a.s.added a.s.used (contents a.storage.now) c.find_after-a.result c.find_after-a.ensures c.requires in
    record { standing = asked.0; ready = asked.1.0; near = asked.1.1 }

pub fill_rows-requires : goal.fill_rows-requires
fill_rows-requires c = let a = c.args in
    let u = c.push-d in
    let asked = asks_fill a.c a.r a.s.guide a.s.watermark a.s.added a.s.used (contents a.storage.now) c.find_after-a.result c.find_after-a.ensures
    u.result.guide u.new.spans u.new.order u.new.tally u.result.at.span u.result.at.pos u.ensures c.requires in
    record { fits = asked.0; fillable = asked.1 }

pub settle_outputs-watermark-requires : goal.settle_outputs-watermark-requires
settle_outputs-watermark-requires c = let a = c.args in
    asks_settle a.c a.r a.s.guide a.s.watermark a.s.added a.s.used (contents a.storage.now) c.find_after-a.result c.find_after-a.ensures
    c.requires

pub returns-clause-placed : goal.returns-clause-placed
returns-clause-placed c = let a = c.args in
    let u = c.push-d in
    let z = c.settle_outputs-watermark in
    places_one a.c a.r a.s.guide a.s.watermark a.s.added a.s.used (contents a.storage.now) c.find_after-a.result c.find_after-a.ensures
    u.result.guide u.new.spans u.new.order u.new.tally u.result.at.span u.result.at.pos u.ensures c.fill_rows.new.rows
    z.new.marks z.new.locations z.result c.requires c.fill_rows.ensures (settled_at c.packed-loc.ensures z.ensures)
