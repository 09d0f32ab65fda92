-- `session::place_one_over` meets its contract: the promises of its four callees, put together by `places_one`.
use Rattle.session.specs.Storage.{given_over}
use Rattle.session.specs.PlaceOne.{asks_find, asks_push, asks_fill, asks_settle, places_one}
use Rattle.session.specs.Outputs.{settled_at}
use Rattle.session.proofs.place_one_over.Goals as goal

pub find_after_over-a-requires : goal.find_after_over-a-requires
find_after_over-a-requires c = let a = c.args in
    let σ = given_over a.spans a.order a.tally a.rows a.marks a.locations a.waiting.now a.pool.now in
    asks_find a.ended a.r a.s.guide a.s.watermark a.s.added a.s.used σ c.requires

pub push-d-requires : goal.push-d-requires
push-d-requires c = let a = c.args in
    let σ = given_over a.spans a.order a.tally a.rows a.marks a.locations a.waiting.now a.pool.now in
    let asked = asks_push a.ended a.r a.s.guide a.s.watermark a.s.added a.s.used σ c.find_after_over-a.result c.find_after_over-a.ensures c.requires in
    record { standing = asked.0; ready = asked.1.0; near = asked.1.1 }

pub fill_rows-requires : goal.fill_rows-requires
fill_rows-requires c = let a = c.args in
    let σ = given_over a.spans a.order a.tally a.rows a.marks a.locations a.waiting.now a.pool.now in
    let u = c.push-d in
    let asked = asks_fill a.ended a.r a.s.guide a.s.watermark a.s.added a.s.used σ c.find_after_over-a.result c.find_after_over-a.ensures
    u.result.guide u.new.spans u.new.order u.new.tally u.result.at.span u.result.at.pos u.ensures c.requires in
    record { fits = asked.0; fillable = asked.1 }

pub settle_outputs-watermark-requires : goal.settle_outputs-watermark-requires
settle_outputs-watermark-requires c = let a = c.args in
    let σ = given_over a.spans a.order a.tally a.rows a.marks a.locations a.waiting.now a.pool.now in
    asks_settle a.ended a.r a.s.guide a.s.watermark a.s.added a.s.used σ c.find_after_over-a.result c.find_after_over-a.ensures
    c.requires

pub returns : goal.returns
returns c = let a = c.args in
    let σ = given_over a.spans a.order a.tally a.rows a.marks a.locations a.waiting.now a.pool.now in
    let u = c.push-d in
    let z = c.settle_outputs-watermark in
    places_one a.ended a.r a.s.guide a.s.watermark a.s.added a.s.used σ c.find_after_over-a.result c.find_after_over-a.ensures
    u.result.guide u.new.spans u.new.order u.new.tally u.result.at.span u.result.at.pos u.ensures c.fill_rows.new.rows
    z.new.marks z.new.locations z.result c.requires c.fill_rows.ensures (settled_at c.packed-loc.ensures z.ensures)
