-- `session::settle_over` meets its contract. Midway the session stands for a model from which the rest of the cascade leads to the goal; the
-- measure is the count of registrations that are not yet placed.
use Rattle.session.specs.Storage.{storage, given_read}
use Rattle.session.specs.Settle.{midway_begins, midway_turn, midway_less, midway_step, midway_ends}
use native.Mathlib.Omega.{arith}
use Rattle.session.proofs.settle_over.Goals as goal

pub loop-t-init : goal.loop-t-init
loop-t-init c = let a = c.args in
    midway_begins a.c a.s (given_read a.spans a.order a.tally a.rows a.marks a.locations a.waiting a.pool.now) a.top

pub place_next_over-turn-requires : goal.place_next_over-turn-requires
place_next_over-turn-requires c = let a = c.args in
    let q = c.loop-t in
    midway_turn a.c a.s (given_read a.spans a.order a.tally a.rows a.marks a.locations a.waiting a.pool.now) a.top c.requires
    q.z (storage q.spans q.order q.tally q.rows q.marks q.locations q.waiting a.pool.now) q.t q.invariant c.loop-t-test.true

pub loop-t-smaller : goal.loop-t-smaller
loop-t-smaller c = let a = c.args in
    let q = c.loop-t in
    let u = c.place_next_over-turn in
    omega (
      arith,
      midway_less a.c a.s (given_read a.spans a.order a.tally a.rows a.marks a.locations a.waiting a.pool.now) a.top
          c.requires q.z (storage q.spans q.order q.tally q.rows q.marks q.locations q.waiting a.pool.now) q.t q.invariant
          u.result.session (storage u.new.spans u.new.order u.new.tally u.new.rows u.new.marks u.new.locations
          u.new.waiting a.pool.now) u.result.top c.loop-t-test.true u.ensures,
    )

pub loop-t-preserved : goal.loop-t-preserved
loop-t-preserved c = let a = c.args in
    let q = c.loop-t in
    let u = c.place_next_over-turn in
    midway_step a.c a.s (given_read a.spans a.order a.tally a.rows a.marks a.locations a.waiting a.pool.now) a.top c.requires
    q.z (storage q.spans q.order q.tally q.rows q.marks q.locations q.waiting a.pool.now) q.t q.invariant u.result.session
    (storage u.new.spans u.new.order u.new.tally u.new.rows u.new.marks u.new.locations
    u.new.waiting a.pool.now) u.result.top c.loop-t-test.true u.ensures

pub returns : goal.returns
returns c = let a = c.args in
    let q = c.loop-t in
    midway_ends a.c a.s (given_read a.spans a.order a.tally a.rows a.marks a.locations a.waiting a.pool.now) a.top c.requires
    q.z (storage q.spans q.order q.tally q.rows q.marks q.locations q.waiting a.pool.now) q.t q.invariant c.loop-t-test.false
