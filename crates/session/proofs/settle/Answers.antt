-- `session::settle` meets its contract. Midway the session stands for a model from which the rest of the cascade leads to the goal; the
-- measure is the count of registrations that are not yet placed.
use mathlib.Core.Path.{refl, ◌∙◌}
use Rattle.session.specs.Slices.{contents, same_refl, same_trans}
use Rattle.session.specs.Settle.{midway_begins, midway_turn, midway_less, midway_step, midway_ends}
use native.Mathlib.Omega.{arith}
use Rattle.session.proofs.settle.Goals as goal

pub loop-t-init : goal.loop-t-init
loop-t-init c = let a = c.args in (midway_begins a.c a.s (contents a.storage.now) a.top, refl, same_refl a.storage.now)

pub place_next-d-requires : goal.place_next-d-requires
place_next-d-requires c = let a = c.args in
    let q = c.loop-t in
    midway_turn a.c a.s (contents a.storage.now) a.top c.requires
    q.z (contents q.storage) q.t q.invariant.0 c.loop-t-test.true

pub loop-t-smaller : goal.loop-t-smaller
loop-t-smaller c = let a = c.args in
    let q = c.loop-t in
    let u = c.place_next-d in
    omega (
      arith,
      midway_less a.c a.s (contents a.storage.now) a.top c.requires q.z (contents q.storage) q.t q.invariant.0
          u.result.session (contents u.new.storage) u.result.top c.loop-t-test.true u.ensures.placed,
    )

pub loop-t-preserved : goal.loop-t-preserved
loop-t-preserved c = let a = c.args in
    let q = c.loop-t in
    let u = c.place_next-d in (
      midway_step a.c a.s (contents a.storage.now) a.top c.requires
          q.z (contents q.storage) q.t q.invariant.0 u.result.session (contents u.new.storage) u.result.top c.loop-t-test.true u.ensures.placed,
      u.ensures.pool ∙ q.invariant.1,
      same_trans q.invariant.2 u.ensures.same,
    )

pub returns-clause-settled : goal.returns-clause-settled
returns-clause-settled c = let a = c.args in
    let q = c.loop-t in
    midway_ends a.c a.s (contents a.storage.now) a.top c.requires
    q.z (contents q.storage) q.t q.invariant.0 c.loop-t-test.false
