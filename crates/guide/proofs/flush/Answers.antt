-- `guide::flush` meets its contract. The invariant: after i turns i spans are released, and the order has room for what is still held.
-- Assumes nothing.
use Rattle.guide.specs.Flushed.{flush_begins, flush_free, flush_turn, flush_ends}
use Rattle.placing.specs.Done.{released_written}
use mathlib.Core.Path.{refl, ◌∙◌}
use native.Mathlib.Omega.{arith}
use Rattle.guide.proofs.flush.Goals as goal

pub loop-i-init : goal.loop-i-init
loop-i-init c = let a = c.args in
    (omega arith, (refl, (refl, flush_begins a.g a.spans.now a.order.now a.tally.now c.requires.standing c.requires.ready)))

pub release_one-h-requires : goal.release_one-h-requires
release_one-h-requires c = let a = c.args in
    let l = c.loop-i in
    let f = l.invariant.1.1.1 in
    record { standing = f.done.stands; free = flush_free a.g a.spans.now a.order.now a.tally.now c.requires.standing c.requires.ready l.h l.order l.tally l.i f c.loop-i-test.true }

pub loop-i-preserved : goal.loop-i-preserved
loop-i-preserved c = let z = c.release_one-h in
    let l = c.loop-i in
    let f = l.invariant.1.1.1 in
    let a = c.args in (
      omega arith,
      (
        z.auto.order ∙ l.invariant.1.0,
        (
          z.auto.tally ∙ l.invariant.1.1.0,
          flush_turn a.g a.spans.now a.order.now a.tally.now c.requires.standing c.requires.ready l.h l.order l.tally l.i f
              z.result z.new.order z.new.tally c.loop-i-test.true z.ensures.becomes
              (released_written l.h z.result z.ensures.rotated f.done.stands.laid.lens_many),
        ),
      ),
    )

pub returns : goal.returns
returns c = let l = c.loop-i in
    let a = c.args in
    flush_ends a.g a.spans.now a.order.now a.tally.now c.requires.standing c.requires.ready l.h l.order l.tally l.i l.invariant.1.1.1 (omega arith)
