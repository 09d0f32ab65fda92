-- `tally::tally_new` meets its contract. The invariant says what is still to be counted, and that no count can overflow meanwhile.
-- Assumes nothing.
use Rattle.tally.specs.Counting.{parallelism_from, count_begins, count_turn, count_ends, counted_one}
use lib.ListN.{length, get_or, length-set}
use mathlib.Core.Path.{refl, sym, ap, ◌∙◌}
use native.Mathlib.Omega.{arith}
use Rattle.tally.proofs.tally_new.Goals as goal

pub loop-q-init : goal.loop-q-init
loop-q-init c = let a = c.args in
    (omega arith, (refl, (λ k z. omega (arith, c.requires.countable.small k z), count_begins a.order.now a.n a.a a.tally.now)))

pub loop-q-preserved : goal.loop-q-preserved
loop-q-preserved c = let w = c.parallelism_at in
    let a = c.args in
    let o = a.order.now in
    let l = c.loop-q in
    let k = c.loop-q-test.true in
    let is = c.count_one.ensures in (
      omega arith,
      (
        ap length is ∙ length-set l.tally _ _ ∙ l.invariant.1.0,
        (
          λ j z. let x = parallelism_from o a.n j in
              omega (arith, counted_one l.tally w.result x, ap (λ t. get_or t x 0) is, l.invariant.1.1.0 j z, k),
          l.invariant.1.1.1 ∙ count_turn o a.n a.a l.tally _ l.q w.result k w.ensures is,
        ),
      ),
    )

pub returns : goal.returns
returns c = let l = c.loop-q in
    let a = c.args in
    sym (l.invariant.1.1.1 ∙ count_ends a.order.now a.n a.a l.tally l.q c.loop-q-test.false)
