-- `records::fill_rows` meets its contract. The invariant says what is still to be filled. Assumes nothing.
use Rattle.records.specs.Filling.{fill_begins, fill_turn, fill_ends, fill_one_length}
use lib.ListN.{length}
use mathlib.Core.Path.{refl, sym, ap, ◌∙◌}
use native.Mathlib.Omega.{arith}
use Rattle.records.proofs.fill_rows.Goals as goal

pub loop-q-init : goal.loop-q-init
loop-q-init c = let a = c.args in (omega arith, (refl, fill_begins a.order.now a.n a.a a.rows.now))

pub loop-q-preserved : goal.loop-q-preserved
loop-q-preserved c = let w = c.fill_one.ensures in
    let e = c.load-e in
    let l = c.loop-q in
    let a = c.args in (
      omega arith,
      (
        ap length w ∙ fill_one_length l.rows _ e.result ∙ l.invariant.1.0,
        l.invariant.1.1 ∙ fill_turn a.order.now a.n a.a l.rows _ l.q e.result c.loop-q-test.true e.ensures w,
      ),
    )

pub returns : goal.returns
returns c = let l = c.loop-q in
    let a = c.args in
    sym (l.invariant.1.1 ∙ fill_ends a.order.now a.n a.a l.rows l.q c.loop-q-test.false)
