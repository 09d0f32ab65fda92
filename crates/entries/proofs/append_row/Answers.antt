-- `entries::append_row` meets its contract. The invariant says what is still to be appended. Assumes nothing.
use mathlib.Core.Path.{◌∙◌}
use native.Mathlib.Omega.{arith}
use Rattle.entries.specs.Stored.{parallelism_most}
use Rattle.entries.proofs.Laws.{turn}
use Rattle.entries.proofs.append_row.Goals as goal

pub overflow_cast-parallelism : goal.overflow_cast-parallelism
overflow_cast-parallelism c = let g = c.args in
    let asked = c.requires.le_p in
    omega (arith, c.parallelism_of-parallelism.ensures, parallelism_most g.p g.a g.b c.loop-q.q asked.0, asked)

pub loop-q-preserved : goal.loop-q-preserved
loop-q-preserved c = let l = c.loop-q in
    let g = c.args in
    let w = c.parallelism_of-parallelism in
    let e = c.load-e in (
      omega arith,
      (
        c.store.auto.s ∙ l.invariant.1.0,
        l.invariant.1.1
            ∙ turn g.spans.now g.p g.a g.b g.n g.base l.order c.store.new.s l.q e.result w.result
            c.loop-q-test.true e.ensures w.ensures c.store.ensures,
      ),
    )
