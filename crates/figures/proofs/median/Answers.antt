-- What remains to be done keeps the answer: the median looked for from i on, with the running sum before it. Assumes nothing.
use mathlib.Core.Path.{refl, sym, ◌∙◌}
use native.Mathlib.Omega.{arith}
use Rattle.figures.specs.Loops.{sum_more, median_begins, median_stops, median_more, median_ends}
use Rattle.figures.proofs.median.Goals as goal

pub loop-i-init : goal.loop-i-init
loop-i-init c = (refl, (omega arith, (omega arith, median_begins c.args.all c.args.t.now c.requires.1)))

pub overflow_add-running : goal.overflow_add-running
overflow_add-running c = let m = sum_more c.args.t.now c.loop-i.i (omega arith) in
    omega (arith, c.requires.0.total)

pub overflow_mul-running : goal.overflow_mul-running
overflow_mul-running c = let m = sum_more c.args.t.now c.loop-i.i (omega arith) in
    omega (arith, c.requires.0.total)

pub returns-then-all-running : goal.returns-then-all-running
returns-then-all-running c = let l = c.loop-i in
    sym (l.invariant.1.1.1 ∙ median_stops c.args.all l.i l.running c.args.t.now (omega arith) c.if-all-running.true)

pub loop-i-preserved : goal.loop-i-preserved
loop-i-preserved c = let l = c.loop-i in
    let t = c.args.t.now in
    let m = sum_more t l.i (omega arith) in
    (l.invariant.0, (omega arith, (omega arith, l.invariant.1.1.1 ∙ median_more c.args.all l.i l.running t (omega arith) c.if-all-running.false)))

pub returns : goal.returns
returns c = let l = c.loop-i in
    sym (l.invariant.1.1.1 ∙ median_ends c.args.all l.i l.running c.args.t.now (omega arith))
