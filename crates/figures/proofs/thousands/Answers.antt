-- The array holds the sums of thousands of the counts passed so far; one count more changes one of them. Assumes nothing.
use mathlib.Core.Path.{refl}
use native.Mathlib.Omega.{arith}
use Rattle.figures.specs.Loops.{thousands_begin, thousands_more, thousands_fit, thousands_end}
use Rattle.figures.proofs.thousands.Goals as goal

pub loop-i-init : goal.loop-i-init
loop-i-init c = (refl, (omega arith, thousands_begin c.args.t.now))

pub overflow_add-sums : goal.overflow_add-sums
overflow_add-sums c = let l = c.loop-i in
    let f = thousands_fit c.args.t.now l.i l.sums (omega arith) (omega (arith, c.requires.few)) l.invariant.1.1 in
    omega (arith, c.requires.total)

pub loop-i-preserved : goal.loop-i-preserved
loop-i-preserved c = let l = c.loop-i in
    (l.invariant.0, (omega arith, thousands_more c.args.t.now l.i l.sums (omega arith) (omega (arith, c.requires.few)) l.invariant.1.1))

pub returns : goal.returns
returns c = thousands_end c.args.t.now c.loop-i.i c.loop-i.sums (omega arith) c.loop-i.invariant.1.1
