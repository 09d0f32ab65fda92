-- Of the numbers not yet looked at one is at least the bound exactly where one of all is. Assumes nothing.
use lib.Dec.{leb}
use mathlib.Core.Path.{sym, ◌∙◌}
use borrow.Author.Tests.{le-leb, lt-leb}
use native.Mathlib.Omega.{arith}
use Rattle.lists.specs.Scan.{any_found, any_next, any_none}
use Rattle.lists.proofs.any_at_least.Goals as goal

pub returns-then-bound-x : goal.returns-then-bound-x
returns-then-bound-x c = let a = c.args in
    let l = c.loop-x in
    sym (l.invariant.1 ∙ any_found (λ x. leb a.bound x) a.xs.now l.x-index c.loop-x-test.true (le-leb _ _ c.if-bound-x.true))

pub loop-x-preserved : goal.loop-x-preserved
loop-x-preserved c = let a = c.args in
    let l = c.loop-x in
    (omega arith, l.invariant.1 ∙ any_next (λ x. leb a.bound x) a.xs.now l.x-index c.loop-x-test.true (lt-leb _ _ c.if-bound-x.false))

pub returns : goal.returns
returns c = let a = c.args in
    let l = c.loop-x in
    sym (l.invariant.1 ∙ any_none (λ x. leb a.bound x) a.xs.now l.x-index (omega arith))
