-- The greatest of m and of the numbers not yet looked at is the greatest of all. Assumes nothing.
use lib.ListN.{drop}
use mathlib.Core.Path.{sym, ap, ◌∙◌}
use Prim.Native.Nat.{◌+◌, max}
use native.Mathlib.Omega.{arith}
use Rattle.rules.specs.Model.{greatest}
use Rattle.lists.specs.Scan.{greatest_begins, greatest_turn, greatest_ends}
use Rattle.lists.proofs.greatest.Goals as goal

pub loop-x-init : goal.loop-x-init
loop-x-init c = (omega arith, greatest_begins c.args.xs.now)

pub loop-x-preserved : goal.loop-x-preserved
loop-x-preserved c = let xs = c.args.xs.now in
    let l = c.loop-x in
    (omega arith, l.invariant.1 ∙ greatest_turn xs l.m l.x-index c.loop-x-test.true ∙ ap (λ x. max x (greatest (drop (l.x-index + 1) xs))) (sym c.max-m.ensures))

pub returns : goal.returns
returns c = let l = c.loop-x in
    sym (l.invariant.1 ∙ greatest_ends c.args.xs.now l.m l.x-index (omega arith))
