-- The pool is the old one with the first j numbers of the list in their place. Assumes nothing.
use lib.ListN.{length, get_or, set, length-set}
use mathlib.Core.Path.{◌≡◌, ap, ◌∙◌}
use Prim.Native.Nat.{◌+◌}
use native.Mathlib.Omega.{arith}
use Rattle.pool.specs.ListLaws.{store_next, store_end, store_one}
use Rattle.pool.proofs.store_list.Goals as goal

pub returns-then-xs-eq1 : goal.returns-then-xs-eq1
returns-then-xs-eq1 c = let a = c.args in
    store_one a.pool.now a.at a.xs.now c.requires.room c.if-xs-eq1.true

pub loop-j-preserved : goal.loop-j-preserved
loop-j-preserved c = let a = c.args in
    let l = c.loop-j in (
      omega arith,
      length-set l.pool _ _ ∙ l.invariant.1,
      ap (λ x. set x (a.at + l.j) (get_or a.xs.now l.j 0)) l.invariant.2
          ∙ store_next a.pool.now a.at a.xs.now l.j c.requires.room (omega arith),
    )

pub returns : goal.returns
returns c = let a = c.args in
    let l = c.loop-j in
    let e : l.j ≡ length a.xs.now = omega arith in
    l.invariant.2 ∙ store_end a.pool.now a.at a.xs.now l.j e
