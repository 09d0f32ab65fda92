-- `choice::parallelism_of` meets its contract: each return rewrites with the tests that led there. Assumes nothing.
use borrow.Author.Tests.{le-ltb, lt-ltb, le-leb, lt-leb}
use native.Mathlib.Omega.{arith}
use Rattle.rules.specs.Guide.{parallelism, parallelism_by}
use Rattle.choice.proofs.parallelism_of.Goals as goal

pub returns-then-p-b : goal.returns-then-p-b
unfolding parallelism parallelism_by
returns-then-p-b c = simp (le-leb _ _ c.if-p-a.true, le-leb _ _ c.if-p-b.true)

pub returns-then-q-b : goal.returns-then-q-b
unfolding parallelism parallelism_by
returns-then-q-b c = simp (le-leb _ _ c.if-p-a.true, lt-leb _ _ c.if-p-b.false, lt-ltb _ _ c.if-q-b.true)

pub returns-then-p-a : goal.returns-then-p-a
unfolding parallelism parallelism_by
returns-then-p-a c = rw c.max.ensures (simp (le-leb _ _ c.if-p-a.true, lt-leb _ _ c.if-p-b.false, le-ltb _ _ c.if-q-b.false))

pub returns-then-p-b-2 : goal.returns-then-p-b-2
unfolding parallelism parallelism_by
returns-then-p-b-2 c = simp (lt-leb _ _ c.if-p-a.false, le-leb _ _ c.if-p-b-2.true)

pub returns-then-q-b-2 : goal.returns-then-q-b-2
unfolding parallelism parallelism_by
returns-then-q-b-2 c = simp (lt-leb _ _ c.if-p-a.false, lt-leb _ _ c.if-p-b-2.false) (omega arith)

pub returns : goal.returns
unfolding parallelism parallelism_by
returns c = simp (lt-leb _ _ c.if-p-a.false, lt-leb _ _ c.if-p-b-2.false) (omega arith)
