-- One store, and a law of Keeps. Assumes nothing.
use native.Mathlib.Omega.{arith}
use Rattle.registrar.specs.Keeps.{stacks}
use Rattle.registrar.proofs.stack.Goals as goal

pub returns : goal.returns
returns c = let a = c.args in
    rw c.set_link.ensures (stacks a.waiting.now a.v a.r a.top (omega arith))
