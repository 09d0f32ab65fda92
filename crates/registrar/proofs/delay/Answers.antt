-- Two stores: the link of r takes the old head, the head becomes r. What they do is a law of Keeps. Assumes nothing.
use mathlib.Core.Path.{ap, sym, ◌∙◌, subst}
use Prim.Native.Nat.{◌+◌}
use native.Mathlib.Omega.{arith}
use Rattle.registrar.specs.Delayed.{with_head, with_link, Joins}
use Rattle.registrar.specs.Keeps.{joins}
use Rattle.registrar.proofs.delay.Goals as goal

pub returns : goal.returns
returns c = let a = c.args in
    let links = c.set_link.ensures ∙ ap (with_link a.waiting.now a.v a.r) c.head-newest.ensures in
    let stores = c.set_head.ensures ∙ ap (λ w. with_head w a.p (a.r + 1)) links in
    subst (Joins a.waiting.now a.v a.p a.r) (sym stores) (joins a.waiting.now a.v a.p a.r (omega arith) (omega arith))
