-- The registration reached is on the chain, and what follows it has the same last. Registrations descend along a chain, so links fall. Assumes nothing.
use Rattle.registrar.specs.Loops.{seek_start, seek_more, seek_end}
use Rattle.registrar.proofs.oldest.Goals as goal

pub link-next-requires : goal.link-next-requires
link-next-requires c = let a = c.args in
    let s = seek_start a.waiting.now a.v a.from c.requires.0 c.requires.1 in
    (s.low, s.long)

pub loop-next-init : goal.loop-next-init
loop-next-init c = rw c.link-next.ensures (seek_start c.args.waiting.now c.args.v c.args.from c.requires.0 c.requires.1)

pub link-next-requires-in-loop-next : goal.link-next-requires-in-loop-next
link-next-requires-in-loop-next c = let s = seek_more _ _ _ _ _ c.loop-next.invariant c.loop-next-test.true in (s.2, s.0.long)

pub loop-next-smaller : goal.loop-next-smaller
loop-next-smaller c = rw c.link-next-in-loop-next.ensures (seek_more _ _ _ _ _ c.loop-next.invariant c.loop-next-test.true).1

pub loop-next-preserved : goal.loop-next-preserved
loop-next-preserved c = rw c.link-next-in-loop-next.ensures (seek_more _ _ _ _ _ c.loop-next.invariant c.loop-next-test.true).0

pub returns : goal.returns
returns c = seek_end _ _ _ _ _ c.loop-next.invariant c.loop-next-test.false
