-- The key and the line from i on agree as the whole ones do. Assumes nothing.
use Rattle.std.proofs.Common.{sym, ◌∙◌}
use Rattle.jobline.specs.Keys.{begins_on, begins_not, begins_short, begins_end}
use Rattle.jobline.proofs.starts.Goals as goal
use Rattle.jobline.proofs.starts.Goals.{then-i-s-via-then-i-s, then-i-s-via-else-i-s+then-s-i}

pub returns-then-i-s : goal.returns-then-i-s
returns-then-i-s c =
    elim c.then-i-s.branch [
      | then-i-s-via-then-i-s w ↦ sym (c.loop-i.invariant ∙ begins_short c.args.key.now c.args.s.now c.loop-i.i c.loop-i-test.true w.if-i-s.true)
      | then-i-s-via-else-i-s+then-s-i w ↦
          sym (c.loop-i.invariant ∙ begins_not c.args.key.now c.args.s.now c.loop-i.i c.loop-i-test.true w.if-i-s.false w.if-s-i.true)
    ]

pub loop-i-preserved : goal.loop-i-preserved
loop-i-preserved c = c.loop-i.invariant ∙ begins_on c.args.key.now c.args.s.now c.loop-i.i c.loop-i-test.true c.if-i-s.false c.if-s-i.false

pub returns : goal.returns
returns c = sym (c.loop-i.invariant ∙ begins_end c.args.key.now c.args.s.now c.loop-i.i c.loop-i-test.false)
