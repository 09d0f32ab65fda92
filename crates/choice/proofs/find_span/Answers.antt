-- `choice::find_span` meets its contract. The invariant: the search from `from` is the search from i, and nothing is found yet. Assumes nothing.
use mathlib.Core.Path.{sym, ◌∙◌}
use native.Mathlib.Omega.{arith}
use Rattle.choice.proofs.Laws.{passed, stops, ends}
use Rattle.choice.proofs.find_span.Goals as goal

pub loop-i-preserved : goal.loop-i-preserved
loop-i-preserved c = (omega arith, (c.loop-i.invariant.1.0, c.loop-i.invariant.1.1 ∙ passed c.args.lens c.loop-i.i c.args.p (omega arith) (omega arith)))

pub returns-after-loop-i : goal.returns-after-loop-i
returns-after-loop-i c = c.loop-i.invariant.1.0 ∙ sym (c.loop-i.invariant.1.1 ∙ ends c.args.lens c.loop-i.i c.args.p (omega arith))

pub returns-then-lens-i : goal.returns-then-lens-i
returns-then-lens-i c = sym (c.loop-i.invariant.1.1 ∙ stops c.args.lens c.loop-i.i c.args.p (omega arith) (omega arith))
