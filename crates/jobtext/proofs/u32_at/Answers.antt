-- Both halves stand side by side. Assumes nothing.
use borrow.Author.Rules.{rules}
use Rattle.jobtext.specs.Words.{read_on}
use Rattle.jobtext.proofs.u32_at.Goals as goal

pub returns : goal.returns
returns c = read_on c.args.s.now c.args.i 2 2 c.u16_at-low.result c.u16_at-high.result (search rules) c.u16_at-low.ensures c.u16_at-high.ensures
