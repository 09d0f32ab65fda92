-- Both halves stand side by side. Assumes nothing.
use borrow.Author.Rules.{rules}
use Rattle.jobtext.specs.Words.{read_on}
use Rattle.jobtext.proofs.word_at.Goals as goal

pub returns : goal.returns
returns c = read_on c.args.s.now c.args.i 4 4 c.u32_at-low.result c.u32_at-high.result (search rules) c.u32_at-low.ensures c.u32_at-high.ensures
