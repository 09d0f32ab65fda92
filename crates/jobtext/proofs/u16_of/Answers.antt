-- Assumes nothing.
use borrow.Author.Rules.{rules}
use Rattle.jobtext.specs.Words.{two_bytes}
use Rattle.jobtext.proofs.u16_of.Goals as goal

pub returns : goal.returns
returns c = two_bytes c.args.a c.args.b (search rules) (search rules)
