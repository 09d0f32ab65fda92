-- The sum does not carry out of the word, since what is masked is at most the mask. Assumes nothing.
use borrow.Author.Rules.{rules}
use Rattle.jobtext.specs.Words.{sum_fits, word_marked}
use Rattle.jobtext.proofs.newlines.Goals as goal

pub overflow_add-y : goal.overflow_add-y
overflow_add-y c = search (rules, sum_fits)

pub returns : goal.returns
returns c = word_marked c.args.w
