-- An accepted call writes the summary; a refused one nothing. Assumes nothing.
use mathlib.Core.Path.{sym, refl, ◌∙◌}
use Rattle.rules.specs.Answer.{number_of_pos}
use Rattle.summary.specs.Writing.{writable, accepted, after_done, after_refused}
use Rattle.summary.proofs.order_summary.Goals as goal

pub summarize-requires : goal.summarize-requires
summarize-requires c = (accepted c.args.tally.now _ (sym c.in-Ok.ensures)).0

pub write-requires : goal.write-requires
write-requires c = let t = c.args.tally.now in
    (writable c.summarize.result t c.summarize.ensures, (accepted t _ (sym c.in-Ok.ensures)).1)

pub returns-in-Ok-clause-written : goal.returns-in-Ok-clause-written
returns-in-Ok-clause-written c = c.write.ensures ∙ after_done 0 c.args.tally.now c.args.summary.now _ refl c.summarize.ensures

pub returns-in-Err-clause-written : goal.returns-in-Err-clause-written
returns-in-Err-clause-written c =
    after_refused _ c.args.tally.now c.args.summary.now (λ z. number_of_pos c.in-Err.refusal (sym c.from.ensures ∙ z))
