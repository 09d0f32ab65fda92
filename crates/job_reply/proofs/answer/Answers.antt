-- The listing, or the two lines of a refusal. Assumes nothing.
use mathlib.Core.Path.{refl}
use native.Mathlib.Omega.{arith}
use Rattle.writer.specs.Wrote.{wrote_in}
use Rattle.job_reply.specs.Laws.{answer_listed, answer_refused}
use Rattle.job_reply.proofs.answer.Goals as goal

pub put_rejection-requires : goal.put_rejection-requires
put_rejection-requires c = omega (arith, c.reply_to.auto.listing, c.requires)

pub returns-in-Ok : goal.returns-in-Ok
returns-in-Ok c = answer_listed c.in-Ok.ensures c.requires _ refl

pub returns-in-Err : goal.returns-in-Err
returns-in-Err c = answer_refused c.in-Err.ensures c.requires _ _ refl _ _
    (omega (arith, wrote_in c.put_rejection.ensures, c.put_rejection.auto.out, c.reply_to.auto.listing, c.requires)) (rw c.into.ensures at c.put_rejection.ensures)
