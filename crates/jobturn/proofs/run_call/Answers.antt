-- A malformed call, one that was made, and final: each way out is a law of what was read and of what was made. Assumes nothing.
use mathlib.Core.Path.{refl}
use Rattle.rules.specs.Answer.{number_of_pos}
use Rattle.jobturn.specs.Putting.{puts_made}
use Rattle.jobturn.specs.Laws.{numbers_read, numbers_put, turn_malformed, turn_call, turn_final}
use Rattle.jobturn.proofs.run_call.Goals as goal

pub returns-in-Ok-clause-turned : goal.returns-in-Ok-clause-turned
returns-in-Ok-clause-turned c = let call = rw c.in-Ok-Call.field-0-is at c.in-Ok-Call.ensures in
    turn_call _ _ (numbers_put call c.read_call.auto.into c.put-numbers.auto.into c.put-numbers.ensures) _ _ _ call
    (puts_made c.put-numbers.ensures c.in-Ok.ensures.made) c.requires.asks (record { accepted = λ e. refl; refused = λ z. absurd (z refl) })

pub returns-in-Err-make-clause-turned : goal.returns-in-Err-make-clause-turned
returns-in-Err-make-clause-turned c = let call = rw c.in-Ok-Call.field-0-is at c.in-Ok-Call.ensures in
    turn_call _ _ (numbers_put call c.read_call.auto.into c.put-numbers.auto.into c.put-numbers.ensures) _ _ _ call
    (puts_made c.put-numbers.ensures c.in-Err-make.ensures.made) c.requires.asks (record { accepted = λ e. absurd (number_of_pos _ e); refused = λ z. refl })

pub returns-in-Ok-Final-clause-turned : goal.returns-in-Ok-Final-clause-turned
returns-in-Ok-Final-clause-turned c = let call = rw c.in-Ok-Final.field-0-is at c.in-Ok-Final.ensures in
    let made = c.make_final.ensures.made in
    turn_final _ _ (numbers_read call c.read_call.auto.into) _ _ call made.concludes c.requires.asks made.follows

pub returns-in-Err-clause-turned : goal.returns-in-Err-clause-turned
returns-in-Err-clause-turned c = rw c.into.ensures (turn_malformed _ _ (numbers_read c.in-Err.ensures c.read_call.auto.into) _ c.in-Err.ensures)
