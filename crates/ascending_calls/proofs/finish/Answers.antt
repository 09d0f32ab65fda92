-- `ascending_calls::finish` meets its contract: it closes, and the summary is that of the tally after that.
use mathlib.Core.Path.{◌≡◌, refl}
use borrow.Author.Rules.{rules}
use Rattle.std.specs.Prelude.{Result, Err}
use Rattle.rules.specs.declared.Refusal.{Refusal}
use Rattle.rules.specs.Answer.{number_of_pos}
use Rattle.ascending_calls.specs.declared.Finished.{Finished}
use Rattle.ascending_calls.specs.Closing.{not_concluded, final_tallied, concluded}
use Rattle.ascending_calls.proofs.finish.Goals as goal

pub returns-in_err-session-clause-concludes : goal.returns-in_err-session-clause-concludes
returns-in_err-session-clause-concludes c =
    let e : ◌≡◌ {A = Result Finished Refusal} c.from_residual.result (Err c.in_err-session.field-0.0) = search rules in
    rw e (not_concluded c.in_err-session.ensures.called (number_of_pos _) refl)

pub finalize-requires : goal.finalize-requires
finalize-requires c = final_tallied c.in_ok-session.ensures.called c.requires

pub returns-clause-concludes : goal.returns-clause-concludes
returns-clause-concludes c = concluded c.in_ok-session.ensures.called refl c.finalize.ensures
