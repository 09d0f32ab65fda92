-- What finish tells, as its promise speaks of it: the session after it and the figures; refused, the session as it was, and the figures of
-- no counts. Definitions only. Assumes nothing.
use Rattle.std.specs.Prelude.{[], Result, Ok, Err}
use Rattle.rules.specs.declared.Refusal.{Refusal}
use Rattle.rules.specs.Summary.{Figures, figures}
use Rattle.summary.specs.Figured.{figured}
use Rattle.ascending_session.specs.declared.Ascending.{Ascending}
use Rattle.ascending_calls.specs.declared.Finished.{Finished}

abbrev pub session_finished : Ascending → Result Finished Refusal → Ascending
session_finished s (Ok f) = f.session
session_finished s (Err _) = s

abbrev pub figures_finished : Result Finished Refusal → Figures
figures_finished (Ok f) = figured f.summary
figures_finished (Err _) = figures []
