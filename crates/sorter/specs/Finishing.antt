-- What finish tells, as its promise speaks of it: the session after it and the figures; refused, the session as it was, and the figures of
-- no counts. Definitions only. Assumes nothing.
use Rattle.std.specs.Prelude.{[], Result, Ok, Err}
use Rattle.rules.specs.declared.Refusal.{Refusal}
use Rattle.rules.specs.Summary.{Figures, figures}
use Rattle.summary.specs.declared.Summary.{Summary}
use Rattle.summary.specs.Figured.{figured}
use Rattle.session.specs.declared.Session.{Session}
use Rattle.sorter.specs.declared.Finished.{Finished}

abbrev pub session_finished : Session → Result Finished Refusal → Session
session_finished s (Ok f) = f.session
session_finished s (Err _) = s

-- of the summary alone
abbrev pub figures_told : Result Summary Refusal → Figures
figures_told (Ok f) = figured f
figures_told (Err _) = figures []

abbrev pub figures_finished : Result Finished Refusal → Figures
figures_finished (Ok f) = figured f.summary
figures_finished (Err _) = figures []
