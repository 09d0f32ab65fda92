-- The session after a call that gives the new one or a refusal: a refused call leaves the one that it had. Assumes nothing.
use Rattle.std.specs.Prelude.{Result, Ok, Err}
use Rattle.rules.specs.declared.Refusal.{Refusal}
use Rattle.ascending_session.specs.declared.Ascending.{Ascending}

abbrev pub session_after : Ascending → Result Ascending Refusal → Ascending
session_after s (Ok t) = t
session_after s (Err _) = s
