-- The session after a call that gives the new one or a refusal: a refused call leaves the one that it had. Assumes nothing.
use Rattle.std.specs.Prelude.{Result, Ok, Err}
use Rattle.rules.specs.declared.Refusal.{Refusal}
use Rattle.session.specs.declared.Session.{Session}

abbrev pub session_after : Session → Result Session Refusal → Session
session_after s (Ok t) = t
session_after s (Err _) = s
