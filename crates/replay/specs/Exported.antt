-- What an exported call that runs a list of calls promises: the promise of `replay` (call_list/Replay), told by one number. Definitions only.
-- Assumes nothing.
use Rattle.std.specs.Prelude.{◌≡◌, List, ℕ, ◌*◌}
use Rattle.rules.specs.Limits.{reply_radix}
use Rattle.rules.specs.Calls.{unless_refused}
use Rattle.session.specs.declared.Session.{Session}
use Rattle.session.specs.Storage.{Storage}
use Rattle.call_list.specs.Replay.{Replays}

-- 64 times a count, or the number of a refusal
abbrev pub by_number : ℕ → ℕ → ℕ
by_number n count = unless_refused n n (reply_radix * count)

-- what is told of the session: the order's length, and how many entries the window holds
abbrev pub written : Session → ℕ
written s = s.guide.written

abbrev pub held : Session → ℕ
held s = s.guide.held

-- r tells, of the session after the calls, the count that a host is told
pub record Exported (count : Session → ℕ) (P N : ℕ) (l : List ℕ) (r : ℕ) (σ τ : Storage) (out out' : List ℕ) : Type 0 where
  pub number : ℕ
  pub session : Session
  pub replays : Replays P N l number session σ τ out out'
  pub is : r ≡ by_number number (count session)
