-- What the exported calls that say why a registration waits promise, each by one number. After a list of calls: the promise of `replay`
-- (call_list/Replay), and the model's answer (rules/Reason). After a job: the job's. Definitions only. Assumes nothing.
use Rattle.std.specs.Prelude.{◌≡◌, List, ℕ, length}
use Rattle.std.proofs.Math.Option.{Option, some, none}
use Rattle.rules.specs.Model.{initial}
use Rattle.rules.specs.Checks.{Sizes, verdict}
use Rattle.rules.specs.Calls.{Call, unless_refused, run}
use Rattle.rules.specs.Encoding.{decode}
use Rattle.rules.specs.Reason.{check_reason, Reason, reason, because, explained, reason_number, stopped, job_explained, job_reason_number}
use Rattle.laws.specs.Reason.{Holds, JobHolds}
use Rattle.session.specs.declared.Session.{Session}
use Rattle.session.specs.Storage.{Storage}
use Rattle.opening.specs.Opened.{sizes}
use Rattle.call_list.specs.Replay.{Replays, replay_number}

-- the number that a host gets: that of the replay where it is refused, else why the registration waits after the calls
unfoldable pub replay_reason : ℕ → ℕ → Sizes → ℕ → ℕ → ℕ → Option (List Call) → ℕ
replay_reason P N s room W asked none = replay_number P N s room none
replay_reason P N s room W asked (some cs) =
    let n : ℕ = replay_number P N s room (some cs) in
    unless_refused n n (reason_number (explained N asked (run P N W cs initial)))

-- the promise: l are the encoded calls, r is the number. Where a reason is given, it is true
pub record ReplayReason (P N : ℕ) (l : List ℕ) (asked r : ℕ) (σ τ : Storage) (out out' : List ℕ) : Type 0 where
  pub number : ℕ
  pub session : Session
  pub replays : Replays P N l number session σ τ out out'
  pub is : r ≡ replay_reason P N (sizes σ) (length out) (length σ.pool) asked (decode l)
  pub holds : number ≡ 0 → (cs : List Call) → decode l ≡ some cs → verdict (check_reason asked (run P N (length σ.pool) cs initial)) ≡ 0
      → Holds P N (length σ.pool) (run P N (length σ.pool) cs initial) asked (reason N asked (run P N (length σ.pool) cs initial))

-- of a job: the job's answer, by one number r, and where that is a reason, it is true
pub record OrderReason (job : List ℕ) (asked r : ℕ) : Type 0 where
  pub is : r ≡ job_reason_number (job_explained asked job)
  pub holds : (x : Reason) → job_explained asked job ≡ stopped (because x) → JobHolds job asked x
