-- Document 02, M-105, the claim about every model that a list of calls reaches, and about every job: a reason that is given for a
-- registration is true. Proved in ReasonProof and ReasonJobs. Definitions only. Assumes nothing.
use Rattle.std.specs.Prelude.{◌≡◌, List, true, false, ℕ, ◌≤◌, ◌<◌}
use Rattle.std.proofs.Math.Option.{some}
use Rattle.rules.specs.Limits.{most_places, job_pool}
use Rattle.rules.specs.Refusals as refusal
use Rattle.rules.specs.Model.{Model, reg_of, tracked}
use Rattle.rules.specs.Checks.{written_by}
use Rattle.rules.specs.Calls.{Call, set, answer, run}
use Rattle.rules.specs.Job.{rejected, outcome, Reached, reached}
use Rattle.rules.specs.Reason.{Reason, waits}
use Rattle.laws.specs.ModelBase.{In}

-- x is a true reason for registration r of the model k
pub record Holds (P N W : ℕ) (k : Model) (r : ℕ) (x : Reason) : Type 0 where
  -- the input is one of the registration's, and none is greater
  pub an_input : In x.input (reg_of k r).ins
  pub greatest : (i : ℕ) → In i (reg_of k r).ins → i ≤ x.input
  pub input_inside : x.input < N
  -- the place is untracked, every lower one is tracked, and it lies at or below the input
  pub untracked : tracked k x.place ≡ false
  pub lowest : (i : ℕ) → i < x.place → tracked k i ≡ true
  pub inside : x.place < N
  pub under : x.place ≤ x.input
  -- "for every list of later calls after which that place is still untracked, the registration still waits"
  pub lasts : (later : List Call) → tracked (run P N W later k) x.place ≡ false → waits r (run P N W later k) ≡ true
  -- what to send: where the place is an output of an accepted registration, no later call tracks it; else a set of it is accepted, for the
  -- session is open
  pub promised : written_by x.place k.adds ≡ true → (later : List Call) → tracked (run P N W later k) x.place ≡ false
  pub not_closed : k.closed ≡ false
  pub settable : N ≤ most_places → written_by x.place k.adds ≡ false → answer N W (set x.place) k ≡ 0

-- x is a true reason for registration r after a job
pub record JobHolds (job : List ℕ) (r : ℕ) (x : Reason) : Type 0 where
  -- the job was refused with 12 on some line
  pub line : ℕ
  pub rejected_by : outcome job ≡ rejected line refusal.still_waiting
  -- and the reason is a true one of its session where it stopped
  pub session : Reached
  pub session_is : reached job ≡ some session
  pub holds : Holds session.parallelism session.places job_pool session.model r x
