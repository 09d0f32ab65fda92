-- What running a job promises: its end is document 01's outcome of the job, and the lent storage is as it was where no session was opened,
-- else it stands, with the session where the job stopped, for the model that its accepted calls reach (rules, Job). Assumes nothing.
use Rattle.std.specs.Prelude.{List, ◌≡◌, ℕ, ◌+◌, ◌*◌, ◌/◌, ◌≤◌, length}
use Rattle.std.proofs.Math.Option.{Option, some, none}
use Rattle.rules.specs.Model.{Model, initial}
use Rattle.rules.specs.Limits.{most_job_bytes, job_parallelism, job_places, job_pool}
use Rattle.rules.specs.Checks.{spans_needed, waiting_needed, tally_needed}
use Rattle.laws.specs.Accepted.{Code}
use Rattle.entries.specs.Entries.{extent}
use Rattle.records.specs.Filling.{row_extent}
use Rattle.rules.specs.Job.{Outcome, finished, rejected, outcome, Reached, reached}
use Rattle.session.specs.declared.Session.{Session}
use Rattle.session.specs.Storage.{Storage, Beyond, Frame}
use Rattle.session.specs.Rep.{Rep}
use Rattle.opening.specs.Opened.{first_session}
use Rattle.jobcalls.specs.Runs.{Run}
use Rattle.jobturn.specs.Turned.{remains, StandsFor, FiguresOf}
use Rattle.jobturn.specs.declared.EndFigures.{EndFigures}
use Rattle.jobturn.specs.Ends.{End, end_as}
use Rattle.jobturn.specs.Ends as end
use Rattle.job.specs.declared.Ended.{Ended as EndedRun}

-- a session and the storage stand for the model that a job reaches, P and V being the numbers of its first two lines, and what lies
-- beyond the needed lengths, and the order past its length, is as it was lent
pub record StandsReached (r : Reached) (s : Session) (σ σ' : Storage) : Type 0 where
  pub stands : StandsFor r.parallelism r.places job_pool s σ' r.model
  pub frame : Frame r.parallelism r.places 0 s.guide.written σ σ'

-- the session, and what is left of the lent storage: where none was opened, one of P 0 and V 0, and all of the storage as it was
abbrev pub Left : Option Reached → Session → Storage → Storage → Type 0
Left none s σ σ' = (σ' ≡ σ) × (s ≡ first_session 0 0)
Left (some r) s σ σ' = StandsReached r s σ σ'

-- a job refused on line n
pub record Refused (job : List ℕ) (s : Session) (σ σ' : Storage) (n code : ℕ) : Type 0 where
  pub is : outcome job ≡ rejected n code
  pub left : Left (reached job) s σ σ'

-- a job that is finished, with the numbers that the head of its listing is made from
pub record Closed (job : List ℕ) (s : Session) (σ σ' : Storage) (f : EndFigures) : Type 0 where
  pub last : Reached
  pub reached_is : reached job ≡ some last
  pub is : outcome job ≡ finished last.parallelism last.model
  pub standing : StandsReached last s σ σ'
  pub figures : FiguresOf last.parallelism last.model f

abbrev pub Tells : List ℕ → Session → Storage → Storage → End → Type 0
Tells job s σ σ' (end.Rejected n code) = Refused job s σ σ' n code
Tells job s σ σ' (end.Finished f) = Closed job s σ σ' f

-- a refusal's line is at most six past the bytes of a job, and its number small
abbrev pub most_lines : ℕ
most_lines = most_job_bytes + 6

abbrev pub Low : End → Type 0
Low (end.Rejected n code) = (n ≤ most_lines) × Code code
Low (end.Finished f) = Unit {0}

-- calls may be run from `start` on: the session is fresh, and there is room for the numbers of a call
pub record MayRun (s : Session) (σ : Storage) (job : List ℕ) (room start : ℕ) : Type 0 where
  pub parallelism : ℕ
  pub places : ℕ
  pub positive : 1 ≤ parallelism
  pub rep : Rep parallelism places initial s σ
  pub inside : start ≤ length job
  pub half : length job + 8 ≤ 2 * room
  pub short : length job ≤ most_job_bytes

-- the outcome that an end tells, the model being k, and that its numbers are P and the model's
abbrev pub outcome_as : End → ℕ → Model → Outcome
outcome_as (end.Rejected n code) P k = rejected n code
outcome_as (end.Finished f) P k = finished P k

abbrev pub figures_of : End → ℕ → Model → Type 0
figures_of (end.Rejected n code) P k = Unit {0}
figures_of (end.Finished f) P k = FiguresOf P k f

-- the calls were run to the end e: o is what remained at the start, with session s and storage σ, which are then s' and σ'
pub record Stopped (P N W : ℕ) (s s' : Session) (σ σ' : Storage) (e : End) (o : Run) : Type 0 where
  pub model : Model
  pub stands : StandsFor P N W s' σ' model
  pub is : o ≡ (outcome_as e P model, model)
  pub frame : Frame P N s.guide.written s'.guide.written σ σ'
  pub figures : figures_of e P model

-- a and b are the storage for numbers before and after: the job's lists have at most half as many numbers as it has bytes, and an encoded add
-- has four beside them
pub record Runs (s : Session) (σ : Storage) (job : List ℕ) (start : ℕ) (e : End) (s' : Session) (σ' : Storage) (a b : List ℕ) : Type 0 where
  pub tells : (P N : ℕ) → 1 ≤ P → Rep P N initial s σ → Stopped P N (length σ.pool) s s' σ σ' e (remains P N (length σ.pool) job start 3 initial)
  pub low : Low e
  pub into : Beyond (length job / 2 + 4) a b

-- how a job ended, and the session where it stopped
pub record Ended : Type 0 where
  pub end : End
  pub session : Session

abbrev pub ended_as : EndedRun → Ended
ended_as r = record { end = end_as r.end; session = r.session }

-- refused on line n before a session was opened
abbrev pub unopened_at : ℕ → ℕ → Ended
unopened_at n code = record { end = end.Rejected n code; session = first_session 0 0 }

-- storage for the greatest P and V and the W of a job (rules/Limits), and room for the numbers of a job's calls
pub record Room (σ : Storage) (numbers : ℕ) : Type 0 where
  pub spans : length σ.spans ≡ extent (spans_needed job_parallelism)
  pub order : length σ.order ≡ extent job_places
  pub tally : length σ.tally ≡ tally_needed job_parallelism
  pub rows : length σ.rows ≡ row_extent job_places
  pub marks : length σ.marks ≡ job_places
  pub locations : length σ.locations ≡ job_places
  pub waiting : length σ.waiting ≡ waiting_needed job_places
  pub pool : length σ.pool ≡ job_pool
  pub into : numbers ≡ most_job_bytes / 2 + 4

-- the whole job was run on storage σ, which is then σ', to the end e with session s, its lists read into a, which is then b
pub record Ran (job : List ℕ) (e : End) (s : Session) (σ σ' : Storage) (a b : List ℕ) : Type 0 where
  pub tells : Tells job s σ σ' e
  pub low : Low e
  pub into : Beyond (length job / 2 + 4) a b
