-- What is promised of the answer after a job: it is the rules' (rules, Reason), as numbers and as the program prints it. Assumes nothing.
use Rattle.std.specs.Prelude.{List, ◌++◌, ◌≡◌, ℕ, ◌≤◌, take, drop}
use Rattle.rules.specs.Reason as rule
use Rattle.rules.specs.Reason.{JobExplained, job_explained, reason_program}
use Rattle.laws.specs.Accepted.{Code}
use Rattle.session.specs.declared.Session.{Session}
use Rattle.session.specs.Storage.{Storage, storage, with_lists}
use Rattle.explaining.specs.Explaining as explaining
use Rattle.jobturn.specs.Ends.{End}
use Rattle.job.specs.Run.{most_lines, Ran}
use Rattle.job_reason.specs.JobReason.{JobReason}
use Rattle.job_reason.specs.JobReason as reason

-- document 02's answer, for each case of the enum
abbrev pub job_explained_as : JobReason → JobExplained
job_explained_as (reason.Stopped x) = rule.stopped (explaining.explained_as x)
job_explained_as (reason.Refused n code) = rule.refused n code

-- places are below 2^24, and the line and the number of a refusal are small
abbrev pub Small : JobReason → Type 0
Small (reason.Stopped x) = explaining.Small x
Small (reason.Refused n code) = (n ≤ most_lines) × Code code

-- the answer for registration r
pub record ExplainsJob (job : List ℕ) (r : ℕ) (x : JobReason) : Type 0 where
  pub is : job_explained_as x ≡ job_explained r job
  pub small : Small x

-- a job was run to the end e, with session s, and left w as waiting storage, and the pool
pub record Ended (e : End) (s : Session) (w pool : List ℕ) : Type 0 where
  pub job : List ℕ
  pub lent : Storage
  pub around : Storage
  pub a : List ℕ
  pub b : List ℕ
  pub ran : Ran job e s lent (with_lists around w pool) a b

-- the answer is that of every job that leaves them
pub record ExplainsEnd (e : End) (s : Session) (w pool : List ℕ) (r : ℕ) (x : JobReason) : Type 0 where
  pub tells : {job sp o t rs m l a b : List ℕ} {σ : Storage} → Ran job e s σ (storage sp o t rs m l w pool) a b → ExplainsJob job r x

-- bytes that suffice for what the program prints
abbrev pub answer_bytes : ℕ
answer_bytes = 64

-- the program's answer: what it prints stands at the start of the bytes, and what stands past it is as it was
pub record Answered (job : List ℕ) (r : ℕ) (entry exit : List ℕ) (n : ℕ) : Type 0 where
  pub small : n ≤ answer_bytes
  pub text : take n exit ≡ reason_program r job
  pub bytes : exit ≡ reason_program r job ++ drop n entry
