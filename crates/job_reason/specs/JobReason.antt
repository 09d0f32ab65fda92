-- The answer after a job as the theorems tell it, by what the code returns. Assumes nothing.
use Rattle.std.specs.Prelude.{ℕ, Result, Ok, Err}
use Rattle.rules.specs.declared.Refusal.{Refusal}
use Rattle.rules.specs.Answer.{number_of}
use Rattle.jobcalls.specs.declared.Rejection.{Rejection}
use Rattle.explaining.specs.declared.Reason.{Reason as Why}
use Rattle.explaining.specs.Explaining.{Reason, told}

-- that of its session, or the line and the number of its refusal
pub data JobReason : Type 0 where
  Stopped : Reason → JobReason
  Refused : ℕ → ℕ → JobReason

abbrev pub job_told : Result (Result Why Refusal) Rejection → JobReason
job_told (Ok x) = Stopped (told x)
job_told (Err e) = Refused e.line (number_of e.refusal)
