-- What follows a call of a job, as the theorems tell it, by what the code returns. Assumes nothing.
use Rattle.std.specs.Prelude.{ℕ, Result, Ok, Err}
use Rattle.jobcalls.specs.declared.Rejection.{Rejection}
use Rattle.jobturn.specs.declared.Step.{Step as Followed}
use Rattle.jobturn.specs.declared.Step.TheVariants as followed
use Rattle.jobturn.specs.Ends as end
use Rattle.jobturn.specs.Ends.{End, rejected_as}

-- the place and the line of the next call, or the job's end
pub data Step : Type 0 where
  On : ℕ → ℕ → Step
  Ended : End → Step

abbrev pub step_as : Result Followed Rejection → Step
step_as (Ok (followed.On next line)) = On next line
step_as (Ok (followed.Finished f)) = Ended (end.Finished f)
step_as (Err r) = Ended (rejected_as r)
