-- How a job ends, as the theorems tell it, by what the code returns. Assumes nothing.
use Rattle.std.specs.Prelude.{ℕ, Result, Ok, Err}
use Rattle.rules.specs.Answer.{number_of}
use Rattle.jobcalls.specs.declared.Rejection.{Rejection}
use Rattle.jobturn.specs.declared.EndFigures.{EndFigures}

-- with final accepted, or refused on a line with a number
pub data End : Type 0 where
  Finished : EndFigures → End
  Rejected : ℕ → ℕ → End

abbrev pub rejected_as : Rejection → End
rejected_as r = Rejected r.line (number_of r.refusal)

abbrev pub end_as : Result EndFigures Rejection → End
end_as (Ok f) = Finished f
end_as (Err r) = rejected_as r
