-- The next call of a job as the definitions have it, one data type with the missing or malformed line among its cases, and how the code's
-- answer tells it. Assumes nothing.
use Rattle.std.specs.Prelude.{ℕ, Result, Ok, Err}
use Rattle.jobcalls.specs.declared.Call.{Call as CallRead}
use Rattle.jobcalls.specs.declared.Next.{Next as Found}
use Rattle.jobcalls.specs.declared.Next.TheVariants as found
use Rattle.jobcalls.specs.declared.Malformed.{Malformed as NotRead}

-- a call that others may follow, or final, each with the line that it is refused on and the place after it; or the line of it that is
-- missing or malformed
pub data Next : Type 0 where
  Call : CallRead → ℕ → ℕ → Next
  Final : ℕ → ℕ → Next
  Malformed : ℕ → Next

abbrev pub told_next : Result Found NotRead → Next
told_next (Ok (found.Call c n after)) = Call c n after
told_next (Ok (found.Final n after)) = Final n after
told_next (Err e) = Malformed e.line
