-- What reading a job's needs promises, by the rules' reading of its bytes (rules, Needs). Definitions only. Assumes nothing.
use Rattle.std.specs.Prelude.{Result, Ok, Err, List, ◌≡◌, ℕ, ◌+◌, ◌/◌, ◌^◌, ◌≤◌, ◌<◌, length, drop}
use Rattle.rules.specs.Limits.{most_job_bytes}
use Rattle.rules.specs.Job.{nothing, lines, ragged}
use Rattle.rules.specs.Needs as rule
use Rattle.rules.specs.Answer.{number_of}
use Rattle.jobcalls.specs.declared.Call.{Call}
use Rattle.jobcalls.specs.declared.Rejection.{Rejection}
use Rattle.jobcalls.specs.Told.{call_of, taken_by}
use Rattle.jobneeds.specs.declared.Needs.{Needs}

-- the needs and the reading that the code's answers tell
abbrev pub needs_of : Needs → rule.Needs
needs_of c = record { registrations = c.registrations; pool = c.pool; flushes = c.flushes }

abbrev pub reading_as : Result Needs Rejection → rule.Reading
reading_as (Ok c) = rule.needing (needs_of c)
reading_as (Err x) = rule.unread x.line (number_of x.refusal)

-- the call x more can be counted in 64 bits
pub record Countable (c : Needs) (x : Call) : Type 0 where
  pub registrations : c.registrations + 1 < 2 ^ 64
  pub pool : c.pool + taken_by x < 2 ^ 64
  pub flushes : c.flushes + 1 < 2 ^ 64

-- r is c with the call x more, wherever the numbers of its lists stand
abbrev pub Counts : Needs → Call → Needs → Type 0
Counts c x r = (read : List ℕ) → taken_by x ≤ length read → needs_of r ≡ rule.with_call (call_of x read) (needs_of c)

-- the needs of a job that is not too long: each call has a byte
abbrev pub Few : rule.Needs → Type 0
Few c = c.registrations + c.flushes ≤ most_job_bytes

-- what is left of the job from `at` on, which is line n, c being the needs before it
unfoldable pub remains : List ℕ → ℕ → ℕ → rule.Needs → rule.Reading
remains job at n c = rule.need_lines n nothing (lines (drop at job)) (ragged (drop at job)) c

-- the calls can be read from `start` on, with room for the numbers of a call's lists and the free one between them
pub record MayRead (job : List ℕ) (room start : ℕ) : Type 0 where
  pub inside : start ≤ length job
  pub short : length job ≤ most_job_bytes
  pub room_is : room ≡ most_job_bytes / 2 + 1
