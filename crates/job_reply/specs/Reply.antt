-- What the answer to a job promises, by the rules' reply to the job where so many listing bytes are lent (rules, Listing). Assumes nothing.
use Rattle.std.specs.Prelude.{List, ◌++◌, ◌≡◌, ℕ, ◌≤◌, length, take, drop, Result, Ok, Err}
use Rattle.rules.specs.Limits.{program_listing_bytes}
use Rattle.rules.specs.Listing as rule
use Rattle.laws.specs.Accepted.{Code}
use Rattle.job.specs.Run.{most_lines}
use Rattle.rules.specs.Answer.{number_of}
use Rattle.jobcalls.specs.declared.Rejection.{Rejection}

-- the listing's length, or the line and the number of a refusal
pub data Reply : Type 0 where
  Listed : ℕ → Reply
  Refused : ℕ → ℕ → Reply

abbrev pub told : Result ℕ Rejection → Reply
told (Ok n) = Listed n
told (Err r) = Refused r.line (number_of r.refusal)

-- the rules' reply that an answer tells, the listing standing at the start of the bytes
abbrev pub reply_as : Reply → List ℕ → rule.Reply
reply_as (Listed n) bytes = rule.listed (take n bytes)
reply_as (Refused line code) bytes = rule.refused line code

-- the numbers are small, and the listing lies within the bytes
abbrev pub Small : Reply → List ℕ → Type 0
Small (Listed n) bytes = (n ≤ length bytes) × (n ≤ program_listing_bytes)
Small (Refused line code) bytes = (line ≤ most_lines) × Code code

pub record Replied (job entry exit : List ℕ) (r : Reply) : Type 0 where
  pub is : reply_as r exit ≡ rule.reply (length entry) job
  pub bytes : exit ≡ rule.bytes_after (rule.reply (length entry) job) entry
  pub small : Small r exit

-- the program's answer: what it prints stands at the start of the bytes, and what stands past it is as it was
pub record Answered (job entry exit : List ℕ) (r : ℕ) : Type 0 where
  pub small : r ≤ program_listing_bytes
  pub text : take r exit ≡ rule.program job
  pub bytes : exit ≡ rule.program job ++ drop r entry
