-- What the host's call promises, by the rules' reply to the job where so many listing bytes are lent (rules, Listing). Assumes nothing.
use Rattle.std.specs.Prelude.{List, ◌≡◌, ℕ, length}
use Rattle.rules.specs.Listing as rule

-- its result, and the listing bytes after it
pub record Called (job entry exit : List ℕ) (r : ℕ) : Type 0 where
  pub result : r ≡ rule.result (rule.reply (length entry) job)
  pub bytes : exit ≡ rule.bytes_after (rule.reply (length entry) job) entry
