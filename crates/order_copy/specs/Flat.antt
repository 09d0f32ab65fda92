-- An entry of the flat order as a struct. Definitions only. Assumes nothing.
use Rattle.std.specs.Prelude.{List, ℕ, ◌≤◌}
use Rattle.rules.specs.Limits.{most_lane}
use Rattle.entries.specs.declared.Entry.{Entry}
use Rattle.entries.specs.Entries.{has_entry, entry_at}
use Rattle.order_copy.specs.declared.OrderInfo.{OrderInfo}

-- a flat entry as a struct
abbrev pub info : Entry → OrderInfo
info e = record { value = e.value; added = e.added; accepted = e.accepted; parallelism = e.parallelism; lane = e.lane }

-- entry k of the flat order, and its lane
abbrev pub entry_of : List ℕ → ℕ → OrderInfo
entry_of f k = info (entry_at f k)

abbrev pub lane_of : List ℕ → ℕ → ℕ
lane_of f k = (entry_at f k).lane

-- entry k is there, and its lane has 8 bits
pub record Readable (f : List ℕ) (k : ℕ) : Type 0 where
  pub stored : has_entry f k
  pub narrow : lane_of f k ≤ most_lane
