-- What is asked of the counts that are summed up. Assumes nothing.
use Rattle.std.specs.Prelude.{List, ℕ, ◌≤◌, length}
use Rattle.rules.specs.Limits.{most_parallelism, most_places}
use Rattle.rules.specs.Checks.{tally_needed}
use Rattle.rules.specs.Summary.{sum}

-- the most counts of a tally, one for each parallelism from 0 on
abbrev pub most_counts : ℕ
most_counts = tally_needed most_parallelism

-- counts that can be summed up
pub record Small (t : List ℕ) : Type 0 where
  pub few : length t ≤ most_counts
  pub total : sum t ≤ most_places
