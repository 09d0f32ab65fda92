-- How the struct that the code returns stands for document 01's summary, and what is asked of a tally. Definitions only. Assumes nothing.
use Rattle.std.specs.Prelude.{◌≡◌, List, not, ℕ, ◌+◌, ◌≤◌, length, take, T}
use Rattle.std.specs.Float.Ieee.{is_nan}
use Rattle.rules.specs.Limits.{most_parallelism, most_places, low_counts, sums_of_thousands}
use Rattle.rules.specs.Summary.{Figures, sum}
use Rattle.summary.specs.declared.Summary.{Summary}

-- the figures that the struct holds
abbrev pub figured : Summary → Figures
figured s = record { average = s.average; median = s.median; low = s.low; thousands = s.thousands }

-- storage t whose first P + 1 counts are a tally that can be summed up: P is at most 64,999 and the counts' sum at most 2^24
pub record Tallied (t : List ℕ) (P : ℕ) : Type 0 where
  pub stored : P + 1 ≤ length t
  pub most : P ≤ most_parallelism
  pub total : sum (take (P + 1) t) ≤ most_places

-- a summary that can be written as numbers: the average has bits, and the arrays have their lengths
pub record Writable (s : Summary) : Type 0 where
  pub number : T (not (is_nan s.average))
  pub low : length s.low ≡ low_counts
  pub thousands : length s.thousands ≡ sums_of_thousands
