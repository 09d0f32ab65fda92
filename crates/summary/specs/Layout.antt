-- The summary of a tally as a host finds it in lent numbers, and when it is refused. Definitions only. Assumes nothing.
use Rattle.std.specs.Prelude.{List, [], ◌∷◌, ◌++◌, ◌||◌, ℕ, zero, suc, length, drop, ltb}
use Rattle.std.specs.Float.{binary32}
use Rattle.std.specs.Float.Ieee.{to_bits}
use Rattle.rules.specs.Limits.{most_places}
use Rattle.rules.specs.Refusals as refusal
use Rattle.rules.specs.Checks.{Check, verdict}
use Rattle.rules.specs.Summary.{Figures, sum, figures}
use Rattle.figures.specs.Small.{most_counts}

-- 195 numbers: the average's 32 bits, the median, the counts for 0 to 127, and 65 sums of thousands
abbrev pub summary_size : ℕ
summary_size = 195

unfoldable pub summary_numbers : Figures → List ℕ
summary_numbers f = to_bits binary32 f.average ∷ f.median ∷ (f.low ++ f.thousands)

-- 1: a tally longer than 65,000 counts, or a sum above 2^24, the greatest count of registrations
unfoldable pub check_tally : List ℕ → Check
check_tally t = record { fails = ltb most_counts (length t) || ltb most_places (sum t); number = refusal.out_of_range }

-- 1; then 2: fewer than 195 numbers lent; or 0
unfoldable pub summary_number : List ℕ → ℕ → ℕ
summary_number t count = verdict (check_tally t ∷ (record { fails = ltb count summary_size; number = refusal.too_short } ∷ []))

-- the lent numbers after a call with this number: the summary of the tally and what lies past it; refused, as they were
unfoldable pub summary_after : ℕ → List ℕ → List ℕ → List ℕ
summary_after zero t before = summary_numbers (figures t) ++ drop summary_size before
summary_after (suc n) t before = before
