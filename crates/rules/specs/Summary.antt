-- Document 01, "Summary, job and listing": what final gives of the tally (the Rust's GuideStats::finalize). Assumes nothing.
use Rattle.std.specs.Prelude.{List, [], ◌∷◌, true, false, ℕ, zero, suc, ◌+◌, ◌*◌, take, drop, get_or, leb, Float}
use Rattle.std.specs.Float.{binary32}
use Rattle.std.specs.Float.Ieee.{round}
use Rattle.rules.specs.Limits.{average_divisor, low_counts, sums_of_thousands}

unfoldable pub sum : List ℕ → ℕ
sum [] = 0
sum (n ∷ t) = n + sum t

-- the tally's sum divided by 65,000 and rounded once, in binary32
unfoldable pub average : List ℕ → Float
average t = round binary32 false (sum t) average_divisor

-- the first p from `at` on with twice the running sum at least the sum `all`, so far being the running sum before it; 0 past the end
unfoldable pub median_from : ℕ → ℕ → ℕ → List ℕ → ℕ
median_from all at so_far [] = 0
median_from all at so_far (n ∷ t) = elim (leb all (2 * (so_far + n))) [ true ↦ at | false ↦ median_from all (suc at) (so_far + n) t ]

unfoldable pub median : List ℕ → ℕ
median t = median_from (sum t) 0 0 t

-- n counts from `at` on, unstored ones being 0
unfoldable pub counts : ℕ → ℕ → List ℕ → List ℕ
counts zero at t = []
counts (suc n) at t = get_or t at 0 ∷ counts n (suc at) t

-- n sums of a thousand counts each, from the `at`-th thousand on
unfoldable pub thousands : ℕ → ℕ → List ℕ → List ℕ
thousands zero at t = []
thousands (suc n) at t = sum (take 1000 (drop (1000 * at) t)) ∷ thousands n (suc at) t

pub record Figures : Type 0 where
  pub average : Float
  pub median : ℕ
  pub low : List ℕ
  pub thousands : List ℕ

-- the average, the median, the counts for 0 to 127 and 65 sums of thousands
unfoldable pub figures : List ℕ → Figures
figures t = record { average = average t; median = median t; low = counts low_counts 0 t; thousands = thousands sums_of_thousands 0 t }
