-- The sum so far is at most 2^24, and with the sum of what remains it makes up the tally's sum. Assumes nothing.
use mathlib.Core.Path.{◌≡◌}
use Prim.Native.Nat.{◌+◌, ◌≤◌}
use lib.ListN.{drop}
use Rattle.rules.specs.Limits.{most_places}
use Rattle.rules.specs.Summary.{sum}
use Rattle.summary.proofs.sum_too_great.Given as goal

abbrev pub invariant-loop-x : goal.invariant-loop-x
invariant-loop-x l = (l.s ≤ most_places) × (l.s + sum (drop l.x-index l.t) ≡ sum l.t)
