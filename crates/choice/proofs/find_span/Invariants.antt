-- `choice::find_span` meets its contract. The invariant: the search from `from` is the search from i, and nothing is found yet. Assumes nothing.
use mathlib.Core.Path.{◌≡◌}
use Prim.Native.Nat.{◌≤◌, ◌-◌}
use Rattle.choice.specs.declared.MatchedSpan.TheVariants.{New}
use Rattle.choice.specs.Search.{matched}
use Rattle.choice.proofs.find_span.Given as goal

abbrev pub invariant-loop-i : goal.invariant-loop-i
invariant-loop-i l = (l.i ≤ 32) × ((l.r ≡ New 1) × (matched l.lens l.from l.p ≡ matched l.lens l.i l.p))

abbrev pub decreases-loop-i : goal.decreases-loop-i
decreases-loop-i l = 32 - l.i
