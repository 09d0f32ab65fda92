-- Of the numbers not yet looked at one is at least the bound exactly where one of all is. Assumes nothing.
use lib.Dec.{leb}
use lib.ListN.{length, drop}
use mathlib.Core.Path.{◌≡◌}
use Prim.Native.Nat.{◌≤◌}
use Rattle.rules.specs.Checks.{any}
use Rattle.lists.proofs.any_at_least.Given as goal

abbrev pub invariant-loop-x : goal.invariant-loop-x
invariant-loop-x l = (l.x-index ≤ length l.xs) × (any (λ x. leb l.bound x) l.xs ≡ any (λ x. leb l.bound x) (drop l.x-index l.xs))
