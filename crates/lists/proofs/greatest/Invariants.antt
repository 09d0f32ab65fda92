-- The greatest of m and of the numbers not yet looked at is the greatest of all. Assumes nothing.
use lib.ListN.{length, drop}
use mathlib.Core.Path.{◌≡◌}
use Prim.Native.Nat.{◌≤◌, max}
use Rattle.rules.specs.Model.{greatest}
use Rattle.lists.proofs.greatest.Given as goal

abbrev pub invariant-loop-x : goal.invariant-loop-x
invariant-loop-x l = (l.x-index ≤ length l.xs) × (greatest l.xs ≡ max l.m (greatest (drop l.x-index l.xs)))
