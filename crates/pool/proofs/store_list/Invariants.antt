-- The pool is the old one with the first j numbers of the list in their place. Assumes nothing.
use lib.ListN.{length}
use mathlib.Core.Path.{◌≡◌}
use Prim.Native.Nat.{◌≤◌}
use Rattle.pool.specs.ListLaws.{storing}
use Rattle.pool.proofs.store_list.Given as goal

abbrev pub invariant-loop-j : goal.invariant-loop-j
invariant-loop-j l = (l.j ≤ length l.xs) × (length l.pool ≡ length l.initial.pool) × (l.pool ≡ storing l.initial.pool l.at l.xs l.j)
