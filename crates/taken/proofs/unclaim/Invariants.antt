-- The places that the walk has not reached are still flagged, none of them was before, so taking the flag of the last of them back leaves those before. Assumes nothing.
use mathlib.Core.Path.{◌≡◌}
use mathlib.Core.List.{List}
use lib.ListN.{length}
use Prim.Native.Nat.{ℕ, ◌-◌, ◌≤◌}
use Rattle.taken.specs.Flags.{Plain, Claiming}
use Rattle.taken.proofs.unclaim.Given as goal

abbrev pub invariant-loop-x : goal.invariant-loop-x
invariant-loop-x l =
    (length l.yielded ≤ l.n) × (length l.waiting ≡ length l.initial.waiting)
    × ((u : List ℕ) → Plain u l.v → Claiming u l.v l.outs l.n l.initial.waiting → Claiming u l.v l.outs (l.n - length l.yielded) l.waiting)
