-- The places that the walk has not reached are still raised, and each of them once, so lowering the last of them leaves those before. Assumes nothing.
use mathlib.Core.Path.{◌≡◌}
use mathlib.Core.List.{List}
use lib.ListN.{length}
use Prim.Native.Nat.{ℕ, ◌-◌, ◌≤◌}
use Rattle.taken.specs.Flags.{Flagged, Raises}
use Rattle.taken.specs.Raising.{Raising}
use Rattle.taken.proofs.lower_flags.Given as goal

abbrev pub invariant-loop-x : goal.invariant-loop-x
invariant-loop-x l =
    (length l.yielded ≤ l.n) × (length l.waiting ≡ length l.initial.waiting)
    × ((u : List ℕ) → Flagged u l.v l.outs → Raises u l.v l.outs l.n l.initial.waiting → Raising u l.v l.outs (l.n - length l.yielded) l.waiting)
