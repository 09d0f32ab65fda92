-- The places that the walk has not reached are still raised, and each of them once, so lowering the last of them leaves those before. Assumes nothing.
use mathlib.Core.List.{List}
use lib.ListN.{length}
use Prim.Native.Nat.{ℕ, ◌-◌, ◌≤◌}
use Rattle.ascending_marks.specs.Raised.{Unraised, Raises}
use Rattle.ascending_marks.specs.Raising.{Raising}
use Rattle.ascending_marks.proofs.lower_marks.Given as goal

abbrev pub invariant-loop-x : goal.invariant-loop-x
invariant-loop-x l =
    (length l.yielded ≤ l.n) × ((u : List ℕ) → Unraised u l.outs → Raises u l.outs l.n l.initial.marks → Raising u l.outs (l.n - length l.yielded) l.marks)
