-- What is left to be turned round, from the places below p, gives the same as the chains of all places from lo to hi. Assumes nothing.
use Prim.Native.Nat.{ℕ, ◌≤◌}
use mathlib.Core.List.{List}
use Rattle.registrar.specs.Loops.{ChainsAt, Going}
use Rattle.registrar.proofs.advance_set.Given as goal

abbrev pub invariant-loop-p : goal.invariant-loop-p
invariant-loop-p l =
    (l.lo ≤ l.p) × ((ch : ℕ → List ℕ) → ChainsAt l.initial.waiting l.v l.lo l.hi ch → Going l.initial.waiting l.v l.lo l.hi 0 ch l.waiting l.p l.top)
