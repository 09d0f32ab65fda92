-- The calls that were read have been counted, and what remains of the job is read as at the start. Assumes nothing.
use mathlib.Core.Path.{◌≡◌}
use Prim.Native.Nat.{◌-◌}
use lib.ListN.{length}
use Rattle.jobneeds.specs.Laws.{Counting}
use Rattle.jobneeds.proofs.read_calls.Given as goal

abbrev pub invariant-loop-call : goal.invariant-loop-call
invariant-loop-call l = (length l.into ≡ length l.initial.into) × Counting l.job l.start l.at l.line l.needs

abbrev pub decreases-loop-call : goal.decreases-loop-call
decreases-loop-call l = length l.job - l.at
