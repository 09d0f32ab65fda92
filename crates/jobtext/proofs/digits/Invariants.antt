-- What is left, read with the value so far, tells the same number. Assumes nothing.
use Prim.Native.Nat.{◌<◌, ◌^◌}
use mathlib.Core.Path.{◌≡◌}
use lib.ListN.{drop}
use Rattle.rules.specs.Job.{digits_from, in_64_bits}
use Rattle.jobtext.proofs.digits.Given as goal

abbrev pub invariant-loop-b : goal.invariant-loop-b
invariant-loop-b l = (l.x < 2 ^ 64) × (in_64_bits (digits_from l.x (drop l.b-index l.s)) ≡ in_64_bits (digits_from 0 l.s))
