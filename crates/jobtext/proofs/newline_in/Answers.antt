-- The lowest mark stands at the first 10. Assumes nothing.
use mathlib.Core.Path.{ap, ◌∙◌}
use Prim.Native.Nat.{ℕ, ◌/◌}
use native.Mathlib.Omega.{arith}
use lib.Count.{count_trailing_zeros, trailing_le}
use Rattle.jobtext.specs.Words.{word_first}
use Rattle.jobtext.proofs.newline_in.Goals as goal

pub overflow_cast-result : goal.overflow_cast-result
overflow_cast-result c = omega (arith, trailing_le 64 c.newlines-m.result)

pub returns : goal.returns
returns c = ap (λ (m : ℕ). count_trailing_zeros 64 m / 8) c.newlines-m.ensures ∙ word_first c.args.w
