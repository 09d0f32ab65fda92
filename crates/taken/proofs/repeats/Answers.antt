-- A list of fewer than two repeats nothing. Of a longer one, what was raised is lowered, and places were left over exactly where they repeat. Assumes nothing.
use mathlib.Core.Path.{refl, sym}
use Rattle.taken.specs.Repeats.{repeats_few}
use Rattle.taken.proofs.repeats.Goals as goal

pub returns-then-outs-lt2 : goal.returns-then-outs-lt2
returns-then-outs-lt2 c = record { answer = sym (repeats_few _ c.if-outs-lt2.true); same = refl }
