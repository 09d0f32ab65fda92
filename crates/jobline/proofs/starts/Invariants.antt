-- The key and the line from i on agree as the whole ones do. Assumes nothing.
use Rattle.std.proofs.Common.{◌≡◌, drop}
use Rattle.jobline.specs.Lines.{begins}
use Rattle.jobline.proofs.starts.Given as goal

abbrev pub invariant-loop-i : goal.invariant-loop-i
invariant-loop-i l = begins l.key l.s ≡ begins (drop l.i l.key) (drop l.i l.s)
