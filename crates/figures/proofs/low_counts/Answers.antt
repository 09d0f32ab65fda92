-- The counts that are stored, and zeros after them. Assumes nothing.
use Rattle.std.proofs.Common.{◌++◌, ◌∙◌, ap, drop}
use Rattle.std.specs.Prelude.{replicate}
use Rattle.figures.specs.Loops.{low_copied}
use Rattle.figures.proofs.low_counts.Goals as goal

pub returns : goal.returns
returns c = ap (λ l. l ++ drop c.min-n.result (replicate 128 0)) c.copy_from_slice.ensures.after ∙ low_copied c.args.t.now c.min-n.result c.min-n.ensures
