-- The sum in std's word and then in the definition's; it fits, being at most 2^24. Assumes nothing.
use Rattle.std.proofs.Common.{◌∙◌, arith}
use Rattle.std.proofs.lemmas.Iterator.{YieldsList-from_slice}
use Rattle.std.proofs.lemmas.Iterator.Consumers.{sum_from_yields_List, fits_from_yields_list}
use Rattle.figures.specs.Loops.{sum_is}
use Rattle.figures.proofs.sum.Goals as goal

pub sum-requires-clause-fits : goal.sum-requires-clause-fits
sum-requires-clause-fits c = let t = c.args.t.now in
    fits_from_yields_list c.iter.result _ (YieldsList-from_slice t cc) (omega (arith, sum_is t, c.requires.total))

pub returns : goal.returns
returns c = let t = c.args.t.now in
    sum_from_yields_List c.iter.result _ c.sum.ensures.ran (YieldsList-from_slice t cc) ∙ sum_is t
