-- Each field is what its function promises of the counts. Assumes nothing.
use Rattle.rules.specs.Summary.{figures, average}
use Rattle.summary.proofs.summarize.Goals as goal

pub returns : goal.returns
unfolding figures average
returns c = cc (c.average.ensures, c.median.ensures, c.low_counts.ensures, c.thousands.ensures, c.sum-all.ensures)
