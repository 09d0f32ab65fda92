-- The sum is the definition's. Assumes nothing.
use mathlib.Core.Path.{refl}
use Rattle.rules.specs.Needs.{most_spans}
use Rattle.jobneeds.proofs.most_spans.Goals as goal

pub returns : goal.returns
unfolding most_spans
returns c = refl
