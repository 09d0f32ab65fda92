-- A law for each way out. Assumes nothing.
use mathlib.Core.Path.{sym, ◌∙◌}
use Rattle.summary.specs.Writing.{too_long, too_great, too_few, fine}
use Rattle.summary.proofs.check_summary.Goals as goal

pub returns-then-tally-gt-COUNTS : goal.returns-then-tally-gt-COUNTS
returns-then-tally-gt-COUNTS c = too_long _ _ c.if-tally-gt-COUNTS.true

pub returns-then-sum_too_great : goal.returns-then-sum_too_great
returns-then-sum_too_great c = too_great _ _ c.if-tally-gt-COUNTS.false (sym c.if-sum_too_great.true ∙ c.sum_too_great.ensures)

pub returns-then-count-lt-SIZE : goal.returns-then-count-lt-SIZE
returns-then-count-lt-SIZE c = too_few _ _ c.if-tally-gt-COUNTS.false (sym c.if-sum_too_great.false ∙ c.sum_too_great.ensures) c.if-count-lt-SIZE.true

pub returns : goal.returns
returns c = fine _ _ c.if-tally-gt-COUNTS.false (sym c.if-sum_too_great.false ∙ c.sum_too_great.ensures) c.if-count-lt-SIZE.false
