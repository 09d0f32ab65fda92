-- `alone_checks::check_open` meets its contract: each return is one way to a verdict. Assumes nothing.
use mathlib.Core.Path.{◌≡◌, sym, ◌∙◌}
use mathlib.Core.Bool.{false, ◌||◌}
use lib.Dec.{ltb}
use Rattle.rules.specs.Limits.{most_parallelism, most_places}
use Rattle.alone_checks.specs.Verdicts.{within, short_is, open_p, open_v, open_short, open_good}
use Rattle.alone_checks.proofs.check_open.Goals as goal
use Rattle.alone_checks.proofs.check_open.Goals.{Else-outside, Else-outside-2, then-outside-via-then-outside, then-outside-via-else-outside+then-outside-2}

-- p is in range, and so is v
good-p : (c : Else-outside) → (ltb c.args.p 1 || ltb most_parallelism c.args.p) ≡ false
good-p c = sym c.outside.ensures ∙ c.if-outside.false

good-v : (c : Else-outside-2) → (ltb c.args.v 1 || ltb most_places c.args.v) ≡ false
good-v c = sym c.outside-else-outside.ensures ∙ c.if-outside-2.false

pub returns-then-outside : goal.returns-then-outside
returns-then-outside c = let a = c.args in elim c.then-outside.branch [
  | then-outside-via-then-outside w ↦ open_p a.p a.v a.spans a.order a.tally (sym c.outside.ensures ∙ w.if-outside.true)
  | then-outside-via-else-outside+then-outside-2 w ↦ open_v a.p a.v a.spans a.order a.tally (sym c.outside.ensures ∙ w.if-outside.false) (sym w.outside-else-outside.ensures ∙ w.if-outside-2.true)
]

pub short-requires : goal.short-requires
short-requires c = within c.args.p most_parallelism (good-p (goal.at.short-requires c).Else-outside)

pub returns-then-short : goal.returns-then-short
returns-then-short c = let a = c.args in
    open_short a.p a.v a.spans a.order a.tally (good-p (goal.at.returns-then-short c).Else-outside) (good-v (goal.at.returns-then-short c).Else-outside-2)
    (sym (short_is a.p a.v a.spans a.order a.tally) ∙ sym c.short.ensures ∙ c.if-short.true)

pub returns : goal.returns
returns c = let a = c.args in
    open_good a.p a.v a.spans a.order a.tally (good-p (goal.at.returns c).Else-outside) (good-v (goal.at.returns c).Else-outside-2)
    (sym (short_is a.p a.v a.spans a.order a.tally) ∙ sym c.short.ensures ∙ c.if-short.false)
