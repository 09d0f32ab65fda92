-- A law for each way out. Assumes nothing.
use mathlib.Core.Path.{◌≡◌, sym, ◌∙◌}
use mathlib.Core.Bool.{false}
use Rattle.add_checks.specs.ListChecks.{many, lists_closed, lists_lane, lists_many, outside, inside}
use Rattle.add_checks.proofs.check_lists.Goals as goal
use Rattle.add_checks.proofs.check_lists.Goals.{Else-too_many}

few : (c : Else-too_many) → many c.args.r.inputs.now c.args.r.outputs.now ≡ false
few c = sym c.too_many.ensures ∙ c.if-too_many.false

pub returns-then-closed : goal.returns-then-closed
returns-then-closed c = lists_closed _ _ _ _ c.if-closed.true

pub returns-then-r-gt-MOST_LANE : goal.returns-then-r-gt-MOST_LANE
returns-then-r-gt-MOST_LANE c = lists_lane _ _ _ _ c.if-closed.false c.if-r-gt-MOST_LANE.true

pub returns-then-too_many : goal.returns-then-too_many
returns-then-too_many c = lists_many _ _ _ _ c.if-closed.false c.if-r-gt-MOST_LANE.false (sym c.too_many.ensures ∙ c.if-too_many.true)

pub returns-then-any_at_least : goal.returns-then-any_at_least
returns-then-any_at_least c =
    outside _ _ _ _ c.if-closed.false c.if-r-gt-MOST_LANE.false (few (goal.at.returns-then-any_at_least c).Else-too_many)
    (sym c.any_at_least.ensures ∙ c.if-any_at_least.true) _ c.place_refusal.ensures

pub returns : goal.returns
returns c = inside _ _ _ _ c.if-closed.false c.if-r-gt-MOST_LANE.false (few (goal.at.returns c).Else-too_many) (sym c.any_at_least.ensures ∙ c.if-any_at_least.false) c.requires
