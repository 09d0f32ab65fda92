-- `alone_checks::check_push` meets its contract: each return is one way to a verdict. Assumes nothing.
use mathlib.Core.Path.{◌≡◌, refl, sym, ◌∙◌}
use mathlib.Core.Bool.{true, false}
use lib.Dec.{leb}
use Rattle.rules.specs.Limits.{last_span_limit}
use Rattle.window.specs.Location.{has, span_of, pos_of}
use Rattle.alone_checks.specs.Verdicts.{push_full, push_worn, push_stray, push_held, push_absent}
use Rattle.alone_checks.proofs.check_push.Goals as goal
use Rattle.alone_checks.proofs.check_push.Goals.{Else-worn, then-v-pushes-via-then-v-pushes, then-v-pushes-via-else-v-pushes+then-worn}

low : (c : Else-worn) → leb last_span_limit c.args.last ≡ false
low c = sym c.worn.ensures ∙ c.if-worn.false

pub returns-then-v-pushes : goal.returns-then-v-pushes
returns-then-v-pushes c = let a = c.args in elim c.then-v-pushes.branch [
  | then-v-pushes-via-then-v-pushes w ↦ push_full a.last a.first a.lens a.v a.pushes (has a.after) (span_of a.after) (pos_of a.after) w.if-v-pushes.true
  | then-v-pushes-via-else-v-pushes+then-worn w ↦ push_worn a.last a.first a.lens a.v a.pushes (has a.after) (span_of a.after) (pos_of a.after) w.if-v-pushes.false
      (sym w.worn.ensures ∙ w.if-worn.true)
]

pub returns-then-stray : goal.returns-then-stray
returns-then-stray c = let a = c.args in
    let at = c.in-Some.at in
    rw c.in-Some.is
    (push_stray a.last a.first a.lens a.v a.pushes true at.span at.pos c.if-v-pushes.false (low (goal.at.returns-then-stray c).Else-worn) refl (sym c.stray.ensures ∙ c.if-stray.true))

pub returns-else-stray : goal.returns-else-stray
returns-else-stray c = let a = c.args in
    let at = c.in-Some.at in
    rw c.in-Some.is
    (push_held a.last a.first a.lens a.v a.pushes true at.span at.pos c.if-v-pushes.false (low (goal.at.returns-else-stray c).Else-worn) refl (sym c.stray.ensures ∙ c.if-stray.false))

pub returns-in_default : goal.returns-in_default
returns-in_default c = let a = c.args in
    rw c.in_default.is (push_absent a.last a.first a.lens a.v a.pushes false 0 0 c.if-v-pushes.false (low (goal.at.returns-in_default c).Else-worn) refl)
