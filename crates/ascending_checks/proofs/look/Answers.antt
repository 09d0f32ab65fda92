-- A law for each way out; the marks are what `repeats` left, which is what they were. Assumes nothing.
use mathlib.Core.Path.{◌≡◌, refl, sym, ◌∙◌}
use Rattle.std.proofs.Common.{rules}
use Rattle.rules.specs.Answer.{number, number_of, number_of_pos}
use mathlib.Core.Bool.{true, false}
use lib.Dec.{leb}
use Rattle.rules.specs.Checks.{any, repeats}
use Rattle.rules.specs.Ascending.{ascend}
use Rattle.ascending_checks.specs.Ascend.{ascends_is}
use Rattle.ascending_checks.specs.Laws.{may_repeat, lists_fail, again, outs_break, ins_break, all_added, pool_full, number_good}
use Rattle.ascending_checks.proofs.look.Goals as goal
use Rattle.ascending_checks.proofs.look.Goals.{Else-not-ascends, Else-reaches, Else-repeats, then-not-ascends-via-then-not-ascends, then-not-ascends-via-else-not-ascends+then-reaches}

single : (c : Else-repeats) → repeats c.args.r.outputs.now ≡ false
single c = sym c.repeats.ensures.answer ∙ c.if-repeats.false

ascending : (c : Else-not-ascends) → ascend c.args.lowest c.args.r.outputs.now ≡ true
ascending c = sym (ascends_is _ _) ∙ sym c.ascends.ensures ∙ c.if-not-ascends.false

below : (c : Else-reaches) → any (λ i. leb c.args.lowest i) c.args.r.inputs.now ≡ false
below c = sym c.reaches.ensures ∙ c.if-reaches.false

pub returns-in_err-check_lists : goal.returns-in_err-check_lists
returns-in_err-check_lists c =
    let e : number c.from_residual.result ≡ number_of c.in_err-check_lists.field-0.0 = search rules in
    rw e (lists_fail _ c.in_err-check_lists.ensures (number_of_pos c.in_err-check_lists.field-0.0))

pub repeats-requires : goal.repeats-requires
repeats-requires c = may_repeat _ _ _ 0 c.in_ok-check_lists.ensures refl c.requires

pub returns-then-repeats : goal.returns-then-repeats
returns-then-repeats c = again 0 c.in_ok-check_lists.ensures refl c.requires c.repeats.ensures.same (sym c.repeats.ensures.answer ∙ c.if-repeats.true)

pub returns-then-not-ascends : goal.returns-then-not-ascends
returns-then-not-ascends c = elim c.then-not-ascends.branch [
  | then-not-ascends-via-then-not-ascends w ↦ outs_break 0 c.in_ok-check_lists.ensures refl c.requires c.repeats.ensures.same
      (sym c.repeats.ensures.answer ∙ c.if-repeats.false) (sym (ascends_is _ _) ∙ sym c.ascends.ensures ∙ w.if-not-ascends.true)
  | then-not-ascends-via-else-not-ascends+then-reaches w ↦ ins_break 0 c.in_ok-check_lists.ensures refl c.requires c.repeats.ensures.same
      (sym c.repeats.ensures.answer ∙ c.if-repeats.false) (sym (ascends_is _ _) ∙ sym c.ascends.ensures ∙ w.if-not-ascends.false) (sym w.reaches.ensures ∙ w.if-reaches.true)
]

pub returns-then-at : goal.returns-then-at
returns-then-at c =
    all_added 0 c.in_ok-check_lists.ensures refl c.requires c.repeats.ensures.same
    (single (goal.at.returns-then-at c).Else-repeats) (ascending (goal.at.returns-then-at c).Else-not-ascends)
    (below (goal.at.returns-then-at c).Else-reaches) c.if-at.true

pub returns-then-at-r : goal.returns-then-at-r
returns-then-at-r c =
    pool_full 0 c.in_ok-check_lists.ensures refl c.requires c.repeats.ensures.same
    (single (goal.at.returns-then-at-r c).Else-repeats) (ascending (goal.at.returns-then-at-r c).Else-not-ascends)
    (below (goal.at.returns-then-at-r c).Else-reaches)
    c.if-at.false c.if-at-r.true

pub returns : goal.returns
returns c =
    number_good 0 c.in_ok-check_lists.ensures refl c.requires c.repeats.ensures.same (single (goal.at.returns c).Else-repeats)
    (ascending (goal.at.returns c).Else-not-ascends) (below (goal.at.returns c).Else-reaches)
    c.if-at.false c.if-at-r.false
