-- A law for each way out; the storage is what `repeats` left, which is what it was. Assumes nothing.
use Rattle.add_checks.specs.StateChecks.{may_repeat, may_look, again, occupied, all_added, pool_full, state_good}
use mathlib.Core.Path.{◌≡◌, sym, ◌∙◌}
use mathlib.Core.Bool.{false}
use Rattle.rules.specs.Checks.{any, repeats}
use Rattle.taken.specs.Flags.{taken_at}
use Rattle.add_checks.proofs.check_state.Goals as goal
use Rattle.add_checks.proofs.check_state.Goals.{After-repeats, Else-any_taken, Else-repeats}

same : (c : After-repeats) → c.repeats.new.waiting ≡ c.args.waiting.now
same c = c.repeats.ensures.same

single : (c : Else-repeats) → repeats c.args.r.outputs.now ≡ false
single c = sym c.repeats.ensures.answer ∙ c.if-repeats.false

none : (c : Else-any_taken) → any (taken_at c.repeats.new.waiting c.args.at.v) c.args.r.outputs.now ≡ false
none c = sym c.any_taken.ensures ∙ c.if-any_taken.false

pub repeats-requires : goal.repeats-requires
repeats-requires c = may_repeat c.requires

pub returns-then-repeats : goal.returns-then-repeats
returns-then-repeats c = again _ c.requires (same (goal.at.returns-then-repeats c).After-repeats) (sym c.repeats.ensures.answer ∙ c.if-repeats.true)

pub any_taken-requires : goal.any_taken-requires
any_taken-requires c = may_look c.requires (same (goal.at.any_taken-requires c).After-repeats)

pub returns-then-any_taken : goal.returns-then-any_taken
returns-then-any_taken c =
    occupied _ c.requires (same (goal.at.returns-then-any_taken c).After-repeats) (single (goal.at.returns-then-any_taken c).Else-repeats) (sym c.any_taken.ensures ∙ c.if-any_taken.true)

pub returns-then-at : goal.returns-then-at
returns-then-at c =
    all_added _ c.requires (same (goal.at.returns-then-at c).After-repeats) (single (goal.at.returns-then-at c).Else-repeats)
    (none (goal.at.returns-then-at c).Else-any_taken) c.if-at.true

pub returns-then-at-r : goal.returns-then-at-r
returns-then-at-r c =
    pool_full _ c.requires (same (goal.at.returns-then-at-r c).After-repeats) (single (goal.at.returns-then-at-r c).Else-repeats)
    (none (goal.at.returns-then-at-r c).Else-any_taken) c.if-at.false c.if-at-r.true

pub returns : goal.returns
returns c =
    let free : any (taken_at c.repeats.new.waiting c.args.at.v) c.args.r.outputs.now ≡ false = cc in
    state_good _ c.requires (same (goal.at.returns c).After-repeats) (single (goal.at.returns c).Else-repeats) free c.if-at.false c.if-at-r.false
