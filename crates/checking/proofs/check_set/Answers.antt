-- A law for each way out. Assumes nothing.
use Rattle.checking.specs.Laws.{set_closed, set_flagged, set_unknown, set_taken, set_free}
use mathlib.Core.Path.{◌≡◌, sym, ◌∙◌}
use mathlib.Core.Bool.{false}
use Rattle.taken.specs.Flags.{taken_at}
use Rattle.checking.proofs.check_set.Goals as goal

pub returns-then-closed : goal.returns-then-closed
returns-then-closed c = set_closed c.if-closed.true

pub returns-then-x-ge-LEAST_FLAGGED : goal.returns-then-x-ge-LEAST_FLAGGED
returns-then-x-ge-LEAST_FLAGGED c = set_flagged c.if-closed.false c.if-x-ge-LEAST_FLAGGED.true

pub returns-then-v-x : goal.returns-then-v-x
returns-then-v-x c = set_unknown c.if-closed.false c.if-x-ge-LEAST_FLAGGED.false c.if-v-x.true

pub returns-then-is_taken : goal.returns-then-is_taken
returns-then-is_taken c = set_taken c.if-closed.false c.if-x-ge-LEAST_FLAGGED.false c.if-v-x.false (sym c.is_taken.ensures ∙ c.if-is_taken.true)

pub returns : goal.returns
returns c = let free : taken_at c.args.waiting.now c.args.v c.args.x ≡ false = cc in
    set_free c.if-closed.false c.if-x-ge-LEAST_FLAGGED.false c.if-v-x.false free
