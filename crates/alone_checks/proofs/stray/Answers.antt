-- `alone_checks::stray` meets its contract: each return is one case of `stray_by`. Assumes nothing.
use mathlib.Core.Path.{sym, ◌∙◌}
use Prim.Native.Nat.{◌-◌}
use borrow.Author.Tests.{le-leb}
use Rattle.alone_checks.specs.Verdicts.{stray_old, stray_home, stray_beyond, stray_near}
use Rattle.alone_checks.proofs.stray.Goals as goal

pub returns-then-at-first : goal.returns-then-at-first
returns-then-at-first c = let a = c.args in stray_old a.first a.lens a.at.span a.at.pos c.if-at-first.true

pub returns-then-i-ge-SPANS : goal.returns-then-i-ge-SPANS
returns-then-i-ge-SPANS c = let a = c.args in
    le-leb 32 (a.at.span - a.first) c.if-i-ge-SPANS.true ∙ stray_beyond a.first a.lens a.at.span a.at.pos (sym c.not_origin.ensures ∙ c.if-not_origin.true) c.if-at-first.false c.if-i-ge-SPANS.true

pub returns-else-i-ge-SPANS : goal.returns-else-i-ge-SPANS
returns-else-i-ge-SPANS c = let a = c.args in
    stray_near a.first a.lens a.at.span a.at.pos (sym c.not_origin.ensures ∙ c.if-not_origin.true) c.if-at-first.false c.if-i-ge-SPANS.false

pub returns-else-not_origin : goal.returns-else-not_origin
returns-else-not_origin c = let a = c.args in
    c.if-not_origin.false ∙ stray_home a.first a.lens a.at.span a.at.pos (sym c.not_origin.ensures ∙ c.if-not_origin.false)
