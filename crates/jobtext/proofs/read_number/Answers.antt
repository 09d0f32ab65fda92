-- Each way out is one of the cases of `number`. Assumes nothing.
use mathlib.Core.Path.{◌∙◌}
use mathlib.Core.Logic.{inl, inr}
use Rattle.jobtext.specs.Numbers.{no_digit, many_digits, zero_first, other_first}
use Rattle.jobtext.proofs.read_number.Goals as goal

pub returns-then-s-eq0 : goal.returns-then-s-eq0
returns-then-s-eq0 c = no_digit c.args.s.now c.if-s-eq0.true

pub returns-then-s-gt20 : goal.returns-then-s-gt20
returns-then-s-gt20 c = many_digits c.args.s.now c.if-s-gt20.true

pub returns-then-s-eq1 : goal.returns-then-s-eq1
returns-then-s-eq1 c = c.digits.ensures ∙ other_first c.args.s.now c.if-s-eq0.false c.if-s-gt20.false (inl c.if-s-eq1.true)

pub returns-then-s-eq48 : goal.returns-then-s-eq48
returns-then-s-eq48 c = zero_first c.args.s.now c.if-s-eq0.false c.if-s-gt20.false c.if-s-eq1.false c.if-s-eq48.true

pub returns : goal.returns
returns c = c.digits-2.ensures ∙ other_first c.args.s.now c.if-s-eq0.false c.if-s-gt20.false (inr c.if-s-eq48.false)
