-- What is left, read with the value so far, tells the same number. Assumes nothing.
use Rattle.std.proofs.Common.{slice_index_or, length, ◌≡◌, ◌+◌, ◌*◌, ◌-◌, ◌<◌, ap, ◌∙◌, arith}
use Rattle.jobtext.specs.Text.{value_of}
use Rattle.jobtext.specs.Numbers.{other_byte, too_large, one_more, all_read}
use Rattle.jobtext.proofs.digits.Goals as goal
use Rattle.jobtext.proofs.digits.Goals.{In-loop-b, In_ok-x}

inside : (c : In-loop-b) → c.loop-b.b-index < length c.args.s.now
inside c = omega (arith, c.loop-b-test.true)

value : (c : In_ok-x) → c.in_ok-x.x ≡ c.loop-b.x * 10 + (slice_index_or c.args.s.now c.loop-b.b-index 0 - 48)
value c = omega (arith, c.in_ok-x.ensures, c.in_ok-checked_mul.ensures)

pub returns-then-not-is_ascii_digit : goal.returns-then-not-is_ascii_digit
returns-then-not-is_ascii_digit c =
    other_byte _ c.loop-b.b-index c.loop-b.x (inside (goal.at.returns-then-not-is_ascii_digit c).In-loop-b) c.loop-b.invariant.1 c.if-not-is_ascii_digit.ensures.cases

pub returns-in_err-checked_mul : goal.returns-in_err-checked_mul
returns-in_err-checked_mul c = let digit = c.if-not-is_ascii_digit.ensures.cases in
    ap value_of c.from_residual.ensures
    ∙ too_large _ c.loop-b.b-index c.loop-b.x (inside (goal.at.returns-in_err-checked_mul c).In-loop-b) c.loop-b.invariant.1 digit.0 digit.1
    (omega (arith, c.in_err-checked_mul.ensures))

pub returns-in_err-x : goal.returns-in_err-x
returns-in_err-x c = let digit = c.if-not-is_ascii_digit.ensures.cases in
    ap value_of c.from_residual-in_err-x.ensures
    ∙ too_large _ c.loop-b.b-index c.loop-b.x (inside (goal.at.returns-in_err-x c).In-loop-b) c.loop-b.invariant.1 digit.0 digit.1
    (omega (arith, c.in_err-x.ensures, c.in_ok-checked_mul.ensures))

pub loop-b-preserved : goal.loop-b-preserved
loop-b-preserved c = let digit = c.if-not-is_ascii_digit.ensures.cases in (
  omega (arith, c.in_ok-x.ensures),
  rw (value (goal.at.loop-b-preserved c).In_ok-x)
      (one_more _ c.loop-b.b-index c.loop-b.x (inside (goal.at.loop-b-preserved c).In-loop-b) c.loop-b.invariant.1 digit.0 digit.1),
)

pub returns : goal.returns
returns c = all_read _ c.loop-b.b-index _ (omega (arith, c.loop-b-test.false)) c.loop-b.invariant.0 c.loop-b.invariant.1
