-- The search goes on at i. Assumes nothing.
use mathlib.Core.Logic.{inl, inr}
use mathlib.Core.Path.{◌≡◌, sym, ap, ◌∙◌}
use lib.ListN.{take, drop}
use Rattle.rules.specs.Model.{member}
use Rattle.jobtext.specs.Text.{low_bytes}
use Rattle.jobtext.specs.Pieces.{goes_past}
use Rattle.jobtext.specs.Words.{beside}
use native.Mathlib.Omega.{arith}
use Rattle.jobtext.proofs.pass_pairs.Goals as goal
use Rattle.jobtext.proofs.pass_pairs.Goals.{After-either_has_newline}

-- what the test says is said of the bytes that stand there
says : (c : After-either_has_newline) → c.either_has_newline.result ≡ member 10 (take 16 (drop c.loop-i.i c.args.s.now))
says c =
    let v = c.word_at-v in
    let w = c.word_at-w in
    c.either_has_newline.ensures
    ∙ ap (member 10) (beside c.args.s.now c.loop-i.i 8 8 (low_bytes 8 v.result) (low_bytes 8 w.result) v.ensures w.ensures)

pub returns-then-either_has_newline : goal.returns-then-either_has_newline
returns-then-either_has_newline c =
    record { goes_on = c.loop-i.invariant; no_further = inl (sym (says (goal.at.returns-then-either_has_newline c).After-either_has_newline) ∙ c.if-either_has_newline.true) }

pub loop-i-preserved : goal.loop-i-preserved
loop-i-preserved c = goes_past c.args.s.now c.args.from c.loop-i.i 16 c.loop-i.invariant
    (omega (arith, c.loop-i.invariant.within, c.loop-i-test.true)) (sym (says (goal.at.loop-i-preserved c).After-either_has_newline) ∙ c.if-either_has_newline.false)

pub returns : goal.returns
returns c = record { goes_on = c.loop-i.invariant; no_further = inr (omega (arith, c.loop-i.invariant.within, c.loop-i-test.false)) }
