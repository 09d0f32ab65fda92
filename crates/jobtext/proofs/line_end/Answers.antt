-- The search goes on at i: past a word without a 10, and past what follows it without one. Assumes nothing.
use Prim.Native.Nat.{◌+◌, ◌≤◌}
use mathlib.Core.Path.{◌≡◌, sym, ap, ◌∙◌}
use lib.ListN.{length, take, drop}
use Rattle.jobtext.specs.Text.{before}
use Rattle.jobtext.specs.Pieces.{goes_on_from, ends_here, past_none}
use native.Mathlib.Omega.{arith}
use Rattle.jobtext.proofs.line_end.Goals as goal
use Rattle.jobtext.proofs.line_end.Goals.{After-newline_in-k}

inside : (c : After-newline_in-k) → c.loop-i.i + 8 ≤ length c.args.s.now
inside c = omega (arith, c.loop-i.invariant.within, c.loop-i-test.true)

-- what the test says is said of the bytes that stand there
says : (c : After-newline_in-k) → c.newline_in-k.result ≡ before 10 (take 8 (drop c.loop-i.i c.args.s.now))
says c = c.newline_in-k.ensures ∙ ap (before 10) c.word_at-w.ensures

pub returns-then-k-lt8 : goal.returns-then-k-lt8
returns-then-k-lt8 c =
    ends_here c.args.s.now c.args.from c.loop-i.i 8 c.loop-i.invariant (inside (goal.at.returns-then-k-lt8 c).After-newline_in-k)
    c.newline_in-k.result (says (goal.at.returns-then-k-lt8 c).After-newline_in-k) c.if-k-lt8.true

pub loop-i-smaller : goal.loop-i-smaller
loop-i-smaller c = let passed = c.pass_pairs-i.ensures.goes_on in
    omega (arith, passed.onward, passed.within)

pub loop-i-preserved : goal.loop-i-preserved
loop-i-preserved c =
    let past = past_none c.args.s.now c.args.from c.loop-i.i 8 c.loop-i.invariant (inside (goal.at.loop-i-preserved c).After-newline_in-k)
    c.newline_in-k.result (says (goal.at.loop-i-preserved c).After-newline_in-k) c.if-k-lt8.false in
    goes_on_from past c.pass_pairs-i.ensures.goes_on

pub returns : goal.returns
returns c = c.find.ensures ∙ sym c.loop-i.invariant.same_end
