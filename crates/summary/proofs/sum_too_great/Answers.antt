-- The sum so far is at most 2^24, and with the sum of what remains it makes up the tally's sum. Assumes nothing.
use mathlib.Core.Path.{sym}
use native.Mathlib.Omega.{arith}
use borrow.Author.Tests.{lt-ltb, le-ltb}
use Rattle.figures.specs.Loops.{sum_more, sum_ends}
use Rattle.rules.specs.Limits.{most_places}
use Rattle.rules.specs.Summary.{sum}
use Rattle.summary.proofs.sum_too_great.Goals as goal

pub returns-then-s-x : goal.returns-then-s-x
returns-then-s-x c = let t = c.args.t.now in
    let m = sum_more t c.loop-x.x-index (omega arith) in
    sym (lt-ltb most_places (sum t) (omega arith))

pub loop-x-preserved : goal.loop-x-preserved
loop-x-preserved c = let m = sum_more c.args.t.now c.loop-x.x-index (omega arith) in
    (omega arith, omega arith)

pub returns : goal.returns
returns c = let t = c.args.t.now in
    let e = sum_ends t c.loop-x.x-index (omega arith) in
    sym (le-ltb most_places (sum t) (omega arith))
