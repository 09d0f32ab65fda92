-- What remains to be done keeps the answer: the greatest of `m` and of the locations of the places not yet looked at. Assumes nothing.
use lib.ListN.{get_or}
use Prim.Native.Nat.{◌+◌, max}
use mathlib.Core.Path.{sym, ap, ◌∙◌}
use native.Mathlib.Omega.{arith}
use Rattle.lists.specs.Part.{range_at}
use Rattle.tracking.specs.Loops.{to_peak, peak_turn, peak_ends}
use Rattle.tracking.proofs.top_loc.Goals as goal

pub loop-x-preserved : goal.loop-x-preserved
loop-x-preserved c = let a = c.args in
    let l = c.loop-x in
    let e = c.max-m.ensures ∙ ap (λ x. max l.m (get_or a.locations.now x 0)) (range_at a.pool.now a.at a.n l.x-index (omega arith)) in (
      omega arith,
      l.invariant.1 ∙ peak_turn a.pool.now a.at a.n c.requires.inside a.locations.now l.m l.x-index (omega arith)
          ∙ ap (λ x. to_peak a.pool.now a.at a.n a.locations.now x (l.x-index + 1)) (sym e),
    )

pub returns : goal.returns
returns c = let a = c.args in
    let l = c.loop-x in
    sym (l.invariant.1 ∙ peak_ends a.pool.now a.at a.n c.requires.inside a.locations.now l.m l.x-index (omega arith))
