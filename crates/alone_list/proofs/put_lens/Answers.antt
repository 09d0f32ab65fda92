-- `alone_list::put_lens` meets its contract. The invariant: the first i lengths are put. Assumes nothing.
use Rattle.alone_list.specs.Put.{put_more}
use lib.ListN.{length}
use Prim.Native.Nat.{◌<◌}
use native.Mathlib.Omega.{arith}
use Rattle.alone_list.proofs.put_lens.Goals as goal

pub loop-i-preserved : goal.loop-i-preserved
loop-i-preserved c = let a = c.args in
    let l = c.loop-i in
    let h : l.i < length a.lens = omega arith in
    rw c.from.ensures (put_more a.at l.i a.lens a.answers.now l.answers h (omega (arith, c.requires)) l.invariant)
