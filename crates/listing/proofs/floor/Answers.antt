-- The entries that count are the first n + 1 - p: all of them, none, or all but the last p - 1. Assumes nothing.
use Prim.Native.Nat.{◌+◌, ◌-◌}
use native.Mathlib.Omega.{arith}
use Rattle.listing.specs.Floor.{floor_entries, floor_of_none}
use Rattle.listing.proofs.floor.Goals as goal

pub returns-then-p-eq0 : goal.returns-then-p-eq0
returns-then-p-eq0 c = let a = c.args in
    floor_entries _ a.n a.p a.n _ c.least.ensures (omega (arith, c.if-p-eq0.true))

pub returns-then-n-p : goal.returns-then-n-p
returns-then-n-p c = let a = c.args in floor_of_none _ a.n a.p (omega (arith, c.if-n-p.true))

pub returns : goal.returns
returns c = let a = c.args in
    floor_entries _ a.n a.p (a.n - a.p + 1) _ c.least-2.ensures (omega (arith, c.if-n-p.false, c.if-p-eq0.false))
