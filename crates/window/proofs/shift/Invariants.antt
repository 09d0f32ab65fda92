-- `window::shift` meets its contract. The invariant: below i the new array has the elements of the old one from its second on. Assumes nothing.
use Rattle.std.proofs.Common.{◌≡◌, ◌≤◌, ◌-◌, take, drop, length}
use Rattle.window.proofs.shift.Given as goal

abbrev pub invariant-loop-i : goal.invariant-loop-i
invariant-loop-i g l = (l.i ≤ 31) × ((length l.r ≡ 32) × (take l.i l.r ≡ take l.i (drop 1 l.a)))

abbrev pub decreases-loop-i : goal.decreases-loop-i
decreases-loop-i g l = 31 - l.i
