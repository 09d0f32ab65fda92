-- The lines of the entries passed are written, and those of the others are left. Assumes nothing.
use Rattle.std.proofs.Common.{◌≡◌}
use Rattle.listing.specs.Lines.{Writing}
use Rattle.listing.proofs.put_entries.Given as goal

abbrev pub invariant-loop-i : goal.invariant-loop-i
invariant-loop-i l = Writing l.order l.rows l.n l.initial.w.at l.i l.initial.w.out.now l.w.out.now l.w.at × (l.w.out.ghost_name ≡ l.initial.w.out.ghost_name)
