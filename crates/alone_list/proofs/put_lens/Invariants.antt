-- `alone_list::put_lens` meets its contract. The invariant: the first i lengths are put. Assumes nothing.
use Rattle.alone_list.specs.Put.{Put}
use lib.ListN.{take}
use Rattle.alone_list.proofs.put_lens.Given as goal

abbrev pub invariant-loop-i : goal.invariant-loop-i
invariant-loop-i l = Put l.at (take l.i l.n-items) l.initial.answers l.answers
