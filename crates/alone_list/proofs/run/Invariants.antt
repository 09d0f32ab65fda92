-- `alone_list::run` meets its contract. The invariant says what is still to be run, and that the answers so far are right. Assumes nothing.
use Rattle.alone_list.specs.Requests.{request_size}
use Rattle.alone_list.specs.Running.{Running}
use Rattle.alone.specs.Held.{model}
use Prim.Native.Nat.{◌/◌}
use lib.ListN.{length}
use Rattle.alone_list.proofs.run.Given as goal

abbrev pub invariant-loop-k : goal.invariant-loop-k
invariant-loop-k l = Running l.initial.y.guide.p l.initial.y.guide.v l.initial.y.guide.written (model l.initial.y l.initial.spans l.initial.order)
    l.initial.spans l.initial.order l.initial.tally l.fn.requests l.initial.answers (length l.fn.requests / request_size) l.k l.y l.spans l.order l.tally l.answers
