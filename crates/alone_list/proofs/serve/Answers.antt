-- `alone_list::serve` meets its contract: each return is one kind of request. Assumes nothing.
use mathlib.Core.Path.{◌≡◌}
use Rattle.alone_list.specs.Requests.{request_at, is_flush}
use Rattle.alone_list.specs.Told.{push_of, push_plain, push_after}
use Rattle.alone_list.proofs.serve.Goals as goal
use Rattle.alone_list.proofs.serve.Goals.{Joined-kind-eq-PUSH, then-kind-eq-PUSH, else-kind-eq-PUSH}

-- the push that is made is the one that the numbers are
asked : (c : Joined-kind-eq-PUSH) → push_of c.args.request c.if-kind-eq-FLUSH.false c.if-kind-eq-PUSH.after ≡ request_at c.args.request 0
asked c =
    elim c.if-kind-eq-PUSH.branch [
      | then-kind-eq-PUSH w ↦ push_plain c.args.request c.if-kind-eq-FLUSH.false w.if-kind-eq-PUSH.true w.after-is
      | else-kind-eq-PUSH w ↦ push_after c.args.request c.if-kind-eq-FLUSH.false w.if-kind-eq-PUSH.false w.after-is
    ]

pub returns-in-Ok : goal.returns-in-Ok
returns-in-Ok c = rw (← is_flush c.args.request 0 c.if-kind-eq-FLUSH.true) c.in-Ok.ensures

pub returns-in-Err : goal.returns-in-Err
returns-in-Err c = rw (← is_flush c.args.request 0 c.if-kind-eq-FLUSH.true) c.in-Err.ensures

pub returns-in-Ok-push : goal.returns-in-Ok-push
returns-in-Ok-push c = rw (← asked (goal.at.returns-in-Ok-push c).Joined-kind-eq-PUSH) c.in-Ok-push.ensures

pub returns-in-Err-push : goal.returns-in-Err-push
returns-in-Err-push c = rw (← asked (goal.at.returns-in-Err-push c).Joined-kind-eq-PUSH) c.in-Err-push.ensures
