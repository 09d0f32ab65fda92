-- `reason::order_reason` meets its contract: the number of the session's answer, or of the job's refusal.
use Rattle.std.proofs.Common.{refl}
use native.Mathlib.Omega.{arith}
use Rattle.reason.specs.Telling.{order_stopped, order_refused}
use Rattle.reason.proofs.order_reason.Goals as goal

pub by_number-requires : goal.by_number-requires
by_number-requires c = c.in-Ok.ensures.small

pub overflow_mul-result : goal.overflow_mul-result
overflow_mul-result c = omega (arith, c.in-Err.ensures.small)

pub overflow_add-result : goal.overflow_add-result
overflow_add-result c = omega (arith, c.in-Err.ensures.small, c.from.ensures)

pub returns-in-Ok : goal.returns-in-Ok
returns-in-Ok c = order_stopped c.in-Ok.ensures refl c.by_number.ensures

pub returns-in-Err : goal.returns-in-Err
returns-in-Err c = rw c.from.ensures (order_refused c.in-Err.ensures _ _ refl)
