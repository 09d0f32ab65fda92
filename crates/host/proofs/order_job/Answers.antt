-- The number of each answer. Assumes nothing.
use native.Mathlib.Omega.{arith}
use Rattle.host.specs.Laws.{called_listed, called_refused}
use Rattle.host.proofs.order_job.Goals as goal

pub overflow_mul-result : goal.overflow_mul-result
overflow_mul-result c = omega (arith, c.in-Ok.ensures.small.1)

pub overflow_mul-result-in-Err : goal.overflow_mul-result-in-Err
overflow_mul-result-in-Err c = omega (arith, c.in-Err.ensures.small)

pub overflow_add-result : goal.overflow_add-result
overflow_add-result c = omega (arith, c.in-Err.ensures.small, c.from.ensures)

pub returns-in-Ok : goal.returns-in-Ok
returns-in-Ok c = called_listed _ c.in-Ok.ensures

pub returns-in-Err : goal.returns-in-Err
returns-in-Err c = rw c.from.ensures (called_refused _ _ c.in-Err.ensures)
