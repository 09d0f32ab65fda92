-- `reason::by_number` meets its contract: a number for each case.
use native.Mathlib.Omega.{arith}
use mathlib.Core.Path.{ap, ◌∙◌}
use Rattle.explaining.specs.Explaining.{told}
use Rattle.reason.specs.Telling.{small_as, number_waits, number_refused}
use Rattle.reason.proofs.by_number.Goals as goal

pub overflow_mul-result : goal.overflow_mul-result
overflow_mul-result c = omega (arith, small_as c.requires (ap told c.in-Ok.is))

pub overflow_add-result : goal.overflow_add-result
overflow_add-result c = omega (arith, small_as c.requires (ap told c.in-Ok.is))

pub overflow_mul-result-in-Ok : goal.overflow_mul-result-in-Ok
overflow_mul-result-in-Ok c = omega (arith, small_as c.requires (ap told c.in-Ok.is))

pub returns-in-Ok : goal.returns-in-Ok
returns-in-Ok c = number_waits (ap told c.in-Ok.is)

pub returns-in-Err : goal.returns-in-Err
returns-in-Err c = c.into.ensures ∙ number_refused (ap told c.in-Err.is)
