-- Each way out is what its call counts for. Assumes nothing.
use native.Mathlib.Omega.{arith}
use Rattle.jobneeds.specs.Laws.{counts_set, lists_fit, counts_add, counts_flush}
use Rattle.jobneeds.proofs.count.Goals as goal

pub overflow_add-numbers : goal.overflow_add-numbers
overflow_add-numbers c = omega (arith, lists_fit c.args.c _ _ _ c.in-Add.is c.requires)

pub overflow_add-result-in-Add : goal.overflow_add-result-in-Add
overflow_add-result-in-Add c = omega (arith, lists_fit c.args.c _ _ _ c.in-Add.is c.requires)

pub returns-in-Set : goal.returns-in-Set
returns-in-Set c = counts_set c.args.c _ c.in-Set.is

pub returns-in-Add : goal.returns-in-Add
returns-in-Add c = counts_add c.args.c _ _ _ c.in-Add.is

pub returns-in-Flush : goal.returns-in-Flush
returns-in-Flush c = counts_flush c.args.c c.in-Flush.is
