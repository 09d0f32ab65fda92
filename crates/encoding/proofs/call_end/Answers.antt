-- `encoding::call_end` meets its contract: a law for each tag.
use Rattle.std.proofs.Common.{arith}
use Rattle.encoding.specs.Ends.{call_add, call_alone, call_set, call_set_short, call_lane_add, call_other}
use Rattle.encoding.proofs.call_end.Goals as goal

pub returns-in-2-clause-ends : goal.returns-in-2-clause-ends
returns-in-2-clause-ends c = call_add _ _ c.requires _ c.in-2.is c.add_end.ensures.ends

pub returns-in-1-clause-ends : goal.returns-in-1-clause-ends
returns-in-1-clause-ends c = call_set _ _ c.requires c.in-1.is c.if-at-calls.true

pub returns-in-5-clause-ends : goal.returns-in-5-clause-ends
returns-in-5-clause-ends c = call_lane_add _ _ c.requires _ c.in-5.is c.add_end-in-5.ensures.ends

pub returns-in-3-clause-ends : goal.returns-in-3-clause-ends
returns-in-3-clause-ends c = call_alone _ _ c.requires (omega arith) (omega arith)

pub returns-in_default-clause-ends : goal.returns-in_default-clause-ends
returns-in_default-clause-ends c = call_set_short _ _ c.requires c.in-1.is c.if-at-calls.false

pub returns-in_default-2-clause-ends : goal.returns-in_default-2-clause-ends
returns-in_default-2-clause-ends c = call_other _ _ c.requires (λ e. omega arith) (λ e. omega arith) (λ e. omega arith) (λ e. omega arith) (λ e. omega arith)

pub returns-in_default-3-clause-ends : goal.returns-in_default-3-clause-ends
returns-in_default-3-clause-ends c = call_other _ _ c.requires (λ e. omega arith) (λ e. omega arith) (λ e. omega arith) (λ e. omega arith) (λ e. omega arith)
