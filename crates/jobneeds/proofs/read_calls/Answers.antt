-- The calls that were read have been counted, and what remains of the job is read as at the start. Assumes nothing.
use Rattle.std.proofs.Common.{rules, ◌≡◌, refl, ap, ◌∙◌}
use Rattle.std.specs.Prelude.{Result, Ok, Err}
use Rattle.jobcalls.specs.declared.Next.{Next}
use Rattle.jobcalls.specs.Next.{Next as Called, told_next}
use native.Mathlib.Omega.{arith}
use Rattle.jobcalls.specs.Laws.{read_as}
use Rattle.jobneeds.specs.Laws.{counting_begins, line_after, may_count, falls, counts_on, reads_all, reads_surplus, reads_malformed}
use Rattle.jobcalls.specs.declared.Rejection.{Rejection}
use Rattle.jobcalls.specs.Rejections.{rejection_of}
use Rattle.jobneeds.specs.declared.Needs.{Needs}
use Rattle.jobneeds.specs.Told.{reading_as}
use Rattle.jobneeds.proofs.read_calls.Goals as goal

abbrev found : Next → Called
found x = told_next (Ok x)

pub loop-call-init : goal.loop-call-init
loop-call-init c = (refl, counting_begins c.requires)

pub next_call-requires : goal.next_call-requires
next_call-requires c = let pre = c.requires in
    let counting = c.loop-call.invariant.1 in
    (counting.inside, (omega (arith, pre.room_is, pre.short, c.loop-call.invariant.0), omega (arith, counting.low, counting.inside, pre.short)))

pub count-needs-requires : goal.count-needs-requires
count-needs-requires c = may_count c.requires c.loop-call.invariant.1 _ _ _ (read_as c.in_ok-call.ensures (ap found c.in-Call.is)) (c.next_call.auto.into ∙ c.loop-call.invariant.0)

pub overflow_add-line : goal.overflow_add-line
overflow_add-line c = omega (arith, line_after c.requires c.loop-call.invariant.1 (read_as c.in_ok-call.ensures (ap found c.in-Call.is)))

pub loop-call-smaller : goal.loop-call-smaller
loop-call-smaller c = omega (arith, falls c.requires c.loop-call.invariant.1 _ _ _ (read_as c.in_ok-call.ensures (ap found c.in-Call.is)) (c.next_call.auto.into ∙ c.loop-call.invariant.0))

pub loop-call-preserved : goal.loop-call-preserved
loop-call-preserved c = let same = c.next_call.auto.into ∙ c.loop-call.invariant.0 in
    (same, counts_on c.requires c.loop-call.invariant.1 _ _ _ (read_as c.in_ok-call.ensures (ap found c.in-Call.is)) same c.count-needs.ensures)

pub returns-then-next-job : goal.returns-then-next-job
returns-then-next-job c = reads_all c.requires c.loop-call.invariant.1 _ _ (read_as c.in_ok-call.ensures (ap found c.in-Final.is)) c.if-next-job.true

pub overflow_add-result : goal.overflow_add-result
overflow_add-result c = omega (arith, line_after c.requires c.loop-call.invariant.1 (read_as c.in_ok-call.ensures (ap found c.in-Final.is)))

pub returns-in-Final : goal.returns-in-Final
returns-in-Final c = reads_surplus c.requires c.loop-call.invariant.1 _ _ (read_as c.in_ok-call.ensures (ap found c.in-Final.is)) c.if-next-job.false

pub returns-in_err-call : goal.returns-in_err-call
returns-in_err-call c =
    let e : ◌≡◌ {A = Result Needs Rejection} c.from_residual.result (Err (rejection_of c.in_err-call.field-0.0)) = search rules in
    ap reading_as e ∙ reads_malformed c.requires c.loop-call.invariant.1 _ c.in_err-call.ensures
