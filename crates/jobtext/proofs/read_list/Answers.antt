-- The numbers read so far, before those of the fields that are left, are the list. Assumes nothing.
use Rattle.jobtext.specs.Lists.{reading_begins, says_none, end_in, says_bad, not_empty, says_all, reads_on}
use native.Mathlib.Omega.{arith}
use Rattle.jobtext.proofs.read_list.Goals as goal

pub returns-then-s-eq0 : goal.returns-then-s-eq0
returns-then-s-eq0 c = says_none c.args.s.now c.args.into.now c.args.off c.requires c.if-s-eq0.true

pub loop-at-init : goal.loop-at-init
loop-at-init c = reading_begins c.args.s.now c.args.into.now c.args.off c.if-s-eq0.false

pub slice_bounds-read_number-end : goal.slice_bounds-read_number-end
slice_bounds-read_number-end c = end_in c.loop-at.invariant c.requires c.find-e.result c.find-e.ensures

pub returns-in_err-into : goal.returns-in_err-into
returns-in_err-into c = rw c.from_residual.ensures (says_bad c.loop-at.invariant c.requires c.find-e.result c.find-e.ensures c.in_err-into.ensures)

pub returns-then-e-s : goal.returns-then-e-s
returns-then-e-s c = says_all c.loop-at.invariant c.requires c.find-e.result c.find-e.ensures _
    c.in_ok-into.ensures c.if-e-s.true

pub overflow_add-at : goal.overflow_add-at
overflow_add-at c = omega (arith, end_in c.loop-at.invariant c.requires c.find-e.result c.find-e.ensures, c.well_formed.0.0, c.if-e-s.false)

pub loop-at-smaller : goal.loop-at-smaller
loop-at-smaller c = omega (
  arith,
  not_empty c.loop-at.invariant c.requires c.find-e.result c.find-e.ensures _
      c.in_ok-into.ensures,
  end_in c.loop-at.invariant c.requires c.find-e.result c.find-e.ensures,
)

pub loop-at-preserved : goal.loop-at-preserved
loop-at-preserved c = reads_on c.loop-at.invariant c.requires c.find-e.result c.find-e.ensures _
    c.in_ok-into.ensures c.if-e-s.false

pub returns : goal.returns
returns c = absurd (omega (arith, c.loop-at.invariant.inside, c.loop-at-test.false))
