-- `ascending_list::run_calls` meets its contract: runs of calls lead from the start to the end, and the measure is what is left of the numbers.
use native.Mathlib.Omega.{arith}
use borrow.Author.Rules.{rules}
use Rattle.ascending_list.specs.Progress.{going_on, same_trans}
use Rattle.ascending_list.specs.Running.{run_begins, run_ends}
use Rattle.ascending_list.proofs.run_calls.Goals as goal

pub loop-r-init : goal.loop-r-init
loop-r-init c = record { leads = λ P N W all σ₀ out₀ R. R; same = search rules }

pub run_past-r-requires : goal.run_past-r-requires
run_past-r-requires c = (going_on (run_begins c.requires) c.loop-r.invariant.leads, c.loop-r-test.true)

pub loop-r-smaller : goal.loop-r-smaller
loop-r-smaller c = omega (arith, c.run_past-r.ensures.at_lt_at, c.loop-r-test.true)

pub loop-r-preserved : goal.loop-r-preserved
loop-r-preserved c =
    let i = c.loop-r.invariant in
    let x = c.run_past-r.ensures in
    record { leads = λ P N W all σ₀ out₀ R. x.leads P N W all σ₀ out₀ (i.leads P N W all σ₀ out₀ R); same = same_trans i.same x.same }

pub returns-clause-runs : goal.returns-clause-runs
returns-clause-runs c = run_ends c.loop-r.invariant.leads c.loop-r-test.false
