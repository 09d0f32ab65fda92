-- `call_list::run_calls` meets its contract. The invariant: since the first flush or final the calls up to `r.at` are made, and a flush, a
-- final or the end is there; the measure is what is left of the numbers.
use native.Mathlib.Omega.{arith}
use borrow.Author.Rules.{rules}
use Rattle.call_runs.specs.Continuing.{going_on, same_trans}
use Rattle.call_list.specs.Running.{run_may, run_begins, run_ends}
use Rattle.call_list.proofs.run_calls.Goals as goal

pub run_open-r-requires : goal.run_open-r-requires
run_open-r-requires c = run_may c.requires

pub loop-r-init : goal.loop-r-init
loop-r-init c = let x = c.run_open-r.ensures.continues in record { going = run_begins x.onward c.requires; stops = x.stops; same = search rules }

pub run_past-r-requires : goal.run_past-r-requires
run_past-r-requires c = let i = c.loop-r.invariant in
    let h = c.loop-r-test.true in
    record { may = i.going.may; inside = h; tag = i.stops h }

pub loop-r-smaller : goal.loop-r-smaller
loop-r-smaller c = omega (arith, c.run_past-r.ensures.passes.past, c.loop-r-test.true)

pub loop-r-preserved : goal.loop-r-preserved
loop-r-preserved c =
    let i = c.loop-r.invariant in
    let x = c.run_past-r.ensures.passes.continues in
    record { going = going_on i.going x.onward; stops = x.stops; same = same_trans i.same c.run_past-r.ensures.same }

pub returns : goal.returns
returns c = record {
  runs = run_ends c.run_open-r.ensures.continues.onward c.loop-r.invariant.going c.loop-r-test.false;
  same = same_trans c.run_open-r.ensures.same c.loop-r.invariant.same;
}
