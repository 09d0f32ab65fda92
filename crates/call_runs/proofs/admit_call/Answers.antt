-- `call_runs::admit_call` meets its contract: a set has its place and an add both its lists, and that call is admitted.
use Prim.Native.Nat.{◌+◌, ◌≤◌}
use native.Mathlib.Omega.{arith}
use lib.ListN.{length}
use Rattle.admitting.specs.Admitted.{set_asked, set_admitted, add_asked, add_admitted}
use Rattle.call_runs.specs.Making.{set_inside, admits_set, ins_there, outs_there, add_inside, admits_add}
use Rattle.call_runs.proofs.admit_call.Goals as goal
use Rattle.call_runs.proofs.admit_call.Goals.{After-past_list-next}

pub offset_bounds-calls-at : goal.offset_bounds-calls-at
offset_bounds-calls-at c = omega (arith, c.requires.readable.0.inside)

pub bounds-calls-at : goal.bounds-calls-at
bounds-calls-at c = c.requires.readable.0.inside

pub overflow_add-x : goal.overflow_add-x
overflow_add-x c = omega (arith, set_inside c.requires.readable.0 c.if-calls-at-eq-SET.true)

pub offset_bounds-calls-at-then-calls-at-eq-SET : goal.offset_bounds-calls-at-then-calls-at-eq-SET
offset_bounds-calls-at-then-calls-at-eq-SET c = omega (arith, set_inside c.requires.readable.0 c.if-calls-at-eq-SET.true)

pub bounds-calls-at-then-calls-at-eq-SET : goal.bounds-calls-at-then-calls-at-eq-SET
bounds-calls-at-then-calls-at-eq-SET c = set_inside c.requires.readable.0 c.if-calls-at-eq-SET.true

pub admit_set-requires : goal.admit_set-requires
admit_set-requires c = set_asked c.requires.asks_call.asks

pub overflow_add-result : goal.overflow_add-result
overflow_add-result c = omega (arith, set_inside c.requires.readable.0 c.if-calls-at-eq-SET.true)

pub returns-then-calls-at-eq-SET : goal.returns-then-calls-at-eq-SET
returns-then-calls-at-eq-SET c = λ σ q. admits_set c.requires.readable.0 c.if-calls-at-eq-SET.true (set_admitted q c.admit_set.ensures)

pub add_start-d-requires : goal.add_start-d-requires
add_start-d-requires c = (c.requires.readable.0, c.requires.readable.1, c.if-calls-at-eq-SET.false)

pub past_list-middle-requires : goal.past_list-middle-requires
past_list-middle-requires c = ins_there c.requires.readable.0 c.add_start-d.ensures

pub past_list-next-requires : goal.past_list-next-requires
past_list-next-requires c = outs_there c.requires.readable.0 c.add_start-d.ensures _ c.past_list-middle.ensures

-- the two lists lie within the numbers
inside : (c : After-past_list-next) →
    (c.add_start-d.result.lists + 1 ≤ c.past_list-middle.result) × ((c.past_list-middle.result + 1 ≤ c.past_list-next.result) × (c.past_list-next.result ≤ length c.args.calls.now))
inside c = add_inside c.requires.readable.0 c.add_start-d.ensures _ c.past_list-middle.ensures _ c.past_list-next.ensures

pub overflow_add-r : goal.overflow_add-r
overflow_add-r c = omega (arith, inside (goal.at.overflow_add-r c).After-past_list-next)

pub offset_bounds-calls-d : goal.offset_bounds-calls-d
offset_bounds-calls-d c = omega (arith, inside (goal.at.offset_bounds-calls-d c).After-past_list-next)

pub slice_bounds-r-count : goal.slice_bounds-r-count
slice_bounds-r-count c = omega (arith, inside (goal.at.slice_bounds-r-count c).After-past_list-next)

pub slice_bounds-r-start : goal.slice_bounds-r-start
slice_bounds-r-start c = (inside (goal.at.slice_bounds-r-start c).After-past_list-next).0

pub slice_bounds-r-end : goal.slice_bounds-r-end
slice_bounds-r-end c = omega (arith, inside (goal.at.slice_bounds-r-end c).After-past_list-next)

pub overflow_add-r-2 : goal.overflow_add-r-2
overflow_add-r-2 c = omega (arith, inside (goal.at.overflow_add-r-2 c).After-past_list-next)

pub offset_bounds-calls-middle : goal.offset_bounds-calls-middle
offset_bounds-calls-middle c = omega (arith, inside (goal.at.offset_bounds-calls-middle c).After-past_list-next)

pub slice_bounds-r-count-2 : goal.slice_bounds-r-count-2
slice_bounds-r-count-2 c = omega (arith, inside (goal.at.slice_bounds-r-count-2 c).After-past_list-next)

pub slice_bounds-r-start-2 : goal.slice_bounds-r-start-2
slice_bounds-r-start-2 c = (inside (goal.at.slice_bounds-r-start-2 c).After-past_list-next).1.0

pub slice_bounds-r-end-2 : goal.slice_bounds-r-end-2
slice_bounds-r-end-2 c = (inside (goal.at.slice_bounds-r-end-2 c).After-past_list-next).1.1

pub admit_add-requires : goal.admit_add-requires
admit_add-requires c = add_asked c.requires.asks_call.asks

pub returns : goal.returns
returns c = λ σ q. admits_add c.requires.readable.0 c.add_start-d.ensures _ c.past_list-middle.ensures _ c.past_list-next.ensures
    (add_admitted q c.admit_add.ensures)
