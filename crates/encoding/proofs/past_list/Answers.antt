-- `encoding::past_list` meets its contract: the list that is there lies inside.
use Rattle.std.proofs.Common.{refl, arith}
use Rattle.encoding.specs.Ends.{list_there, list_whole}
use Rattle.encoding.proofs.past_list.Goals as goal

pub overflow_add-result : goal.overflow_add-result
overflow_add-result c = let a = c.args in let t = list_there a.calls.now a.at c.requires in omega (arith, t.0, c.well_formed)

pub offset_bounds-calls-at : goal.offset_bounds-calls-at
offset_bounds-calls-at c = let a = c.args in let t = list_there a.calls.now a.at c.requires in omega (arith, t.0, c.well_formed)

pub bounds-calls-at : goal.bounds-calls-at
bounds-calls-at c = (list_there _ _ c.requires).0

pub overflow_add-result-2 : goal.overflow_add-result-2
overflow_add-result-2 c = let a = c.args in
    let t = list_there a.calls.now a.at c.requires in
    omega (arith, t.0, t.1, c.well_formed)

pub returns : goal.returns
returns c = let a = c.args in
    let t = list_there a.calls.now a.at c.requires in
    list_whole _ _ _ refl t.0 (omega (arith, t.1))
