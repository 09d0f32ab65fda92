-- `session::find_after_over` meets its contract: what is read of the waiting storage are the parts of the registration's lists in the pool.
use native.Mathlib.Omega.{arith}
use Rattle.lists.specs.Part.{part, part_length}
use Rattle.session.specs.Finding.{leads_none, leads_some, asks_parts, finds}
use Rattle.session.proofs.find_after_over.Goals as goal
use Rattle.session.proofs.find_after_over.Goals.{then-n-eq0, else-n-eq0}

pub top_loc-top-requires : goal.top_loc-top-requires
top_loc-top-requires c = (asks_parts c.list_start-start.ensures c.list_inputs-n.ensures c.list_end-end.ensures c.requires).1.1

pub overflow_add-at : goal.overflow_add-at
overflow_add-at c = let p = asks_parts c.list_start-start.ensures c.list_inputs-n.ensures c.list_end-end.ensures c.requires in omega (arith, p.0, p.1.0)

pub overflow_sub-result : goal.overflow_sub-result
overflow_sub-result c = (asks_parts c.list_start-start.ensures c.list_inputs-n.ensures c.list_end-end.ensures c.requires).0

pub returns : goal.returns
returns c =
    let l = c.args.locations.now in
    let n = c.list_inputs-n.result in
    let pool = c.args.pool.now in
    let start = c.list_start-start.result in
    let xs = part pool start n in
    let p = asks_parts c.list_start-start.ensures c.list_inputs-n.ensures c.list_end-end.ensures c.requires in
    finds c.list_start-start.ensures c.list_inputs-n.ensures c.list_end-end.ensures
    (elim c.if-n-eq0.branch [
      | then-n-eq0 w ↦ rw w.after-is (leads_none l xs n (part_length pool start n (omega (arith, p.0, p.1.0))) w.if-n-eq0.true)
      | else-n-eq0 w ↦ rw w.after-is (leads_some l xs n _ w.unpacked.result w.if-n-eq0.false c.top_loc-top.ensures w.unpacked.ensures)
    ])
    c.lane_of.ensures
