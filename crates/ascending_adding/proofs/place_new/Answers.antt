-- `ascending_adding::place_new` meets its contract: what its callees promise, put together by `adds`.
use native.Mathlib.Omega.{arith}
use Rattle.session.specs.Placed.{put_push, put_fill}
use Rattle.ascending_adding.specs.Adding.{lane_few, ins_located, outs_stamped, may_place, row_there, adds}
use Rattle.ascending_adding.proofs.place_new.Goals as goal

pub greatest_location-after-requires : goal.greatest_location-after-requires
greatest_location-after-requires c = ins_located _ _ _ c.requires

pub overflow_cast-e : goal.overflow_cast-e
overflow_cast-e c = omega (arith, lane_few _ _ _ c.requires)

pub push-d-requires : goal.push-d-requires
push-d-requires c =
    let p = put_push (may_place _ _ _ c.requires c.greatest_location-after.ensures) in
    record { standing = p.0; ready = p.1.0; near = p.1.1 }

pub fill_rows-requires : goal.fill_rows-requires
fill_rows-requires c =
    let p = put_fill (may_place _ _ _ c.requires c.greatest_location-after.ensures) c.push-d.ensures in
    record { fits = p.0; fillable = p.1 }

pub stamp_run-requires : goal.stamp_run-requires
stamp_run-requires c = outs_stamped _ _ _ c.requires

pub note_written-requires : goal.note_written-requires
note_written-requires c = row_there _ _ _ c.requires c.fill_rows.new.rows c.fill_rows.auto.rows

pub returns-clause-added : goal.returns-clause-added
returns-clause-added c = adds _ _ _ c.requires c.greatest_location-after.ensures c.push-d.ensures c.fill_rows.ensures
    c.packed-loc.ensures c.stamp_run.ensures c.note_written.ensures
