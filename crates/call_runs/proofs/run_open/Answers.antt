-- `call_runs::run_open` meets its contract. The invariant: whatever list is being made, the calls up to `at` are made too; the measure is what
-- is left of the numbers.
use mathlib.Core.Path.{refl, sym, ◌∙◌, ap}
use native.Mathlib.Omega.{arith}
use borrow.Author.Rules.{rules}
use Rattle.rules.specs.Answer.{number_of_pos}
use Rattle.admitting.specs.Begun.{places, row_there}
use Rattle.admitting.specs.Told.{passed}
use Rattle.session.specs.Slices.{contents}
use Rattle.call_runs.specs.Continuing.{same_trans}
use Rattle.call_runs.specs.Made.{call_asked, call_admitted}
use Rattle.call_runs.specs.Cascading.{cascading_begins, cascading_turn, cascading_less, cascading_step, cascading_ends}
use Rattle.call_runs.specs.Continuing.{going_begins, going_asks, going_readable, going_room, going_refused, going_placed}
use Rattle.call_runs.proofs.run_open.Goals as goal
use Rattle.call_runs.proofs.run_open.Goals.{in-Ok+else-loop-t-test, in_default}

pub loop-at-init : goal.loop-at-init
loop-at-init c = record { going = going_begins c.requires; same = search rules }

pub admit_call-d-requires : goal.admit_call-d-requires
admit_call-d-requires c = let g = c.loop-at.invariant.going in
    record { asks_call = call_asked (going_asks g); readable = (going_readable g c.loop-at-test.true, sym c.ends_run.ensures ∙ c.if-ends_run.false) }

pub bounds-answers-n : goal.bounds-answers-n
bounds-answers-n c = going_room c.loop-at.invariant.going c.loop-at-test.true

pub loop-t-init : goal.loop-t-init
loop-t-init c =
    let w = c.in-Ok.is in
    let d = call_admitted (going_asks c.loop-at.invariant.going) c.admit_call-d.ensures in
    record { cascading = cascading_begins ((rw w at d).admits.may refl); same = search rules }

pub place_next-e-requires : goal.place_next-e-requires
place_next-e-requires c = cascading_turn c.loop-t.invariant.cascading c.loop-t-test.true

pub loop-t-smaller : goal.loop-t-smaller
loop-t-smaller c = omega (arith, cascading_less c.loop-t.invariant.cascading c.loop-t-test.true c.place_next-e.ensures.placed)

pub loop-t-preserved : goal.loop-t-preserved
loop-t-preserved c =
    record {
      cascading = cascading_step c.loop-t.invariant.cascading c.loop-t-test.true c.place_next-e.ensures.placed;
      same = same_trans c.loop-t.invariant.same c.place_next-e.ensures.same;
    }

pub note_latest-requires : goal.note_latest-requires
note_latest-requires c = let i = c.loop-t.invariant.cascading in
    row_there c.loop-at.z (passed c.in-Ok.a) _ _ _ (cascading_ends i c.loop-t-test.false) i.may

pub loop-at-smaller : goal.loop-at-smaller
loop-at-smaller c = let d = call_admitted (going_asks c.loop-at.invariant.going) c.admit_call-d.ensures in
    omega (arith, d.past, d.within)

pub loop-at-preserved : goal.loop-at-preserved
loop-at-preserved c =
    let g = c.loop-at.invariant.going in
    let h = c.loop-at-test.true in
    let d = call_admitted (going_asks g) c.admit_call-d.ensures in
    elim c.match-d.branch [
      | in-Ok+else-loop-t-test k ↦
          let e = k.in-Ok.is in
          record {
            going = rw (c.number.ensures, e) (going_placed g h (rw e at d) refl
                (places c.loop-at.z (passed k.in-Ok.a) _ _ _ (cascading_ends k.loop-t.invariant.cascading k.loop-t-test.false) _ k.note_latest.ensures)
                k.z-is (ap contents k.storage-is));
            same = rw k.storage-is (same_trans c.loop-at.invariant.same (same_trans (search rules) (same_trans k.loop-t.invariant.same (search rules))));
          }
      | in_default k ↦
          let e = k.in_default.is in
          record {
            going = rw (c.number.ensures, e) (going_refused g h (rw e at d) (number_of_pos _) k.z-is (ap contents k.storage-is));
            same = rw k.storage-is (same_trans c.loop-at.invariant.same (search rules));
          }
    ]
