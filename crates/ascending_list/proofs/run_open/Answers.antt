-- `ascending_list::run_open` meets its contract: a call that is made leads further, and the measure is what is left of the numbers.
use mathlib.Core.Path.{◌≡◌, refl, sym, ◌∙◌, ap}
use native.Mathlib.Omega.{arith}
use borrow.Author.Rules.{rules}
use Rattle.std.specs.Prelude.{Option, Some, None, Result, Ok}
use Rattle.rules.specs.declared.Refusal.{Refusal}
use Rattle.rules.specs.Calls.{add}
use Rattle.rules.specs.Answer.{number_of_pos}
use Rattle.ascending_session.specs.Slices.{contents}
use Rattle.ascending_session.specs.Promise.{MayDo}
use Rattle.ascending_adding.specs.Adding.{add_counts}
use Rattle.ascending_calls.specs.Setting.{marked}
use Rattle.lists.specs.declared.Registration.{Registration}
use Rattle.ascending_list.specs.Made.{AdmitsAt, told, to_place, call_asked, call_admitted, made_refused, made_set, may_place, made_add}
use Rattle.ascending_list.specs.Progress.{leads_next, going_asks, going_readable, going_room, going_on, kept, same_trans}
use Rattle.ascending_list.proofs.run_open.Goals as goal
use Rattle.ascending_list.proofs.run_open.Goals.{After-admit_call-d, In-Ok-Some, in-Ok-Some, in-Ok-None, in-Err}

-- what was admitted at a turn of the loop
admitted : (c : After-admit_call-d) → let e =
    c.loop-at in AdmitsAt c.args.calls.now e.at (told c.admit_call-d.result.next c.admit_call-d.result.admitted) e.z (contents e.storage) (marked (contents e.storage) c.admit_call-d.new.marks)
admitted c = call_admitted (going_asks (going_on c.requires c.loop-at.invariant.leads)) c.admit_call-d.ensures

-- the same of an add
added : (c : In-Ok-Some) → let e =
    c.loop-at in AdmitsAt c.args.calls.now e.at (to_place c.admit_call-d.result.next c.in-Ok-Some.r) e.z (contents e.storage)
    (marked (contents e.storage) c.admit_call-d.new.marks)
added c =
    let e : ◌≡◌ {A = Result (Option Registration) Refusal} c.admit_call-d.result.admitted (Ok (Some c.in-Ok-Some.r)) = c.in-Ok-Some.is ∙ ap Ok (rw c.in-Ok-Some.is at c.in-Ok-Some.field-0-is) in
    let A = call_admitted (going_asks (going_on c.requires c.loop-at.invariant.leads)) c.admit_call-d.ensures in
    rw e at A

may : (c : In-Ok-Some) → let d = to_place c.admit_call-d.result.next c.in-Ok-Some.r in
    MayDo (add d.lane d.inputs d.outputs) c.loop-at.z (marked (contents c.loop-at.storage) c.admit_call-d.new.marks)
may c = may_place (added c) refl refl (going_asks (going_on c.requires c.loop-at.invariant.leads))

pub loop-at-init : goal.loop-at-init
loop-at-init c = record { leads = λ P N W all σ₀ out₀ R. R; onward = omega arith; same = search rules }

pub admit_call-d-requires : goal.admit_call-d-requires
admit_call-d-requires c = let g = going_on c.requires c.loop-at.invariant.leads in
    record { asks_call = call_asked (going_asks g); readable = (going_readable g c.loop-at-test.true, sym c.ends_run.ensures ∙ c.if-ends_run.false) }

pub offset_bounds-answers-n : goal.offset_bounds-answers-n
offset_bounds-answers-n c = omega (arith, going_room (going_on c.requires c.loop-at.invariant.leads) c.loop-at-test.true, (kept c.requires c.loop-at.invariant.leads).answers)

pub bounds-answers-n : goal.bounds-answers-n
bounds-answers-n c = going_room (going_on c.requires c.loop-at.invariant.leads) c.loop-at-test.true

pub place_new-z-requires : goal.place_new-z-requires
place_new-z-requires c = may (goal.at.place_new-z-requires c).In-Ok-Some

pub overflow_add-z : goal.overflow_add-z
overflow_add-z c = omega (arith, add_counts _ _ _ (may (goal.at.overflow_add-z c).In-Ok-Some))

pub overflow_add-z-in-Ok-Some : goal.overflow_add-z-in-Ok-Some
overflow_add-z-in-Ok-Some c = omega (arith, add_counts _ _ _ (may (goal.at.overflow_add-z-in-Ok-Some c).In-Ok-Some))

pub overflow_add-z-in-Ok-Some-2 : goal.overflow_add-z-in-Ok-Some-2
overflow_add-z-in-Ok-Some-2 c = omega (arith, add_counts _ _ _ (may (goal.at.overflow_add-z-in-Ok-Some-2 c).In-Ok-Some))

pub overflow_add-z-in-Ok-Some-3 : goal.overflow_add-z-in-Ok-Some-3
overflow_add-z-in-Ok-Some-3 c = omega (arith, add_counts _ _ _ (may (goal.at.overflow_add-z-in-Ok-Some-3 c).In-Ok-Some))

pub overflow_add-z-in-Ok-None : goal.overflow_add-z-in-Ok-None
overflow_add-z-in-Ok-None c =
    let e : ◌≡◌ {A = Result (Option Registration) Refusal} c.admit_call-d.result.admitted (Ok None) = c.in-Ok-None.is ∙ ap Ok (rw c.in-Ok-None.is at c.in-Ok-None.field-0-is) in
    let A = admitted (goal.at.overflow_add-z-in-Ok-None c).After-admit_call-d in
    omega (arith, (rw e at A).low refl refl)

pub overflow_add-n : goal.overflow_add-n
overflow_add-n c = omega (arith, going_room (going_on c.requires c.loop-at.invariant.leads) c.loop-at-test.true, (kept c.requires c.loop-at.invariant.leads).answers)

pub loop-at-smaller : goal.loop-at-smaller
loop-at-smaller c = let A = admitted (goal.at.loop-at-smaller c).After-admit_call-d in
    omega (arith, A.says.past, A.says.within)

pub loop-at-preserved : goal.loop-at-preserved
loop-at-preserved c =
    let A = admitted (goal.at.loop-at-preserved c).After-admit_call-d in
    let i = c.loop-at.invariant in
    elim c.match-d.branch [
      | in-Ok-Some k ↦
          let e : ◌≡◌ {A = Result (Option Registration) Refusal} c.admit_call-d.result.admitted (Ok (Some k.in-Ok-Some.r)) = k.in-Ok-Some.is ∙ ap Ok (rw k.in-Ok-Some.is at k.in-Ok-Some.field-0-is) in
          record {
            leads = rw (c.number.ensures, e) (leads_next i.leads (made_add (rw e at A) refl refl k.place_new-z.ensures.added) k.z-is (ap contents k.storage-is));
            onward = omega (arith, i.onward, A.says.past);
            same = rw k.storage-is (same_trans i.same (same_trans (search rules) k.place_new-z.ensures.same));
          }
      | in-Ok-None k ↦
          let e : ◌≡◌ {A = Result (Option Registration) Refusal} c.admit_call-d.result.admitted (Ok None) = k.in-Ok-None.is ∙ ap Ok (rw k.in-Ok-None.is at k.in-Ok-None.field-0-is) in
          record {
            leads = rw (c.number.ensures, e) (leads_next i.leads (made_set (rw e at A) refl refl) k.z-is (ap contents k.storage-is));
            onward = omega (arith, i.onward, A.says.past);
            same = rw k.storage-is (same_trans i.same (search rules));
          }
      | in-Err k ↦
          let e = k.in-Err.is in
          record {
            leads = rw (c.number.ensures, e) (leads_next i.leads (made_refused (rw e at A) (number_of_pos _)) k.z-is (ap contents k.storage-is));
            onward = omega (arith, i.onward, A.says.past);
            same = rw k.storage-is (same_trans i.same (search rules));
          }
    ]
