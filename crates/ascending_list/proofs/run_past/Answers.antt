-- `ascending_list::run_past` meets its contract: after the sets and adds a flush or a final is there, or the end.
use mathlib.Core.Path.{◌≡◌, refl, ◌∙◌}
use native.Mathlib.Omega.{arith}
use Rattle.std.specs.Prelude.{Result, Ok, Err}
use Rattle.std.specs.Result.{result_unwrap_or}
use Rattle.rules.specs.declared.Refusal.{Refusal}
use Rattle.ascending_session.specs.declared.Ascending.{Ascending}
use Rattle.ascending_session.specs.After.{session_after}
use Rattle.ascending_list.specs.Progress.{leads_next, going_asks, going_readable, going_room, going_on, same_trans}
use Rattle.ascending_list.proofs.run_past.Goals as goal

unwrapped : (s : Ascending) (r : Result Ascending Refusal) → result_unwrap_or r s ≡ session_after s r
unwrapped s (Ok t) = refl
unwrapped s (Err e) = refl

pub run_open-r-requires : goal.run_open-r-requires
run_open-r-requires c = c.requires.0

pub returns-then-calls-r : goal.returns-then-calls-r
returns-then-calls-r c =
    let x = c.run_open-r.ensures in
    record { leads = x.continues.0; same = x.same; at_lt_at = omega (arith, c.if-calls-r.true, c.requires.1) }

pub make_end-d-requires : goal.make_end-d-requires
make_end-d-requires c = let r = c.run_open-r.ensures.continues in
    let h = c.if-calls-r.false in
    let g = going_on c.requires.0 r.0 in
    record { asks = going_asks g; readable = (going_readable g h, r.1.1 h) }

pub offset_bounds-answers-r : goal.offset_bounds-answers-r
offset_bounds-answers-r c = omega (arith, going_room (going_on c.requires.0 c.run_open-r.ensures.continues.0) c.if-calls-r.false, c.run_open-r.auto.answers)

pub bounds-answers-r : goal.bounds-answers-r
bounds-answers-r c = going_room (going_on c.requires.0 c.run_open-r.ensures.continues.0) c.if-calls-r.false

pub overflow_add-result : goal.overflow_add-result
overflow_add-result c = omega (arith, c.if-calls-r.false)

pub overflow_add-result-2 : goal.overflow_add-result-2
overflow_add-result-2 c = omega (arith, going_room (going_on c.requires.0 c.run_open-r.ensures.continues.0) c.if-calls-r.false, c.run_open-r.auto.answers)

pub returns : goal.returns
returns c =
    let x = c.run_open-r.ensures in
    record {
      leads = rw c.number.ensures (leads_next x.continues.0 c.make_end-d.ensures.made (c.unwrap_or.ensures ∙ unwrapped c.run_open-r.result.session c.make_end-d.result) refl);
      same = same_trans x.same c.make_end-d.ensures.same;
      at_lt_at = omega (arith, x.continues.1.0);
    }
