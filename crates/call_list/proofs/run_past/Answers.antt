-- `call_list::run_past` meets its contract: the end is made and its number stored, then the calls after it.
use mathlib.Core.Path.{◌≡◌, refl, ◌∙◌}
use Rattle.std.specs.Prelude.{Result, Ok, Err}
use Rattle.std.specs.Result.{result_unwrap_or}
use Rattle.rules.specs.declared.Refusal.{Refusal}
use Rattle.session.specs.declared.Session.{Session}
use Rattle.session.specs.After.{session_after}
use Rattle.call_runs.specs.Continuing.{going_asks, going_readable, going_room, going_next, same_trans}
use Rattle.call_list.specs.Running.{pass_begins, passes}
use Rattle.call_list.proofs.run_past.Goals as goal

unwrapped : (s : Session) (r : Result Session Refusal) → result_unwrap_or r s ≡ session_after s r
unwrapped s (Ok t) = refl
unwrapped s (Err e) = refl

pub make_end-d-requires : goal.make_end-d-requires
make_end-d-requires c = let M = c.requires in
    record { asks = going_asks (pass_begins M); readable = (going_readable (pass_begins M) M.inside, M.tag) }

pub bounds-answers-done : goal.bounds-answers-done
bounds-answers-done c = let M = c.requires in going_room (pass_begins M) M.inside

pub run_open-requires : goal.run_open-requires
run_open-requires c = let M = c.requires in
    let u = c.unwrap_or.ensures ∙ unwrapped c.args.s c.make_end-d.result in
    rw (u, c.number.ensures) (going_next (pass_begins M) M.inside c.make_end-d.ensures.made).may

pub returns : goal.returns
returns c =
    let u = c.unwrap_or.ensures ∙ unwrapped c.args.s c.make_end-d.result in
    record {
      passes = passes c.requires c.make_end-d.ensures.made (rw (u, c.number.ensures) at c.run_open.ensures.continues);
      same = same_trans c.make_end-d.ensures.same c.run_open.ensures.same;
    }
