-- `ascending_list::replay` meets its contract: malformed, refused by opening, no room for the answers, or all calls made.
use mathlib.Core.Path.{◌≡◌, refl, sym}
use borrow.Author.Rules.{rules}
use Rattle.std.specs.Prelude.{Result, Err}
use Rattle.rules.specs.declared.Refusal.{Refusal}
use Rattle.rules.specs.declared.Refusal.TheVariants.{Malformed}
use Rattle.rules.specs.Answer.{number_of_pos}
use Rattle.ascending_session.specs.declared.Ascending.{Ascending}
use Rattle.ascending_session.specs.Slices.{contents}
use Rattle.ascending_opening.specs.Opened.{lengths_of}
use Rattle.ascending_list.specs.Progress.{same_trans}
use Rattle.ascending_list.specs.Running.{replay_malformed, replay_refused, replay_no_room, may_run, replay_done}
use Rattle.ascending_list.proofs.replay.Goals as goal

pub returns-in_err-count-clause-replays : goal.returns-in_err-count-clause-replays
returns-in_err-count-clause-replays c =
    let e : ◌≡◌ {A = Result Ascending Refusal} c.from_residual.result (Err c.in_err-count.field-0.0) = search rules in
    let m : c.in_err-count.field-0.0 ≡ Malformed = search rules in
    rw (e, m) (replay_malformed c.count_calls.ensures refl refl (sym c.in_err-count.ensures.variant))

pub returns-in_err-check_open-clause-replays : goal.returns-in_err-check_open-clause-replays
returns-in_err-check_open-clause-replays c =
    let e : ◌≡◌ {A = Result Ascending Refusal} c.from_residual-in_err-check_open.result (Err c.in_err-check_open.field-0.0) = search rules in
    rw e (replay_refused c.count_calls.ensures (sym c.in_ok-count.ensures.variant) refl refl c.in_err-check_open.ensures (number_of_pos _))

pub returns-then-answers-count-clause-replays : goal.returns-then-answers-count-clause-replays
returns-then-answers-count-clause-replays c =
    let C = rw c.in_ok-count.ensures.ok_part at c.count_calls.ensures in
    replay_no_room C refl refl refl c.in_ok-check_open.ensures c.if-answers-count.true

pub begin-s-requires : goal.begin-s-requires
begin-s-requires c = let a = c.args in lengths_of a.p a.v (contents a.storage.now) c.in_ok-check_open.ensures

pub run_calls-requires : goal.run_calls-requires
run_calls-requires c =
    let C = rw c.in_ok-count.ensures.ok_part at c.count_calls.ensures in
    may_run C refl c.if-answers-count.false (c.begin-s.ensures.begins.opens c.in_ok-check_open.ensures)

pub returns : goal.returns
returns c =
    let C = rw c.in_ok-count.ensures.ok_part at c.count_calls.ensures in
    record {
      replays = replay_done C refl c.if-answers-count.false (c.begin-s.ensures.begins.opens c.in_ok-check_open.ensures) c.run_calls.ensures.runs;
      same = same_trans c.begin-s.ensures.same c.run_calls.ensures.same;
    }
