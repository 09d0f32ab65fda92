-- `alone_list::replay` meets its contract: malformed, refused by opening, no room for the answers, or all requests run. Assumes nothing.
use mathlib.Core.Path.{refl, sym}
use Rattle.std.proofs.lemmas.Result.{err_from_is_err_and}
use Rattle.rules.specs.Answer.{number_of_pos}
use Rattle.alone.specs.Opening.{fits}
use Rattle.alone_list.specs.Running.{replay_malformed, replay_refused, replay_no_room, may_run, begun, replay_ran}
use Rattle.alone_list.proofs.replay.Goals as goal

pub returns-then-not-well_formed : goal.returns-then-not-well_formed
returns-then-not-well_formed c = let a = c.args in
    replay_malformed a.p a.v a.requests.now a.spans.now a.order.now a.tally.now a.answers.now c.if-not-well_formed.ensures

pub returns-in_err-check_open : goal.returns-in_err-check_open
returns-in_err-check_open c = let a = c.args in
    let p = err_from_is_err_and c.from_residual.result c.from_residual.ensures.1 in
    rw (p.1, p.2) (replay_refused a.p a.v a.requests.now a.spans.now a.order.now a.tally.now a.answers.now c.if-not-well_formed.ensures
    _ c.in_err-check_open.ensures (number_of_pos _))

pub returns-then-answers-requests : goal.returns-then-answers-requests
returns-then-answers-requests c = let a = c.args in
    replay_no_room a.p a.v a.requests.now a.spans.now a.order.now a.tally.now a.answers.now c.if-not-well_formed.ensures
    (sym c.in_ok-check_open.ensures) c.if-answers-requests.true

pub begin-x-requires : goal.begin-x-requires
begin-x-requires c = let a = c.args in
    fits a.p a.v a.spans.now a.order.now a.tally.now (sym c.in_ok-check_open.ensures)

pub run-requires : goal.run-requires
run-requires c = let a = c.args in
    let z = sym c.in_ok-check_open.ensures in
    let o = begun a.p a.v a.requests.now a.spans.now a.order.now a.tally.now a.answers.now c.if-not-well_formed.ensures z c.begin-x.ensures in
    record {
      held_over = o.held refl;
      room = (may_run a.p a.v a.requests.now a.spans.now a.order.now a.tally.now a.answers.now c.if-not-well_formed.ensures z c.if-answers-requests.false).1;
    }

pub returns : goal.returns
returns c = let a = c.args in
    replay_ran a.p a.v a.requests.now a.spans.now a.order.now a.tally.now a.answers.now c.if-not-well_formed.ensures (sym c.in_ok-check_open.ensures)
    {x = c.begin-x.result} {t₁ = c.begin-x.new.tally} c.if-answers-requests.false c.begin-x.ensures c.run.ensures
