-- Refused by the checks, or begun. Assumes nothing.
use Rattle.std.proofs.Common.{◌≡◌, rules, Err}
use Rattle.rules.specs.Answer.{number_of_pos}
use Rattle.ascending_session.specs.Slices.{contents}
use Rattle.ascending_opening.specs.Opened.{opens_refused, lengths_of}
use Rattle.ascending_opening.proofs.open.Goals as goal

pub returns-in_err-check_open-clause-opens : goal.returns-in_err-check_open-clause-opens
returns-in_err-check_open-clause-opens c =
    let e : c.from_residual.result ≡ Err c.in_err-check_open.field-0.0 = search rules in
    rw e (opens_refused _ _ c.args.w _ _ c.in_err-check_open.ensures (number_of_pos c.in_err-check_open.field-0.0))

pub begin-requires : goal.begin-requires
begin-requires c = lengths_of _ _ (contents c.args.storage.now) c.in_ok-check_open.ensures

pub returns-clause-opens : goal.returns-clause-opens
returns-clause-opens c = c.begin.ensures.begins.opens c.in_ok-check_open.ensures
