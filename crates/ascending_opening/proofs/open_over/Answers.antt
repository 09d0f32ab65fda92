-- Refused by the checks, or begun. Assumes nothing.
use Rattle.std.proofs.Common.{◌≡◌, rules, refl, Err}
use Rattle.rules.specs.Answer.{number_of_pos}
use Rattle.ascending_opening.specs.Slices.{opens_refused, lengths_of}
use Rattle.ascending_opening.proofs.open_over.Goals as goal

pub returns-in_err-check_lengths : goal.returns-in_err-check_lengths
returns-in_err-check_lengths c = let a = c.args in
    let e : c.from_residual.result ≡ Err c.in_err-check_lengths.field-0.0 = search rules in
    rw e (opens_refused a.p a.v a.w a.spans.now a.order.now a.tally.now a.rows.now a.marks.now a.locations.now
    _ _ c.in_err-check_lengths.ensures (number_of_pos c.in_err-check_lengths.field-0.0) refl)

pub begin_over-requires : goal.begin_over-requires
begin_over-requires c = let a = c.args in
    lengths_of a.p a.v a.spans.now a.order.now a.tally.now a.rows.now a.marks.now a.locations.now c.in_ok-check_lengths.ensures

pub returns : goal.returns
returns c = c.begin_over.ensures.opens _ _ c.in_ok-check_lengths.ensures
