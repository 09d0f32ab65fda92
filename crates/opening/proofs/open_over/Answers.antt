-- Refused by the checks, or begun. Assumes nothing.
use Rattle.std.proofs.Common.{◌≡◌, [], rules, refl, Err}
use Rattle.rules.specs.Answer.{number_of_pos}
use Rattle.opening.specs.Slices.{opens_refused, lengths_of}
use Rattle.opening.proofs.open_over.Goals as goal

pub returns-in_err-check_sizes : goal.returns-in_err-check_sizes
returns-in_err-check_sizes c = let a = c.args in
    let e : c.from_residual.result ≡ Err c.in_err-check_sizes.field-0.0 = search rules in
    rw e (λ pool. opens_refused a.p a.v a.spans.now a.order.now a.tally.now a.rows.now a.marks.now a.locations.now a.waiting.now pool
    _ _ c.in_err-check_sizes.ensures (number_of_pos c.in_err-check_sizes.field-0.0) refl)

pub begin_over-requires : goal.begin_over-requires
begin_over-requires c = let a = c.args in
    lengths_of a.p a.v a.spans.now a.order.now a.tally.now a.rows.now a.marks.now a.locations.now a.waiting.now [] c.in_ok-check_sizes.ensures

pub returns : goal.returns
returns c = λ pool. c.begin_over.ensures.opens _ _ pool c.in_ok-check_sizes.ensures
