-- `alone::flush` meets its contract: what an accepted flush has passed is what the guide's core asks. Assumes nothing.
use Rattle.std.proofs.lemmas.Result.{err_from_is_err_and}
use Rattle.rules.specs.Answer.{number_of_pos}
use Rattle.alone.specs.Flushing.{flush_low, flush_refused, flush_served}
use Rattle.alone.specs.Pushing.{ready}
use mathlib.Core.Path.{refl, sym}
use Rattle.alone.proofs.flush.Goals as goal

pub returns-in_err-check_flush : goal.returns-in_err-check_flush
returns-in_err-check_flush c = let a = c.args in
    let p = err_from_is_err_and c.from_residual.result c.from_residual.ensures.1 in
    rw (p.1, p.2) (flush_refused a.x a.spans.now a.order.now a.tally.now c.requires _ c.in_err-check_flush.ensures (number_of_pos _))

pub flush-requires : goal.flush-requires
flush-requires c = let a = c.args in
    let sp = a.spans.now in
    let o = a.order.now in
    let t = a.tally.now in
    record { standing = c.requires.stands; ready = ready a.x sp o t c.requires (flush_low a.x sp o t c.requires (sym c.in_ok-check_flush.ensures)) }

pub returns : goal.returns
returns c = let f = c.flush in
    let a = c.args in
    flush_served a.x a.spans.now a.order.now a.tally.now c.requires _ f.new.order f.new.tally (sym c.in_ok-check_flush.ensures) refl f.ensures
