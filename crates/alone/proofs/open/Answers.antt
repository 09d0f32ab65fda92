-- `alone::open` meets its contract: refused by the checks, or begun. Assumes nothing.
use mathlib.Core.Path.{refl, sym}
use Rattle.alone.specs.Opening.{fits, open_served}
use Rattle.alone.proofs.open.Goals as goal

pub begin-requires : goal.begin-requires
begin-requires c = let a = c.args in
    fits a.p a.v a.spans.now a.order.now a.tally.now (sym c.in_ok-check_open.ensures)

pub returns : goal.returns
returns c = let a = c.args in
    open_served a.p a.v _ c.begin.result a.spans.now a.order.now a.tally.now c.in_ok-check_open.ensures
    c.begin.new.tally refl c.begin.ensures
