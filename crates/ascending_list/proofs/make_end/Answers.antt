-- `ascending_list::make_end` meets its contract: the tag is a flush's or a final's.
use native.Mathlib.Omega.{arith}
use Rattle.ascending_list.specs.Made.{made_flush, made_final}
use Rattle.ascending_list.proofs.make_end.Goals as goal

pub offset_bounds-calls-at : goal.offset_bounds-calls-at
offset_bounds-calls-at c = omega (arith, c.requires.readable.0.inside)

pub bounds-calls-at : goal.bounds-calls-at
bounds-calls-at c = c.requires.readable.0.inside

pub flush-requires : goal.flush-requires
flush-requires c = c.requires.asks

pub returns-then-calls-at-eq-FLUSH-clause-made : goal.returns-then-calls-at-eq-FLUSH-clause-made
returns-then-calls-at-eq-FLUSH-clause-made c = made_flush c.requires.readable.0 c.if-calls-at-eq-FLUSH.true c.flush.ensures.called

pub close-requires : goal.close-requires
close-requires c = c.requires.asks

pub returns-clause-made : goal.returns-clause-made
returns-clause-made c = let e = c.requires.readable in
    made_final e.0 e.1 c.if-calls-at-eq-FLUSH.false c.close.ensures.called
