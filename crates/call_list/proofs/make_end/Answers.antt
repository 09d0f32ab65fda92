-- `call_list::make_end` meets its contract: the tag is a flush's or a final's.
use Rattle.call_runs.specs.Making.{end_tag, made_flush, made_final}
use Rattle.call_list.proofs.make_end.Goals as goal

pub returns-then-calls-at-eq-FLUSH-clause-made : goal.returns-then-calls-at-eq-FLUSH-clause-made
returns-then-calls-at-eq-FLUSH-clause-made c = made_flush c.requires.readable.0 c.if-calls-at-eq-FLUSH.true c.flush.ensures.called

pub returns-clause-made : goal.returns-clause-made
returns-clause-made c = let t = c.requires.readable in
    let e = end_tag t.1 in
    made_final t.0 e.0 e.1 e.2 c.if-calls-at-eq-FLUSH.false c.close.ensures.called
