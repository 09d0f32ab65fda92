-- `explaining::explain` meets its contract: never accepted, waiting, or accepted and not waiting.
use Rattle.explaining.specs.Answers.{explains_unknown, asks_inputs, explains_none, explains_placed, explains_waiting}
use Rattle.explaining.proofs.explain.Goals as goal
use Rattle.explaining.proofs.explain.Goals.{then-n-eq0-via-then-n-eq0, then-n-eq0-via-else-n-eq0+then-input-s}

pub returns-then-r-s : goal.returns-then-r-s
returns-then-r-s c = let a = c.args in explains_unknown a.s a.waiting.now a.pool.now a.r c.if-r-s.true

pub greatest_listed-input-requires : goal.greatest_listed-input-requires
greatest_listed-input-requires c = let a = c.args in
    asks_inputs a.s a.waiting.now a.pool.now a.r c.if-r-s.false c.list_start.ensures c.list_inputs-n.ensures c.requires

pub returns-then-n-eq0 : goal.returns-then-n-eq0
returns-then-n-eq0 c = let a = c.args in
    elim c.then-n-eq0.branch [
      | then-n-eq0-via-then-n-eq0 w ↦ explains_none a.s a.waiting.now a.pool.now a.r c.if-r-s.false c.list_start.ensures c.list_inputs-n.ensures w.if-n-eq0.true
      | then-n-eq0-via-else-n-eq0+then-input-s w ↦
          explains_placed a.s a.waiting.now a.pool.now a.r c.if-r-s.false c.list_start.ensures c.list_inputs-n.ensures c.greatest_listed-input.ensures w.if-input-s.true
    ]

pub returns : goal.returns
returns c = let a = c.args in
    explains_waiting a.s a.waiting.now a.pool.now a.r c.if-r-s.false c.list_start.ensures c.list_inputs-n.ensures c.greatest_listed-input.ensures c.requires
    c.if-n-eq0.false c.if-input-s.false
