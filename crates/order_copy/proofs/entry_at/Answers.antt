-- `order_copy::entry_at` meets its contract: the entry loaded, as a struct. Assumes nothing.
use native.Mathlib.Omega.{arith}
use mathlib.Core.Path.{ap}
use Rattle.entries.specs.declared.Entry.{Entry}
use Rattle.order_copy.specs.Flat.{info}
use Rattle.order_copy.proofs.entry_at.Goals as goal

pub load-e-requires : goal.load-e-requires
load-e-requires c = c.requires.stored

pub overflow_cast-result : goal.overflow_cast-result
overflow_cast-result c = omega (arith, c.requires.narrow, ap (λ (e : Entry). e.lane) c.load-e.ensures)

pub returns : goal.returns
returns c = ap info c.load-e.ensures
