-- `entries::store` meets its contract: four stores in a row are one `over`. Assumes nothing.
use Rattle.entries.specs.Entries.{extent, packed}
use Rattle.entries.specs.Stored.{stored}
use Rattle.entries.proofs.store.Goals as goal

pub returns : goal.returns
returns c = let e = c.args.e in
    rw c.packed.ensures (stored c.args.s.now (extent c.args.k) e.value e.added e.accepted (packed e.parallelism e.lane) c.requires)
