-- An empty chain leaves all as it is; else one store at the link of the oldest. Assumes nothing.
use Prim.Native.Nat.{◌≤◌, ◌<◌}
use lib.ListN.{length}
use Rattle.rules.specs.Checks.{waiting_needed}
use Rattle.registrar.specs.Keeps.{oldest_below}
use Rattle.registrar.proofs.splice.Goals as goal
use Rattle.registrar.proofs.splice.Goals.{After-oldest-last}

below : (c : After-oldest-last) → (c.oldest-last.result < c.args.v) × (waiting_needed c.args.v ≤ length c.args.waiting.now)
below c =
    (oldest_below c.args.waiting.now c.args.v c.args.from c.oldest-last.result c.requires c.if-from-eq0.false c.oldest-last.ensures, c.requires.long)

pub set_link-requires : goal.set_link-requires
set_link-requires c = below (goal.at.set_link-requires c).After-oldest-last
