-- What fits is admitted where its outputs can be flagged; what does not is refused. Assumes nothing.
use Rattle.std.proofs.Common.{arith, rules}
use Rattle.claiming.specs.Claiming.{unfit, may_claim, admits}
use Rattle.claiming.proofs.admits_add.Goals as goal

pub claim_new-requires : goal.claim_new-requires
claim_new-requires c = may_claim c.requires

pub returns-then-top-at : goal.returns-then-top-at
returns-then-top-at c = admits c.requires (omega arith) c.fits.ensures c.if-top-at.true.0 c.if-top-at.true.1 c.claim_new.ensures

pub returns-else-top-at : goal.returns-else-top-at
returns-else-top-at c = unfit c.requires c.fits.ensures c.if-top-at.either (search rules)
