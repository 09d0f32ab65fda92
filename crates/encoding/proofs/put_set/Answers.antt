-- Two stores. Assumes nothing.
use Rattle.encoding.specs.Put.{put_set}
use Rattle.encoding.proofs.put_set.Goals as goal

pub returns-clause-put : goal.returns-clause-put
returns-clause-put c = put_set _ c.args.x c.requires
