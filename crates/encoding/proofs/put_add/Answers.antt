-- Four stores around the lists. Assumes nothing.
use Rattle.encoding.specs.Put.{put_add}
use Rattle.encoding.proofs.put_add.Goals as goal

pub returns-clause-put : goal.returns-clause-put
returns-clause-put c = put_add c.args.lane c.args.inputs c.args.outputs _ c.requires
