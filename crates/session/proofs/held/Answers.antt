-- `session::held` meets its contract: the total that the session keeps is the model's. Assumes nothing.
use Rattle.session.specs.Poll.{polled}
use Rattle.session.proofs.held.Goals as goal

pub returns-clause-polls : goal.returns-clause-polls
returns-clause-polls c = polled c.args.s
