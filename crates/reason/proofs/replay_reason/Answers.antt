-- `reason::replay_reason` meets its contract: the promise of `replay`, and the reason by one number.
use Rattle.std.proofs.Common.{rules}
use Rattle.reason.specs.Telling.{may_tell, replays_reason, reason_over}
use Rattle.reason.proofs.replay_reason.Goals as goal

pub number_after-requires : goal.number_after-requires
number_after-requires c = may_tell c.replay-a.ensures.replays

pub returns : goal.returns
returns c =
    reason_over (replays_reason c.replay-a.ensures.replays c.number_after.ensures)
    (search rules) (search rules) (search rules) (search rules) (search rules) (search rules) (search rules) (search rules)
