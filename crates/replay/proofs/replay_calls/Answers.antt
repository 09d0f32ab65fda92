-- `replay::replay_calls` meets its contract: the promise of `replay`, by one number.
use mathlib.Core.Path.{◌≡◌}
use borrow.Author.Rules.{rules}
use Rattle.replay.specs.Exported.{written}
use Rattle.replay.specs.Telling.{counted, exported}
use Rattle.replay.proofs.replay_calls.Goals as goal

pub returns : goal.returns
returns c =
    let e : c.map.result ≡ counted written c.replay-a.result = search rules in
    exported c.replay-a.new.storage c.replay-a.result c.replay-a.ensures.replays c.by_number.ensures e
    (search rules) (search rules) (search rules) (search rules) (search rules) (search rules) (search rules) (search rules)
