-- `reason::number_after` meets its contract: the replay's number, or the reason's.
use mathlib.Core.Path.{refl, subst}
use Rattle.std.specs.Prelude.{Result}
use Rattle.rules.specs.declared.Refusal.{Refusal}
use Rattle.rules.specs.Answer.{number, number_of_pos}
use Rattle.session.specs.declared.Session.{Session}
use Rattle.session.specs.Slices.{contents}
use Rattle.call_list.specs.Replay.{opened}
use Rattle.reason.specs.Telling.{MayTell, tells_refused, tells_reason}
use Rattle.reason.proofs.number_after.Goals as goal

pub explain-requires : goal.explain-requires
explain-requires c = let k = contents c.args.storage.now in
    subst (λ (a : Result Session Refusal). MayTell (number a) (opened a) k.waiting k.pool) c.in-Ok.is c.requires refl

pub returns-in-Ok : goal.returns-in-Ok
returns-in-Ok c = rw c.in-Ok.is (tells_reason refl c.explain.ensures c.by_number.ensures)

pub returns-in-Err : goal.returns-in-Err
returns-in-Err c = rw (c.in-Err.is, c.into.ensures) (tells_refused (number_of_pos c.in-Err.e))
