-- `admitting::place_admitted` meets its contract: the cascade's promise, and the row of an added registration, which is there.
use Rattle.admitting.specs.Told.{passed}
use Rattle.admitting.specs.Begun.{places, row_there}
use Rattle.admitting.proofs.place_admitted.Goals as goal

pub note_latest-requires : goal.note_latest-requires
note_latest-requires c = row_there c.args.s (passed c.args.a) _ _ _ c.settle-t.ensures.settled c.requires

pub returns-clause-placed : goal.returns-clause-placed
returns-clause-placed c = places c.args.s (passed c.args.a) _ _ _ c.settle-t.ensures.settled _ c.note_latest.ensures
