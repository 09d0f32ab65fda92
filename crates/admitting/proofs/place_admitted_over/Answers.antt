-- `admitting::place_admitted_over` meets its contract: the cascade's promise, and the row of an added registration, which is there.
use Rattle.admitting.specs.Told.{passed}
use Rattle.admitting.specs.Begun.{places, row_there}
use Rattle.admitting.proofs.place_admitted_over.Goals as goal

pub note_latest-requires : goal.note_latest-requires
note_latest-requires c = row_there c.args.s (passed c.args.a) _ _ _ c.settle_over-t.ensures c.requires

pub returns : goal.returns
returns c = places c.args.s (passed c.args.a) _ _ _ c.settle_over-t.ensures _ c.note_latest.ensures
