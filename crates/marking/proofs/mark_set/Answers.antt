-- The marks after the set give the watermark, and the registrar's step what comes off. Assumes nothing.
use Rattle.marking.specs.Marking.{marked_low, marked_advancing, marks_of}
use Rattle.marking.proofs.mark_set.Goals as goal

pub advance-to-requires : goal.advance-to-requires
advance-to-requires c = marked_low c.requires c.set_mark.ensures

pub advance_set-top-requires : goal.advance_set-top-requires
advance_set-top-requires c = marked_advancing c.requires c.set_mark.ensures c.claim_one.ensures c.advance-to.ensures

pub returns : goal.returns
returns c = marks_of c.requires c.set_mark.ensures c.claim_one.ensures c.advance-to.ensures c.advance_set-top.ensures
