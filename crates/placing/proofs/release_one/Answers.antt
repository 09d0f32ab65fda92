-- `placing::release_one` meets its contract: the release, then the count of what it appended. Assumes nothing.
use Rattle.placing.specs.Done.{release_done, asked_tally, asked_release}
use Rattle.placing.proofs.release_one.Goals as goal

pub release-h-requires : goal.release-h-requires
release-h-requires c = let a = c.args in
    asked_release a.g a.spans.now a.order.now a.tally.now c.requires.standing c.requires.free

pub tally_new-requires : goal.tally_new-requires
tally_new-requires c = let r = c.release-h in
    let a = c.args in
    let q = asked_tally a.g a.spans.now a.order.now r.new.order a.tally.now c.requires.standing c.requires.free.room r.ensures.appended r.auto.order in
    record { fits = q.0; countable = q.1 }

pub returns : goal.returns
returns c = let t = c.tally_new in
    let r = c.release-h in
    let a = c.args in record {
      becomes = release_done a.g r.result a.spans.now a.order.now r.new.order a.tally.now t.new.tally c.requires.standing c.requires.free.room
          r.ensures.rotated r.ensures.appended t.ensures;
      rotated = r.ensures.rotated;
    }
