-- `guide::push` meets its contract: the choice is that of `rules`, and each of its two cases is one law. Assumes nothing.
use Rattle.window.specs.Location.{has, span_of, pos_of}
use Rattle.entries.specs.Entries.{item_of}
use Rattle.guide.specs.Pushes.{taken_fits, open_fits, taken_pushes, open_pushes}
use Rattle.guide.specs.Ready.{near_of, code_later, code_two, code_free}
use mathlib.Core.Path.{refl}
use Rattle.choice.specs.declared.MatchedSpan.TheVariants.{Existing, New}
use Rattle.guide.proofs.push.Goals as goal

pub choose-requires : goal.choose-requires
choose-requires c = let a = c.args in
    near_of a.g a.spans.now a.order.now (has a.after) (span_of a.after) (pos_of a.after) c.requires.near

pub place_existing-requires : goal.place_existing-requires
place_existing-requires c =
    let a = c.args in
    let sp = a.spans.now in
    let o = a.order.now in
    let t = a.tally.now in
    let i = c.in-Existing.i in
    let f = taken_fits a.g sp o t (has a.after) (span_of a.after) (pos_of a.after) c.requires.standing (Existing i) c.in-Existing.ensures i refl in
    record {
      standing = c.requires.standing;
      free = code_free a.g sp o t c.requires.standing c.requires.ready;
      le_i = (f.0, (f.1, code_later a.g sp o t c.requires.standing c.requires.ready i f.0));
    }

pub returns-in-Existing : goal.returns-in-Existing
returns-in-Existing c =
    let z = c.place_existing in
    let a = c.args in
    let i = c.in-Existing.i in
    taken_pushes a.g a.spans.now a.order.now a.tally.now (has a.after) (span_of a.after) (pos_of a.after) c.requires.standing (Existing i) c.in-Existing.ensures
    (item_of a.e) z.result.guide z.new.spans z.new.order z.new.tally c.requires.ready.low i refl _ _ z.ensures.location.0 z.ensures.location.1 z.ensures.becomes

pub place_opened-requires : goal.place_opened-requires
place_opened-requires c =
    let a = c.args in
    let sp = a.spans.now in
    let o = a.order.now in
    let t = a.tally.now in
    let n = c.in-New.n in
    record {
      standing = c.requires.standing;
      free_two = code_two a.g sp o t c.requires.standing c.requires.ready;
      le_n = open_fits a.g sp o t (has a.after) (span_of a.after) (pos_of a.after) c.requires.standing (New n) c.in-New.ensures n refl;
    }

pub returns-in-New : goal.returns-in-New
returns-in-New c =
    let z = c.place_opened in
    let a = c.args in
    let n = c.in-New.n in
    open_pushes a.g a.spans.now a.order.now a.tally.now (has a.after) (span_of a.after) (pos_of a.after) c.requires.standing (New n) c.in-New.ensures
    (item_of a.e) z.result.guide z.new.spans z.new.order z.new.tally c.requires.ready.low n refl _ _ z.ensures.location.0 z.ensures.location.1 z.ensures.becomes
