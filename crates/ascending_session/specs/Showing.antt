-- A session under the ascending profile and storage that stand for a model show it. Assumes nothing.
use Rattle.std.specs.Prelude.{ℕ}
use Rattle.rules.specs.Model.{Model}
use Rattle.rules.specs.Record.{location_of}
use Rattle.session.specs.Storage.{Storage}
use Rattle.session.specs.Parts.{tally_is}
use Rattle.session.specs.Showing.{order_shown, written_shown, numbers_shown, lengths_shown, held_shown, spans_shown, unassigned_shown}
use Rattle.ascending_session.specs.declared.Ascending.{Ascending}
use Rattle.ascending_session.specs.Rep.{Rep}
use Rattle.ascending_session.specs.Shows.{Shows}

pub shows : {P N W : ℕ} {k : Model} {s : Ascending} {σ : Storage} → Rep P N W k s σ → Shows P N W k s σ
unfolding location_of
shows R =
    let G = R.base.guided in
    record {
      parallelism = G.p_is;
      many = G.v_is;
      room = R.counted.room_is;
      written = written_shown G;
      order = order_shown G;
      tally = tally_is G;
      rows = R.base.rowed.rows;
      marks = R.base.tracked.places.at;
      locations = R.base.tracked.places.place_of;
      numbers = numbers_shown G;
      lengths = lengths_shown G;
      held = held_shown G;
      spans = spans_shown G;
      unassigned = unassigned_shown G;
      lowest = R.base.tracked.watermark_is;
      accepted = R.counted.added_is;
      used = R.counted.used_is;
      flushes = R.counted.flushes_is;
      closed = R.counted.closed_is;
      registrations = R.counted.registrations_is;
      places = R.counted.places_is;
    }
