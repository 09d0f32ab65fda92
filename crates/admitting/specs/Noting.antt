-- The end of an add: from the storage with its row's written stored, the session stands for the model with that record. Assumes nothing.
use Rattle.std.specs.Prelude.{◌≡◌, ℕ, ◌<◌, length}
use Rattle.rules.specs.Model.{Model, watermark as watermark_of, tracked, with_record, note_add}
use Rattle.rules.specs.Checks.{taken}
use Rattle.records.specs.Filling.{with_written}
use Rattle.session.specs.declared.Session.{Session}
use Rattle.session.specs.Storage.{Storage, with_rows}
use Rattle.session.specs.Rep.{Rep}
use Rattle.session.specs.Recording.{rowed_added}

pub rep_noted : (P N r n : ℕ) (k : Model) (s : Session) (σ : Storage) → Rep P N k s σ → length k.recorded.written ≡ r → r < N → n ≡ length k.guide.order
    → Rep P N (note_add k) s (with_rows σ (with_written σ.rows r n))
unfolding note_add with_record watermark_of tracked taken
rep_noted P N r n k s σ R e h en =
    record {
      core = record {
        guided = record { p_is = R.core.guided.p_is; v_is = R.core.guided.v_is; places = R.core.guided.places; stands = R.core.guided.stands; view_is = R.core.guided.view_is };
        rowed = rowed_added N r n k σ e h en R.core.rowed;
        tracked = record { places = R.core.tracked.places; watermark_is = R.core.tracked.watermark_is };
        stored = record { lists = R.core.stored.lists; flags = R.core.stored.flags };
      };
      counted = record {
        added_is = R.counted.added_is;
        used_is = R.counted.used_is;
        flushes_is = R.counted.flushes_is;
        closed_is = R.counted.closed_is;
        registrations_is = R.counted.registrations_is;
        places_is = R.counted.places_is;
      };
      delayed = R.delayed;
      delayed_is = R.delayed_is;
    }
