-- An accepted add under the ascending profile: its registration is on the model's stack alone, so that the laws of a placing
-- (session/Placed) say what each step asks and what is done in the end. Assumes nothing.
use Rattle.std.specs.Prelude.{◌≡◌, List, [], ◌∷◌, false, Option, ℕ, ◌+◌, ◌-◌, ◌^◌, ◌≤◌, ◌<◌, length}
use Rattle.std.proofs.Math.Path.{refl, sym, subst}
use Rattle.std.proofs.Common.{ap, ◌∙◌, arith}
use Rattle.std.proofs.Math.ListN.{length-append}
use Rattle.rules.specs.Limits.{most_lane, most_places}
use Rattle.rules.specs.Record.{row_of}
use Rattle.rules.specs.Model.{Reg, Model, tracked, watermark, reg_of, place_one, with_add, do_add, note_add, with_record}
use Rattle.rules.specs.Calls.{add as add_call, apply_call}
use Rattle.rules.specs.Ascending.{lowest, answer}
use Rattle.laws.specs.ModelBase.{watermark_le}
use Rattle.laws.specs.CallInv.{reg_of_new}
use Rattle.laws.specs.Accepted.{AddPassed, add_passed as passed}
use Rattle.laws.specs.Limits.{pooled_append}
use Rattle.laws.specs.Sound.{Sound, sound_adding}
use Rattle.ascending.specs.Claims.{places_from, Reached}
use Rattle.ascending.specs.Same.{accepted_by_all, all_ready, placed_alone, add_passed}
use Rattle.ascending.specs.Lowest.{lowest_add}
use Rattle.lists.specs.Part.{Below}
use Rattle.tracking.specs.Tracking.{packed, Stamped}
use Rattle.entries.specs.Entries.{item_of, row}
use Rattle.buffer.specs.declared.Guide.{Guide}
use Rattle.guide.specs.Ready.{loc_of}
use Rattle.guide.specs.Pushes.{Pushes}
use Rattle.records.specs.Filling.{filled, has_row, with_written}
use Rattle.window.specs.declared.Location.{Location}
use Rattle.window.specs.Location.{has, span_of, pos_of}
use Rattle.session.specs.Finding.{Leads}
use Rattle.session.specs.Storage.{Storage, with_rows, Frame, frame_trans}
use Rattle.session.specs.Rep.{Base}
use Rattle.session.specs.Showing.{written_shown}
use Rattle.session.specs.Recording.{rowed_added, frame_noted}
use Rattle.session.specs.Placed.{MayPut, entry_for, placed_storage, all_below, put_base, put_frame}
use Rattle.ascending_session.specs.declared.Ascending.{Ascending}
use Rattle.ascending_session.specs.Rep.{Rep}
use Rattle.ascending_session.specs.Promise.{MayDo, Does, positive, small}

-- the session after an accepted add of so many inputs and outputs, h being its guide
abbrev pub with_added : Ascending → Guide → ℕ → ℕ → Ascending
with_added s h i o =
    record {
      guide = h;
      lowest = s.lowest + o;
      added = s.added + 1;
      used = s.used + (i + o);
      room = s.room;
      flushes = s.flushes;
      closed = s.closed;
      registrations = s.registrations;
      places = s.places;
    }

abbrev reg_for : ℕ → List ℕ → List ℕ → Reg
reg_for lane ins outs = record { lane = lane; ins = ins; outs = outs }

module _ (lane : ℕ) (ins outs : List ℕ) {s : Ascending} {σ : Storage} where
  module _ {P N W : ℕ} {k : Model} (R : Rep P N W k s σ) (Q : Reached P N W k) (e : answer N W (add_call lane ins outs) k ≡ 0) where
    gone : AddPassed N W lane ins outs k
    gone = passed N W lane ins outs k (accepted_by_all N W (add_call lane ins outs) k e)

    base_added : Base P N (with_add (reg_for lane ins outs) k) s.guide s.lowest σ
    unfolding with_add watermark tracked row_of
    base_added =
        let B = R.base in
        record {
          guided = record { p_is = B.guided.p_is; v_is = B.guided.v_is; places = B.guided.places; stands = B.guided.stands; view_is = B.guided.view_is };
          rowed = record { long = B.rowed.long; rows = B.rowed.rows };
          tracked = record { places = B.tracked.places; watermark_is = B.tracked.watermark_is };
        }

    sound_added : Sound P N W (with_add (reg_for lane ins outs) k) (s.added ∷ [])
    sound_added =
        rw R.counted.added_is (sound_adding P N W (positive R) lane ins outs k (accepted_by_all N W (add_call lane ins outs) k e) (all_ready N W lane ins outs k e) Q.between.sound)

    reg_is : reg_of (with_add (reg_for lane ins outs) k) s.added ≡ (reg_for lane ins outs)
    reg_is = rw R.counted.added_is (reg_of_new (reg_for lane ins outs) k)

    more : s.added < N
    more = omega (arith, R.counted.added_is, gone.more)

    lowest_is : s.lowest ≡ lowest N k
    lowest_is = R.base.tracked.watermark_is

    placed_lowest : s.lowest + length outs ≡ watermark N (place_one P s.added s.added (with_add (reg_for lane ins outs) k))
    placed_lowest = rw (lowest_is, R.counted.added_is) (sym (lowest_add P N W lane ins outs k Q e))

    room_above : s.lowest + length outs ≤ N
    room_above = omega (arith, placed_lowest, watermark_le N (place_one P s.added s.added (with_add (reg_for lane ins outs) k)))

    may_put : {after : Option Location} → Leads σ.locations ins (length ins) after → MayPut s.added s.added s.guide s.lowest σ (has after) (span_of after) (pos_of after) lane
    unfolding with_add
    may_put t =
        record {
          P = P;
          N = N;
          W = W;
          k = with_add (reg_for lane ins outs) k;
          st = [];
          base = base_added;
          sound = sound_added;
          ended = simp length-append (omega (arith, R.counted.added_is));
          led = rw reg_is (record { has_is = t.has_is; peak_is = t.peak_is; low = t.low; lane_is = refl });
        }

    outs_are : (reg_of (with_add (reg_for lane ins outs) k) s.added).outs ≡ places_from s.lowest (length outs)
    outs_are = ap (λ (a : Reg). a.outs) reg_is ∙ (add_passed N W lane ins outs k e).outs_are ∙ ap (λ (m : ℕ). places_from m (length outs)) (sym lowest_is)

    counted_closed : (k.closed ≡ false) → s.registrations ≡ 0
    counted_closed c = R.counted.registrations_is ∙ rw c

    module _ {after : Option Location} (t : Leads σ.locations ins (length ins) after) {h : Guide} {sp o tl : List ℕ} {span' pos' : ℕ}
        (U : Pushes s.guide h (loc_of after) (item_of (entry_for s.added s.added lane)) σ.spans σ.order σ.tally sp o tl span' pos')
        {rs rs' m l : List ℕ} {loc : ℕ} (er : rs ≡ filled σ.rows s.guide.written (row o s.guide.written (h.written - s.guide.written)))
        (el : loc ≡ packed span' pos') (Z : Stamped σ.marks σ.locations (places_from s.lowest (length outs)) loc m l)
        (en : rs' ≡ with_written rs s.added h.written) where
      abbrev τ : Storage
      τ = placed_storage σ sp o tl rs m l

      abbrev j : Model
      j = place_one P s.added s.added (with_add (reg_for lane ins outs) k)

      stamps : Stamped σ.marks σ.locations (reg_of (with_add (reg_for lane ins outs) k) s.added).outs (packed span' pos') m l
      stamps = rw (outs_are, ← el) Z

      base_placed : Base P N j h (s.lowest + length outs) τ
      unfolding may_put with_add
      base_placed = put_base (may_put t) U er stamps placed_lowest

      base_noted : Base P N (note_add j) h (s.lowest + length outs) (with_rows τ rs')
      unfolding note_add with_record watermark tracked place_one with_add
      base_noted =
          let B = base_placed in
          record {
            guided = record { p_is = B.guided.p_is; v_is = B.guided.v_is; places = B.guided.places; stands = B.guided.stands; view_is = B.guided.view_is };
            rowed = rw en (rowed_added N s.added h.written j τ (Q.between.noted ∙ sym R.counted.added_is) more (written_shown B.guided) B.rowed);
            tracked = record { places = B.tracked.places; watermark_is = B.tracked.watermark_is };
          }

      rep_noted : Rep P N W (note_add j) (with_added s h (length ins) (length outs)) (with_rows τ rs')
      unfolding note_add with_record place_one with_add
      rep_noted =
          record {
            base = base_noted;
            counted = record {
              added_is = simp length-append (omega (arith, R.counted.added_is));
              used_is = omega (arith, R.counted.used_is, pooled_append k.adds (reg_for lane ins outs));
              room_is = R.counted.room_is;
              flushes_is = R.counted.flushes_is;
              closed_is = R.counted.closed_is;
              registrations_is = rw gone.not_closed (counted_closed gone.not_closed);
              places_is = R.counted.places_is;
            };
          }

      rep_added : Rep P N W (apply_call P N (add_call lane ins outs) k) (with_added s h (length ins) (length outs)) (with_rows τ rs')
      unfolding apply_call
      rep_added =
          subst (λ (d : Model). Rep P N W (note_add d) (with_added s h (length ins) (length outs)) (with_rows τ rs')) (sym placed) rep_noted
        where
          placed : do_add P N (reg_for lane ins outs) k ≡ j
          placed = rw R.counted.added_is (placed_alone P N W lane ins outs k Q.none_waits e)

      frame_added : Frame s.guide.p s.guide.v s.guide.written h.written σ (with_rows τ rs')
      unfolding may_put with_add
      frame_added =
          frame_trans s.guide.p s.guide.v s.guide.written h.written h.written σ τ (with_rows τ rs') (put_frame (may_put t) U er stamps)
          (rw en (frame_noted s.guide.p s.guide.v h.written s.added h.written τ (omega (arith, more, R.base.guided.v_is))))

  -- what the steps ask
  module _ (a : MayDo (add_call lane ins outs) s σ) where
    abbrev rep : Rep a.asks.parallelism a.asks.places a.asks.room a.asks.model s σ
    rep = a.asks.rep

    pub add_counts : (s.added + 1 < 2 ^ 32) × (s.used + (length ins + length outs) ≤ s.room) × (s.lowest + length outs ≤ most_places)
    add_counts = (
      omega (arith, more rep a.asks.reached a.accepted, small rep),
      omega (arith, (gone rep a.asks.reached a.accepted).room, rep.counted.used_is, rep.counted.room_is),
      omega (arith, room_above rep a.asks.reached a.accepted, small rep),
    )

    pub lane_few : lane ≤ most_lane
    lane_few = (gone rep a.asks.reached a.accepted).lane_few

    pub ins_located : Below (length σ.locations) ins
    ins_located =
        all_below (length σ.locations) ins
        (λ i y. omega (arith, (gone rep a.asks.reached a.accepted).ins_inside i y, rep.base.tracked.places.locations_long))

    pub outs_stamped : (s.lowest + length outs ≤ length σ.marks) × (s.lowest + length outs ≤ length σ.locations)
    outs_stamped =
        let h = room_above rep a.asks.reached a.accepted in
        (omega (arith, h, rep.base.tracked.places.marks_long), omega (arith, h, rep.base.tracked.places.locations_long))

    pub may_place : {after : Option Location} → Leads σ.locations ins (length ins) after → MayPut s.added s.added s.guide s.lowest σ (has after) (span_of after) (pos_of after) lane
    may_place = may_put rep a.asks.reached a.accepted

    -- the row that is noted, after rows of the same length
    pub row_there : (rs : List ℕ) → length rs ≡ length σ.rows → has_row rs s.added
    row_there rs e = omega (arith, e, more rep a.asks.reached a.accepted, rep.base.rowed.long)

    -- what is done in the end
    module _ {after : Option Location} (t : Leads σ.locations ins (length ins) after) {h : Guide} {sp o tl : List ℕ} {span' pos' : ℕ}
        (U : Pushes s.guide h (loc_of after) (item_of (entry_for s.added s.added lane)) σ.spans σ.order σ.tally sp o tl span' pos')
        {rs rs' m l : List ℕ} {loc : ℕ} (er : rs ≡ filled σ.rows s.guide.written (row o s.guide.written (h.written - s.guide.written)))
        (el : loc ≡ packed span' pos') (Z : Stamped σ.marks σ.locations (places_from s.lowest (length outs)) loc m l)
        (en : rs' ≡ with_written rs s.added h.written) where
      pub adds : Does (add_call lane ins outs) s (with_added s h (length ins) (length outs)) σ (with_rows (placed_storage σ sp o tl rs m l) rs')
      adds =
          record {
            rep = λ P N W k R Q e. rep_added R Q e t U er el Z en;
            frame = frame_added rep a.asks.reached a.accepted t U er el Z en;
          }
