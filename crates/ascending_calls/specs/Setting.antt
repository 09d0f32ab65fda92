-- An accepted set under the ascending profile: the lowest place is marked as set, and the one after it is the lowest. Assumes nothing.
use Rattle.std.specs.Prelude.{◌≡◌, List, ℕ, ◌+◌, ◌^◌, ◌<◌, length, set}
use Rattle.std.proofs.Common.{sym, ◌∙◌, arith, length-set, get_or-set_other}
use Rattle.rules.specs.Limits.{mark_set}
use Rattle.rules.specs.Record.{row_of}
use Rattle.rules.specs.Model.{Model, with_set}
use Rattle.rules.specs.Calls.{set as set_call, apply_call}
use Rattle.rules.specs.Ascending.{answer}
use Rattle.laws.specs.Accepted.{set_passed}
use Rattle.ascending.specs.Claims.{Reached}
use Rattle.ascending.specs.Same.{accepted_by_all, set_alone}
use Rattle.ascending.specs.Lowest.{set_lowest, lowest_set}
use Rattle.tracking.specs.Places.{places_set}
use Rattle.session.specs.Storage.{Storage, with_marks, Frame, frame_refl}
use Rattle.ascending_session.specs.declared.Ascending.{Ascending}
use Rattle.ascending_session.specs.Rep.{Rep}
use Rattle.ascending_session.specs.Promise.{MayDo, Does, small}

-- the session with the next place as its lowest one
abbrev pub risen : Ascending → Ascending
risen s =
    record {
      guide = s.guide;
      lowest = s.lowest + 1;
      added = s.added;
      used = s.used;
      room = s.room;
      flushes = s.flushes;
      closed = s.closed;
      registrations = s.registrations;
      places = s.places;
    }

-- the storage with other marks, and with the session's lowest place marked as set
abbrev pub marked : Storage → List ℕ → Storage
marked σ m = with_marks σ m σ.waiting

abbrev after_set : Ascending → Storage → Storage
after_set s σ = marked σ (set σ.marks s.lowest mark_set)

module _ (x : ℕ) (s : Ascending) (σ : Storage) where
  -- the place that is set: the lowest one, which is inside
  set_at : {P N W : ℕ} {k : Model} → Rep P N W k s σ → answer N W (set_call x) k ≡ 0 → (x ≡ s.lowest) × (x < N)
  set_at {N = N} {W = W} {k = k} R e =
      (set_lowest N W x k e ∙ sym R.base.tracked.watermark_is, (set_passed N W x k (accepted_by_all N W (set_call x) k e)).inside)

  rep_set : {P N W : ℕ} {k : Model} → Rep P N W k s σ → Reached P N W k → answer N W (set_call x) k ≡ 0 → Rep P N W (with_set x k) (risen s) (after_set s σ)
  unfolding with_set row_of
  rep_set {P} {N} {W} {k} R Q e =
      let B = R.base in
      let C = R.counted in
      let G = B.guided in
      record {
        base = record {
          guided = record { p_is = G.p_is; v_is = G.v_is; places = G.places; stands = G.stands; view_is = G.view_is };
          rowed = record { long = B.rowed.long; rows = B.rowed.rows };
          tracked = record {
            places = rw (← (set_at R e).0) (places_set N k.sets k.located σ.marks σ.locations x B.tracked.places);
            watermark_is = omega (arith, B.tracked.watermark_is, lowest_set N W x k Q e);
          };
        };
        counted = record {
          added_is = C.added_is;
          used_is = C.used_is;
          room_is = C.room_is;
          flushes_is = C.flushes_is;
          closed_is = C.closed_is;
          registrations_is = C.registrations_is;
          places_is = C.places_is;
        };
      }

frame_set : (s : Ascending) (σ : Storage) → s.lowest < s.guide.v → Frame s.guide.p s.guide.v s.guide.written s.guide.written σ (after_set s σ)
frame_set s σ h =
    let f = frame_refl s.guide.p s.guide.v s.guide.written σ in
    record {
      grows = f.grows;
      spans = f.spans;
      order = f.order;
      before = f.before;
      tally = f.tally;
      rows = f.rows;
      marks = record { long = length-set σ.marks s.lowest mark_set; same = λ j y. get_or-set_other σ.marks s.lowest j mark_set 0 (omega arith) };
      locations = f.locations;
      waiting = f.waiting;
      pool = f.pool;
    }

module _ {x : ℕ} {s : Ascending} {σ : Storage} where
  pub set_inside : MayDo (set_call x) s σ → s.lowest < length σ.marks
  set_inside a =
      let R = a.asks.rep in
      let h = set_at x s σ R a.accepted in
      omega (arith, h.0, h.1, R.base.tracked.places.marks_long)

  -- it is small, so that the next place fits
  pub set_low : MayDo (set_call x) s σ → s.lowest < 2 ^ 32
  set_low a = let h = set_at x s σ a.asks.rep a.accepted in omega (arith, h.0, h.1, small a.asks.rep)

  pub sets : MayDo (set_call x) s σ → Does (set_call x) s (risen s) σ (marked σ (set σ.marks s.lowest mark_set))
  unfolding apply_call
  sets a =
      let h = set_at x s σ a.asks.rep a.accepted in
      record {
        rep = λ P N W k R Q e. rw (set_alone P N x k Q.none_waits) (rep_set x s σ R Q e);
        frame = frame_set s σ (omega (arith, h.0, h.1, a.asks.rep.base.guided.v_is));
      }

  -- the same of marks that were found to be those
  pub sets_marks : {m : List ℕ} → m ≡ set σ.marks s.lowest mark_set → MayDo (set_call x) s σ → Does (set_call x) s (risen s) σ (marked σ m)
  sets_marks e a = rw e (sets a)
