-- The work of flush and of final under the ascending profile: what releasing all spans asks, and what is done in the end. Assumes nothing.
use Rattle.std.specs.Prelude.{◌≡◌, refl, List, Bool, ℕ, suc, ◌+◌, ◌^◌, ◌<◌}
use Rattle.std.proofs.Math.Bool.{true}
use Rattle.std.proofs.Common.{arith}
use Rattle.rules.specs.Record.{row_of}
use Rattle.rules.specs.Model.{Model, tracked, watermark, with_record, with_flush, note_flush, note_final, do_flush, do_final}
use Rattle.rules.specs.Calls.{flush as flush_call, final as final_call, apply_call}
use Rattle.rules.specs.Ascending.{answer}
use Rattle.laws.specs.Accepted.{flush_passed}
use Rattle.laws.specs.ModelBase.{watermark_le}
use Rattle.laws.specs.Placeable.{Fits}
use Rattle.ascending.specs.Claims.{Reached}
use Rattle.ascending.specs.Same.{accepted_by_all}
use Rattle.buffer.specs.declared.Guide.{Guide}
use Rattle.flushing.specs.Released.{MayRelease, Releases}
use Rattle.flushing.specs.Fitting.{fits_now, fits_flush, fits_final}
use Rattle.session.specs.Storage.{Storage, with_order}
use Rattle.session.specs.Rep.{Base}
use Rattle.ascending_session.specs.declared.Ascending.{Ascending}
use Rattle.ascending_session.specs.Rep.{Rep}
use Rattle.ascending_session.specs.Promise.{MayDo, Does, positive, small}
use Rattle.rules.specs.Calls.{Call}

-- the session after a plain flush, and after final
abbrev pub flushed_session : Ascending → Guide → Ascending
flushed_session s h =
    record {
      guide = h;
      lowest = s.lowest;
      added = s.added;
      used = s.used;
      room = s.room;
      flushes = s.flushes + 1;
      closed = s.closed;
      registrations = s.registrations;
      places = s.places;
    }

abbrev pub final_session : Ascending → Guide → Ascending
final_session s h =
    record {
      guide = h;
      lowest = s.lowest;
      added = s.added;
      used = s.used;
      room = s.room;
      flushes = s.flushes;
      closed = true;
      registrations = s.added;
      places = s.lowest;
    }

module _ {P N W : ℕ} {k : Model} {s : Ascending} {σ : Storage} (R : Rep P N W k s σ) (Q : Reached P N W k) where
  flush_fits : answer N W flush_call k ≡ 0 → Fits P N (with_flush P k.flushes k.closed k)
  flush_fits e = fits_flush P N W k (positive R) (small R) Q.between (accepted_by_all N W flush_call k e)

  final_fits : answer N W final_call k ≡ 0 → Fits P N (with_flush P k.flushes k.closed k)
  final_fits e = fits_final P N W k (positive R) (small R) Q.between (accepted_by_all N W final_call k e)

  may_release : Fits P N (with_flush P k.flushes k.closed k) → MayRelease s.guide s.added σ.spans σ.order σ.tally σ.rows
  may_release F =
      record {
        P = P;
        N = N;
        k = k;
        watermark = s.lowest;
        m = σ.marks;
        l = σ.locations;
        w = σ.waiting;
        pool = σ.pool;
        base = R.base;
        fits = fits_now P N W k (positive R) (small R) Q.between;
        flushed = F;
        added_is = R.counted.added_is;
      }

  module _ (F : Fits P N (with_flush P k.flushes k.closed k)) {h : Guide} {o t rs : List ℕ}
      (Z : Releases s.guide h s.added σ.spans σ.order σ.tally σ.rows o t rs) where
    abbrev τ : Storage
    τ = with_order σ σ.spans o t rs

    base_flushed : (f : ℕ) (b : Bool) → Base P N (note_flush (with_flush P f b k)) h s.lowest τ
    base_flushed f b = Z.base P N k s.lowest f b σ.marks σ.locations σ.waiting σ.pool R.base F Q.between.noted R.counted.added_is

    rep_flush : Rep P N W (do_flush P k) (flushed_session s h) τ
    unfolding do_flush note_flush with_record with_flush
    rep_flush =
        let C = R.counted in
        record {
          base = base_flushed (suc k.flushes) k.closed;
          counted = record {
            added_is = C.added_is;
            used_is = C.used_is;
            room_is = C.room_is;
            flushes_is = omega (arith, C.flushes_is);
            closed_is = C.closed_is;
            registrations_is = C.registrations_is;
            places_is = C.places_is;
          };
        }

    rep_final : Rep P N W (do_final P N k) (final_session s h) τ
    unfolding do_final note_final note_flush with_record with_flush watermark tracked row_of
    rep_final =
        let C = R.counted in
        let B = base_flushed k.flushes true in
        let G = B.guided in
        record {
          base = record {
            guided = record { p_is = G.p_is; v_is = G.v_is; places = G.places; stands = G.stands; view_is = G.view_is };
            rowed = record { long = B.rowed.long; rows = B.rowed.rows };
            tracked = record { places = B.tracked.places; watermark_is = B.tracked.watermark_is };
          };
          counted = record {
            added_is = C.added_is;
            used_is = C.used_is;
            room_is = C.room_is;
            flushes_is = C.flushes_is;
            closed_is = refl;
            registrations_is = C.added_is;
            places_is = B.tracked.watermark_is;
          };
        }

module _ {s : Ascending} {σ : Storage} where
  -- what releasing asks, for flush and for final
  pub flush_releases : MayDo flush_call s σ → MayRelease s.guide s.added σ.spans σ.order σ.tally σ.rows
  flush_releases m = let a = m.asks in may_release a.rep a.reached (flush_fits a.rep a.reached m.accepted)

  pub final_releases : MayDo final_call s σ → MayRelease s.guide s.added σ.spans σ.order σ.tally σ.rows
  final_releases m = let a = m.asks in may_release a.rep a.reached (final_fits a.rep a.reached m.accepted)

  -- the counts that change fit
  pub flush_counts : MayDo flush_call s σ → s.flushes + 1 < 2 ^ 32
  flush_counts m =
      let a = m.asks in
      omega (arith, a.rep.counted.flushes_is, (flush_passed a.places a.room a.model (accepted_by_all a.places a.room flush_call a.model m.accepted)).few)

  pub final_counts : MayDo final_call s σ → s.lowest < 2 ^ 32
  final_counts m =
      let a = m.asks in
      omega (arith, a.rep.base.tracked.watermark_is, watermark_le a.places a.model, small a.rep)

  module _ {h : Guide} {o t rs : List ℕ} (Z : Releases s.guide h s.added σ.spans σ.order σ.tally σ.rows o t rs) where
    pub flush_does : Does flush_call s (flushed_session s h) σ (with_order σ σ.spans o t rs)
    unfolding apply_call
    flush_does = record { rep = λ P N W k R Q e. rep_flush R Q (flush_fits R Q e) Z; frame = Z.frame σ.marks σ.locations σ.waiting σ.pool }

    pub final_does : Does final_call s (final_session s h) σ (with_order σ σ.spans o t rs)
    unfolding apply_call
    final_does = record { rep = λ P N W k R Q e. rep_final R Q (final_fits R Q e) Z; frame = Z.frame σ.marks σ.locations σ.waiting σ.pool }

-- what the work of flush or final, the call c, may presume and what it does, of the slices that it touches: asked of some storage with these
-- spans, order, tally and rows, and promised of every one
pub record MayFlush (c : Call) (s : Ascending) (sp o t rs : List ℕ) : Type 0 where
  pub around : Storage
  pub may : MayDo c s (with_order around sp o t rs)

abbrev pub Flushes : Call → Ascending → Ascending → List ℕ → List ℕ → List ℕ → List ℕ → List ℕ → List ℕ → List ℕ → Type 0
Flushes c s s' sp o t rs o' t' rs' = (σ : Storage) → Does c s s' (with_order σ sp o t rs) (with_order σ sp o' t' rs')

pub may_flush : {c : Call} {s : Ascending} {σ : Storage} → MayDo c s σ → MayFlush c s σ.spans σ.order σ.tally σ.rows
may_flush {σ = σ} m = record { around = σ; may = m }

pub flushes : {c : Call} {s s' : Ascending} {σ : Storage} {o t rs : List ℕ} → Flushes c s s' σ.spans σ.order σ.tally σ.rows o t rs
    → Does c s s' σ (with_order σ σ.spans o t rs)
flushes {σ = σ} f = f σ
