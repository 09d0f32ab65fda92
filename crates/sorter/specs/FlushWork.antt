-- The work of flush and of final: what releasing all spans asks, and what is done in the end. Assumes nothing.
use Rattle.std.specs.Prelude.{◌≡◌, refl, List, Bool, ℕ, suc, ◌+◌, ◌^◌, ◌≤◌, ◌<◌, length}
use Rattle.std.proofs.Math.Bool.{true}
use Rattle.std.proofs.Common.{arith}
use Rattle.rules.specs.Record.{row_of}
use Rattle.rules.specs.Model.{Model, tracked, watermark as watermark_of, with_record, with_flush, note_flush, note_final, do_flush, do_final}
use Rattle.rules.specs.Checks.{taken}
use Rattle.rules.specs.Calls.{flush as flush_call, final as final_call, answer, apply_call}
use Rattle.laws.specs.Accepted.{flush_passed}
use Rattle.laws.specs.Placeable.{Fits}
use Rattle.laws.specs.Sound.{Between}
use Rattle.buffer.specs.declared.Guide.{Guide}
use Rattle.flushing.specs.Released.{MayRelease, Releases}
use Rattle.flushing.specs.Fitting.{fits_now, fits_flush, fits_final}
use Rattle.session.specs.declared.Session.{Session}
use Rattle.session.specs.Storage.{Storage, with_order}
use Rattle.session.specs.Rep.{Core, Rep}
use Rattle.session.specs.Parts.{base, few_places}
use Rattle.admitting.specs.Promise.{MayDo, Does, positive}
use Rattle.rules.specs.Calls.{Call}

-- the session after a plain flush, and after final
abbrev pub flushed_session : Session → Guide → Session
flushed_session s h =
    record {
      guide = h;
      watermark = s.watermark;
      added = s.added;
      used = s.used;
      delayed = s.delayed;
      flushes = s.flushes + 1;
      closed = s.closed;
      registrations = s.registrations;
      places = s.places;
    }

abbrev pub final_session : Session → Guide → Session
final_session s h =
    record { guide = h; watermark = s.watermark; added = s.added; used = s.used; delayed = s.delayed; flushes = s.flushes; closed = true; registrations = s.added; places = s.watermark }

module _ (P N : ℕ) (k : Model) (s : Session) (σ : Storage) (R : Rep P N k s σ) (B : Between P N (length σ.pool) k) where
  one : 1 ≤ P
  one = positive P N k s σ R

  rep_fits : Fits P N k
  rep_fits = fits_now P N (length σ.pool) k one (few_places R.core.guided) B

  flush_fits : answer N (length σ.pool) flush_call k ≡ 0 → Fits P N (with_flush P k.flushes k.closed k)
  flush_fits = fits_flush P N (length σ.pool) k one (few_places R.core.guided) B

  final_fits : answer N (length σ.pool) final_call k ≡ 0 → Fits P N (with_flush P k.flushes k.closed k)
  final_fits = fits_final P N (length σ.pool) k one (few_places R.core.guided) B

  may_release : Fits P N (with_flush P k.flushes k.closed k) → MayRelease s.guide s.added σ.spans σ.order σ.tally σ.rows
  may_release F =
      record {
        P = P;
        N = N;
        k = k;
        watermark = s.watermark;
        m = σ.marks;
        l = σ.locations;
        w = σ.waiting;
        pool = σ.pool;
        base = base R.core;
        fits = rep_fits;
        flushed = F;
        added_is = R.counted.added_is;
      }

  module _ (F : Fits P N (with_flush P k.flushes k.closed k)) (h : Guide) (o t rs : List ℕ) (Z : Releases s.guide h s.added σ.spans σ.order σ.tally σ.rows o t rs) where
    core_flushed : (f : ℕ) (b : Bool) → Core P N (note_flush (with_flush P f b k)) h s.watermark (with_order σ σ.spans o t rs)
    unfolding note_flush with_record with_flush taken
    core_flushed f b =
        let x = Z.base P N k s.watermark f b σ.marks σ.locations σ.waiting σ.pool (base R.core) F B.noted R.counted.added_is in
        record { guided = x.guided; rowed = x.rowed; tracked = x.tracked; stored = record { lists = R.core.stored.lists; flags = R.core.stored.flags } }

    rep_flush : Rep P N (do_flush P k) (flushed_session s h) (with_order σ σ.spans o t rs)
    unfolding do_flush note_flush with_record with_flush
    rep_flush =
        record {
          core = core_flushed (suc k.flushes) k.closed;
          counted = record {
            added_is = R.counted.added_is;
            used_is = R.counted.used_is;
            flushes_is = omega (arith, R.counted.flushes_is);
            closed_is = R.counted.closed_is;
            registrations_is = R.counted.registrations_is;
            places_is = R.counted.places_is;
          };
          delayed = R.delayed;
          delayed_is = R.delayed_is;
        }

    rep_final : Rep P N (do_final P N k) (final_session s h) (with_order σ σ.spans o t rs)
    unfolding do_final note_final note_flush with_record with_flush watermark_of tracked taken row_of
    rep_final =
        let c = core_flushed k.flushes true in
        record {
          core = record {
            guided = record { p_is = c.guided.p_is; v_is = c.guided.v_is; places = c.guided.places; stands = c.guided.stands; view_is = c.guided.view_is };
            rowed = record { long = c.rowed.long; rows = c.rowed.rows };
            tracked = record { places = c.tracked.places; watermark_is = c.tracked.watermark_is };
            stored = record { lists = c.stored.lists; flags = c.stored.flags };
          };
          counted = record {
            added_is = R.counted.added_is;
            used_is = R.counted.used_is;
            flushes_is = R.counted.flushes_is;
            closed_is = refl;
            registrations_is = R.counted.added_is;
            places_is = c.tracked.watermark_is;
          };
          delayed = R.delayed;
          delayed_is = R.delayed_is;
        }

-- what releasing asks, for flush and for final
module _ (s : Session) (σ : Storage) where
  pub flush_releases : MayDo flush_call s σ → MayRelease s.guide s.added σ.spans σ.order σ.tally σ.rows
  flush_releases a = may_release a.parallelism a.places a.model s σ a.rep a.between (flush_fits a.parallelism a.places a.model s σ a.rep a.between a.accepted)

  pub final_releases : MayDo final_call s σ → MayRelease s.guide s.added σ.spans σ.order σ.tally σ.rows
  final_releases a = may_release a.parallelism a.places a.model s σ a.rep a.between (final_fits a.parallelism a.places a.model s σ a.rep a.between a.accepted)

  -- the counts that change fit
  pub flush_counts : MayDo flush_call s σ → s.flushes + 1 < 2 ^ 32
  flush_counts a = omega (arith, a.rep.counted.flushes_is, (flush_passed a.places (length σ.pool) a.model a.accepted).few)

  pub final_counts : MayDo final_call s σ → s.watermark < 2 ^ 32
  final_counts a =
      omega (
        arith,
        a.rep.core.tracked.watermark_is,
        (rep_fits a.parallelism a.places a.model s σ a.rep a.between).watermark_low,
        few_places a.rep.core.guided,
      )

  module _ (h : Guide) (o t rs : List ℕ) (Z : Releases s.guide h s.added σ.spans σ.order σ.tally σ.rows o t rs) where
    pub flush_does : Does flush_call s (flushed_session s h) σ (with_order σ σ.spans o t rs)
    unfolding apply_call
    flush_does =
        record { rep = λ P N k R B e. rep_flush P N k s σ R B (flush_fits P N k s σ R B e) h o t rs Z; frame = Z.frame σ.marks σ.locations σ.waiting σ.pool }

    pub final_does : Does final_call s (final_session s h) σ (with_order σ σ.spans o t rs)
    unfolding apply_call
    final_does =
        record { rep = λ P N k R B e. rep_final P N k s σ R B (final_fits P N k s σ R B e) h o t rs Z; frame = Z.frame σ.marks σ.locations σ.waiting σ.pool }

-- what the work of flush or final, the call c, may presume and what it does, of the slices that it touches: asked of some storage with these
-- spans, order, tally and rows, and promised of every one
pub record MayFlush (c : Call) (s : Session) (sp o t rs : List ℕ) : Type 0 where
  pub around : Storage
  pub may : MayDo c s (with_order around sp o t rs)

abbrev pub Flushes : Call → Session → Session → List ℕ → List ℕ → List ℕ → List ℕ → List ℕ → List ℕ → List ℕ → Type 0
Flushes c s s' sp o t rs o' t' rs' = (σ : Storage) → Does c s s' (with_order σ sp o t rs) (with_order σ sp o' t' rs')

pub may_flush : {c : Call} {s : Session} {σ : Storage} → MayDo c s σ → MayFlush c s σ.spans σ.order σ.tally σ.rows
may_flush {c} {s} {σ} m = record { around = σ; may = m }

pub flushes : {c : Call} {s s' : Session} {σ : Storage} {o t rs : List ℕ} → Flushes c s s' σ.spans σ.order σ.tally σ.rows o t rs
    → Does c s s' σ (with_order σ σ.spans o t rs)
flushes {σ = σ} f = f σ
