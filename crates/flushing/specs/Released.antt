-- A flush over storage: what releasing all 32 spans asks and promises of a session's parts, and the promise from those of the guide and of
-- the rows. Assumes nothing.
use Rattle.std.specs.Prelude.{◌≡◌, refl, Bool, ℕ, ◌+◌, ◌-◌, ◌^◌, ◌≤◌, ◌<◌, length, get_or, set}
use Rattle.std.proofs.Common.{sym, ◌∙◌, inl, inr, arith, get_or-set_same, get_or-set_other}
use Rattle.std.proofs.Math.Path.{ap, subst}
use mathlib.Core.List.{List, [], ◌∷◌}
use Rattle.rules.specs.Guide.{Guide as GuideModel, Entry as OrderEntry, flush as flush_guide}
use Rattle.rules.specs.Model.{Model, watermark as watermark_of, tracked, with_record, note_flush, with_flush}
use Rattle.laws.specs.History.{lt_or_le}
use Rattle.laws.specs.Placeable.{Fits}
use Rattle.entries.specs.Entries.{fits, row}
use Rattle.buffer.specs.declared.Guide.{Guide}
use Rattle.buffer.specs.View.{view, order_of}
use Rattle.placing.specs.Stands.{Stands}
use Rattle.placing.specs.Done.{Done, order_view}
use Rattle.guide.specs.Ready.{Ready}
use Rattle.rules.specs.Record.{row_of}
use Rattle.records.specs.Filling.{rows_fit, filled, Fillable}
use Rattle.records.specs.Filled.{Filled, Known, RowsFrame, written_stored}
use Rattle.session.specs.Storage.{storage, Frame, beyond_refl}
use Rattle.session.specs.Rep.{Base}
use Rattle.session.specs.Noting.{noted, noted_none, noted_some, noted_frame}
use Rattle.session.specs.Rows.{order_registered, rows_fillable, rows_filled, rows_frame}

-- some model is meant; what it holds fits, and so does what a flush makes of it
pub record MayRelease (g : Guide) (added : ℕ) (sp o t rs : List ℕ) : Type 0 where
  pub P : ℕ
  pub N : ℕ
  pub k : Model
  pub watermark : ℕ
  pub m : List ℕ
  pub l : List ℕ
  pub w : List ℕ
  pub pool : List ℕ
  pub base : Base P N k g watermark (storage sp o t rs m l w pool)
  pub fits : Fits P N k
  pub flushed : Fits P N (with_flush P k.flushes k.closed k)
  pub added_is : added ≡ length k.adds

-- f and b are the count of plain flushes and whether the session is closed, afterwards
pub record Releases (g h : Guide) (added : ℕ) (sp o t rs o' t' rs' : List ℕ) : Type 0 where
  pub base : (P N : ℕ) (k : Model) (watermark f : ℕ) (b : Bool) (m l w pool : List ℕ) → Base P N k g watermark (storage sp o t rs m l w pool) → Fits P N (with_flush P k.flushes k.closed k)
      → length k.recorded.written ≡ length k.adds → added ≡ length k.adds → Base P N (note_flush (with_flush P f b k)) h watermark (storage sp o' t' rs' m l w pool)
  pub frame : (m l w pool : List ℕ) → Frame g.p g.v g.written h.written (storage sp o t rs m l w pool) (storage sp o' t' rs' m l w pool)

-- the latest row's written is the model's
noted_filled : (N n : ℕ) (rs ws : List ℕ) (os : List OrderEntry) → rows_fit rs N → length ws ≤ N → Filled N rs ws os → Filled N (noted 0 (length ws) n rs) (set ws (length ws - 1) n) os
noted_filled N n rs ws os long h f =
    elim (lt_or_le 0 (length ws)) [
      | inl x ↦ subst (λ (l : List ℕ). Filled N l (set ws (length ws - 1) n) os) (sym (noted_some 0 (length ws) n rs x))
          (written_stored N rs (length ws - 1) n (omega arith) ws (set ws (length ws - 1) n) os long (get_or-set_same ws (length ws - 1) n 0 (omega arith))
          (λ q y. get_or-set_other ws (length ws - 1) q n 0 y) f)
      | inr x ↦ subst (λ (l : List ℕ). Filled N l (set ws (length ws - 1) n) os) (sym (noted_none 0 (length ws) n rs x))
          (subst (λ (l : List ℕ). Filled N rs l os) (sym (none ws x)) f)
    ]
  where
    none : (l : List ℕ) → length l ≤ 0 → set l (length l - 1) n ≡ l
    none [] x = refl
    none (y ∷ l) x = absurd (omega arith)

module _ (g : Guide) (added : ℕ) (sp o t rs : List ℕ) where
  pub asks_flush : MayRelease g added sp o t rs → Stands g sp o t × Ready g.p g.v (view g sp o)
  asks_flush a = (
    a.base.guided.stands,
    rw (a.base.guided.view_is, a.base.guided.p_is, a.base.guided.v_is)
        (record { later = a.fits.later; room = omega (arith, a.fits.room, a.fits.many); low = omega (arith, a.fits.low) }),
  )

  module _ (h : Guide) (o' t' : List ℕ) (D : Done g h sp o t sp o' t' (flush_guide g.p (view g sp o))) where
    abbrev n : ℕ
    n = g.written

    abbrev new : ℕ
    new = h.written - g.written

    all : n + new ≡ h.written
    all = omega (arith, D.frame.grows)

    module _ (P N : ℕ) (k : Model) (watermark : ℕ) (m l w pool : List ℕ) (B : Base P N k g watermark (storage sp o t rs m l w pool)) (F : Fits P N (with_flush P k.flushes k.closed k)) where
      view_is : view h sp o' ≡ flush_guide P k.guide
      view_is = D.is ∙ ap (λ (b : GuideModel). flush_guide g.p b) B.guided.view_is ∙ ap (λ (p : ℕ). flush_guide p k.guide) B.guided.p_is

      order_is : order_of o' (n + new) ≡ (flush_guide P k.guide).order
      unfolding view
      order_is = ap (λ (x : ℕ). order_of o' x) all ∙ ap (λ (b : GuideModel). b.order) view_is

      known : Known N (order_of o' (n + new))
      unfolding with_flush
      known = subst (λ (x : List OrderEntry). Known N x) (sym order_is) (order_registered P N (with_flush P k.flushes k.closed k) F)

      written_is : h.written ≡ length (flush_guide P k.guide).order
      written_is = sym (order_view h sp o') ∙ ap (λ (b : GuideModel). length b.order) view_is

      written_fits : h.written ≤ N
      unfolding with_flush
      written_fits = omega (arith, written_is, F.room, F.many)

      rows_here : Fillable o' n new rs × (Filled N (filled rs n (row o' n new)) k.recorded.written (flush_guide P k.guide).order × RowsFrame N rs (filled rs n (row o' n new)))
      unfolding view row_of
      rows_here = (
        rows_fillable N n new o o' rs B.rowed.long D.frame.order_kept known,
        (
          subst (λ (x : List OrderEntry). Filled N (filled rs n (row o' n new)) k.recorded.written x) order_is
              (rows_filled N n new o o' rs B.rowed.long D.frame.order_kept known k.recorded.written
              (subst (λ (x : List OrderEntry). Filled N rs k.recorded.written x) (sym (ap (λ (b : GuideModel). b.order) B.guided.view_is)) B.rowed.rows)),
          rows_frame N n new o o' rs B.rowed.long D.frame.order_kept known,
        ),
      )

    pub asks_fill : MayRelease g added sp o t rs → (fits o' (n + new) × (n + new < 2 ^ 32)) × Fillable o' n new rs
    asks_fill a =
        let w = written_fits a.P a.N a.k a.watermark a.m a.l a.w a.pool a.base a.flushed in (
          (
            omega (arith, all, w, a.base.guided.v_is, a.base.guided.stands.order_long, D.frame.order_length),
            omega (arith, all, w, a.base.guided.v_is, a.base.guided.stands.small),
          ),
          (rows_here a.P a.N a.k a.watermark a.m a.l a.w a.pool a.base a.flushed).0,
        )

    module _ (rs₁ : List ℕ) (er : rs₁ ≡ filled rs n (row o' n new)) where
      pub asks_note : MayRelease g added sp o t rs → 0 < added → rows_fit rs₁ added
      asks_note a h =
          let x = (rows_here a.P a.N a.k a.watermark a.m a.l a.w a.pool a.base a.flushed).1.1.long in
          omega (arith, ap length er, x, a.base.rowed.long, a.fits.many, a.added_is)

      pub releases : (rs' : List ℕ) → rs' ≡ noted 0 added h.written rs₁ → MayRelease g added sp o t rs → Releases g h added sp o t rs o' t' rs'
      unfolding note_flush with_record with_flush watermark_of tracked row_of
      releases rs' en a =
          record { base = base; frame = frame }
        where
          rows_are : RowsFrame a.N rs (filled rs n (row o' n new))
          rows_are = (rows_here a.P a.N a.k a.watermark a.m a.l a.w a.pool a.base a.flushed).1.1

          noted_are : RowsFrame g.v rs₁ (noted 0 added h.written rs₁)
          noted_are = noted_frame 0 added h.written rs₁ g.v (omega (arith, a.added_is, a.fits.many, a.base.guided.v_is))

          base : (P N : ℕ) (k : Model) (watermark f : ℕ) (b : Bool) (m l w pool : List ℕ) → Base P N k g watermark (storage sp o t rs m l w pool) → Fits P N (with_flush P k.flushes k.closed k)
              → length k.recorded.written ≡ length k.adds → added ≡ length k.adds → Base P N (note_flush (with_flush P f b k)) h watermark (storage sp o' t' rs' m l w pool)
          base P N k watermark f b m l w pool B F ew ea =
              let x = rows_here P N k watermark m l w pool B F in
              record {
                guided = record {
                  p_is = D.same_p ∙ B.guided.p_is;
                  v_is = D.same_v ∙ B.guided.v_is;
                  places = B.guided.places;
                  stands = D.stands;
                  view_is = view_is P N k watermark m l w pool B F;
                };
                rowed = record {
                  long = omega (arith, ap length en, (noted_frame 0 added h.written rs₁ N (omega (arith, F.many, ea))).long, ap length er, x.1.1.long, B.rowed.long);
                  rows =
                      let os : List OrderEntry = (flush_guide P k.guide).order in
                      let ws : List ℕ = k.recorded.written in
                      let old : Filled N rs₁ ws os = subst (λ (y : List ℕ). Filled N y ws os) (sym er) x.1.0 in
                      subst (λ (y : ℕ). Filled N rs' (set ws (length ws - 1) y) os) (written_is P N k watermark m l w pool B F)
                      (subst (λ (y : List ℕ). Filled N y (set ws (length ws - 1) h.written) os) (sym en)
                      (subst (λ (y : ℕ). Filled N (noted 0 y h.written rs₁) (set ws (length ws - 1) h.written) os) (ew ∙ sym ea)
                      (noted_filled N h.written rs₁ ws os (omega (arith, ap length er, x.1.1.long, B.rowed.long)) (omega (arith, F.many, ew)) old)));
                };
                tracked = record { places = B.tracked.places; watermark_is = B.tracked.watermark_is };
              }

          frame : (m l w pool : List ℕ) → Frame g.p g.v g.written h.written (storage sp o t rs m l w pool) (storage sp o' t' rs' m l w pool)
          frame m l w pool =
              record {
                grows = D.frame.grows;
                spans = beyond_refl _ sp;
                order = record { long = D.frame.order_length; same = D.frame.order_beyond };
                before = D.frame.order_kept;
                tally = record { long = D.frame.tally_length; same = λ j q. D.frame.tally_beyond j (omega arith) };
                rows = record {
                  long = ap length en ∙ noted_are.long ∙ ap length er ∙ rows_are.long;
                  same = λ j q.
                      ap (λ (y : List ℕ). get_or y j 0) en ∙ noted_are.beyond j q ∙ ap (λ (y : List ℕ). get_or y j 0) er ∙ rows_are.beyond j (omega (arith, a.base.guided.v_is));
                };
                marks = beyond_refl _ m;
                locations = beyond_refl _ l;
                waiting = beyond_refl _ w;
                pool = refl;
              }
