-- Placing a registration whose lists lie in the pool: what is found of it, what settling its outputs asks, and that the session still stands
-- for the model after `place_one`, lists and all. The rest of the placing is in Placed. Assumes nothing.
use Rattle.std.specs.Prelude.{◌≡◌, List, ℕ, ◌+◌, ◌-◌, ◌≤◌, length}
use Rattle.std.proofs.Common.{sym, ◌∙◌, subst, arith}
use Rattle.std.proofs.Math.Path.{ap}
use Rattle.rules.specs.Checks.{taken}
use Rattle.rules.specs.Model.{Reg, run_from, reg_of, place_one}
use Rattle.lists.specs.Part.{part, Below, listed_of}
use Rattle.tracking.specs.Tracking.{packed, tracked_in, Stamped}
use Rattle.tracking.specs.Places.{run_is}
use Rattle.entries.specs.Entries.{row, item_of}
use Rattle.buffer.specs.declared.Guide.{Guide}
use Rattle.guide.specs.Ready.{after_of}
use Rattle.guide.specs.Pushes.{Pushes}
use Rattle.records.specs.Filling.{filled}
use Rattle.window.specs.Location.{has, span_of, pos_of}
use Rattle.session.specs.declared.After.{After}
use Rattle.session.specs.Storage.{Storage, Frame}
use Rattle.session.specs.Outputs.{Settling, Settled}
use Rattle.session.specs.Rep.{Stored, Core}
use Rattle.session.specs.Placed.{Led, MayPut, entry_for, placed_storage, outs_below, put_places, put_base, put_frame}

-- what is read of a registration a: what placing reads, and where its outputs lie
pub record Found (locations pool : List ℕ) (a : Reg) (f : After) : Type 0 where
  pub led : Led locations a (has f.after) (span_of f.after) (pos_of f.after) f.lane
  pub inside : f.at + f.n ≤ length pool
  pub outs_are : part pool f.at f.n ≡ a.outs

module _ {c r : ℕ} {g : Guide} {watermark : ℕ} {σ : Storage} (f : After)
    (a : MayPut c r g watermark σ (has f.after) (span_of f.after) (pos_of f.after) f.lane) (F : Found σ.locations σ.pool (reg_of a.k r) f) where
  abbrev listed : List ℕ
  listed = part σ.pool f.at f.n

  pub may_settle : Settling σ.marks σ.locations σ.pool f.at f.n g.v watermark
  may_settle =
      let d = a.base.tracked in
      record {
        marks_listed = listed_of σ.pool f.at f.n a.N (length σ.marks) F.inside below d.places.marks_long;
        locations_listed = listed_of σ.pool f.at f.n a.N (length σ.locations) F.inside below d.places.locations_long;
        long = omega (arith, d.places.marks_long, a.base.guided.v_is);
        low = subst (λ (v : ℕ). watermark ≤ run_of v) (sym a.base.guided.v_is) (omega (arith, d.watermark_is, run_is a.N a.k σ.marks σ.locations d.places));
      }
    where
      below : Below a.N listed
      below = rw F.outs_are (outs_below a)

      run_of : ℕ → ℕ
      run_of v = run_from (tracked_in σ.marks) v 0

  module _ {h : Guide} {sp o t rs m l : List ℕ} {span pos watermark' : ℕ}
      (U : Pushes g h (after_of (has f.after) (span_of f.after) (pos_of f.after)) (item_of (entry_for r c f.lane)) σ.spans σ.order σ.tally sp o t span pos)
      (er : rs ≡ filled σ.rows g.written (row o g.written (h.written - g.written)))
      (Z : Settled σ.marks σ.locations listed (packed span pos) g.v m l watermark') where
    stamps : Stamped σ.marks σ.locations (reg_of a.k r).outs (packed span pos) m l
    stamps = subst (λ (x : List ℕ). Stamped σ.marks σ.locations x (packed span pos) m l) F.outs_are Z.stamps

    -- the session after the placing, and what it left alone
    pub placed : Stored a.N a.k σ → Core a.P a.N (place_one a.P c r a.k) h watermark' (placed_storage σ sp o t rs m l)
    unfolding place_one taken
    placed S =
        let moves = ap (λ (v : ℕ). run_from (tracked_in m) v 0) a.base.guided.v_is ∙ run_is a.N (place_one a.P c r a.k) m l (put_places a U stamps) in
        let b = put_base a U er stamps (Z.watermark_is ∙ moves) in
        record { guided = b.guided; rowed = b.rowed; tracked = b.tracked; stored = record { lists = S.lists; flags = S.flags } }

    pub placed_frame : Frame g.p g.v g.written h.written σ (placed_storage σ sp o t rs m l)
    placed_frame = put_frame a U er stamps
