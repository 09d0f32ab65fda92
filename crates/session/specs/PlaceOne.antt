-- What the code of one placing needs at each call, and its promise, from what its callees promise. Assumes nothing.
use Rattle.std.specs.Prelude.{◌≡◌, List, ℕ, ◌+◌, ◌-◌, ◌^◌, ◌≤◌, ◌<◌, length}
use Rattle.std.proofs.Common.{sym, ap, subst, arith}
use Rattle.rules.specs.Limits.{most_places}
use Rattle.rules.specs.Model.{Model, run_from, reg_of, place_one}
use Rattle.laws.specs.Placeable.{Placeable}
use Rattle.lists.specs.Part.{part, Below}
use Rattle.pool.specs.Lists.{Lists}
use Rattle.tracking.specs.Tracking.{packed, tracked_in}
use Rattle.tracking.specs.Places.{stamped_from}
use Rattle.entries.specs.Entries.{fits, row, item_of}
use Rattle.buffer.specs.declared.Guide.{Guide}
use Rattle.buffer.specs.View.{view}
use Rattle.placing.specs.Stands.{Stands}
use Rattle.guide.specs.Ready.{Ready, Near, after_of}
use Rattle.guide.specs.Pushes.{Pushes}
use Rattle.records.specs.Filling.{filled, Fillable}
use Rattle.window.specs.Location.{has, span_of, pos_of}
use Rattle.session.specs.declared.After.{After}
use Rattle.session.specs.Storage.{Storage}
use Rattle.session.specs.Outputs.{Settling, Settled}
use Rattle.session.specs.Rep.{Core}
use Rattle.session.specs.Parts.{base}
use Rattle.session.specs.Placed.{MayPut, entry_for, placed_storage, all_below, base_placeable, put_push, put_fill}
use Rattle.session.specs.Placing.{Found, may_settle, placed, placed_frame}
use Rattle.session.specs.PlaceNext.{MayPlace, PlacesOne}

-- registration r is one of those whose lists lie in the pool
pub record MayFind (locations w pool : List ℕ) (v added used r : ℕ) : Type 0 where
  pub k : Model
  pub lists : Lists v k.adds used w pool
  pub mine : r < length k.adds
  pub added_is : added ≡ length k.adds
  pub ins_below : Below v (reg_of k r).ins
  pub long : v ≤ length locations
  pub small : v ≤ most_places

-- what is found is that of r's lists
pub record Finds (locations w pool : List ℕ) (v added used r : ℕ) (f : After) : Type 0 where
  pub found : (k : Model) → Lists v k.adds used w pool → r < length k.adds → added ≡ length k.adds → Found locations pool (reg_of k r) f

module _ (c r : ℕ) (g : Guide) (watermark added used : ℕ) (σ : Storage) where
  module _ (a : MayPlace c g watermark added used σ r) where
    may : Placeable a.P a.N r a.k
    may = base_placeable (base a.core) a.sound

    lists_at : Lists g.v a.k.adds used σ.waiting σ.pool
    lists_at =
        subst (λ (v : ℕ). Lists v a.k.adds used σ.waiting σ.pool) (sym a.core.guided.v_is)
        (subst (λ (x : ℕ). Lists a.N a.k.adds x σ.waiting σ.pool) (sym a.used_is) a.core.stored.lists)

  pub asks_find : MayPlace c g watermark added used σ r → MayFind σ.locations σ.waiting σ.pool g.v added used r
  asks_find a =
      record {
        k = a.k;
        lists = lists_at a;
        mine = (may a).mine;
        added_is = a.added_is;
        ins_below = subst (λ (v : ℕ). Below v (reg_of a.k r).ins) (sym a.core.guided.v_is) (all_below a.N (reg_of a.k r).ins (may a).lists.ins_below);
        long = omega (arith, a.core.tracked.places.locations_long, a.core.guided.v_is);
        small = a.core.guided.stands.small;
      }

  module _ (f : After) (D : Finds σ.locations σ.waiting σ.pool g.v added used r f) where
    found : (a : MayPlace c g watermark added used σ r) → Found σ.locations σ.pool (reg_of a.k r) f
    found a = D.found a.k (lists_at a) (may a).mine a.added_is

    abbrev put : MayPlace c g watermark added used σ r → MayPut c r g watermark σ (has f.after) (span_of f.after) (pos_of f.after) f.lane
    put a = record { P = a.P; N = a.N; W = a.W; k = a.k; st = a.st; base = base a.core; sound = a.sound; ended = a.ended; led = (found a).led }

    pub asks_push : MayPlace c g watermark added used σ r
        → Stands g σ.spans σ.order σ.tally × (Ready g.p g.v (view g σ.spans σ.order) × Near (view g σ.spans σ.order) (after_of (has f.after) (span_of f.after) (pos_of f.after)))
    asks_push a = put_push (put a)

    pub asks_settle : MayPlace c g watermark added used σ r → Settling σ.marks σ.locations σ.pool f.at f.n g.v watermark
    asks_settle a = may_settle f (put a) (found a)

    module _ (h : Guide) (sp o t : List ℕ) (span pos : ℕ)
        (U : Pushes g h (after_of (has f.after) (span_of f.after) (pos_of f.after)) (item_of (entry_for r c f.lane)) σ.spans σ.order σ.tally sp o t span pos) where
      abbrev n : ℕ
      n = g.written

      abbrev new : ℕ
      new = h.written - g.written

      pub asks_fill : MayPlace c g watermark added used σ r → (fits o (n + new) × (n + new < 2 ^ 32)) × Fillable o n new σ.rows
      asks_fill a = put_fill (put a) U

      pub places_one : (rs m l : List ℕ) (watermark' : ℕ) → MayPlace c g watermark added used σ r → rs ≡ filled σ.rows n (row o n new)
          → Settled σ.marks σ.locations (part σ.pool f.at f.n) (packed span pos) g.v m l watermark'
          → PlacesOne c r g watermark added used σ h watermark' (placed_storage σ sp o t rs m l)
      places_one rs m l watermark' a er Z =
          record {
            core = λ P N W k st C S E ea eu. core (record { P = P; N = N; W = W; k = k; st = st; core = C; sound = S; ended = E; added_is = ea; used_is = eu });
            rises = omega (arith, Z.watermark_is, ap (λ (x : List ℕ). run_from (tracked_in x) g.v 0) Z.stamps.marks_are, stamped_from g.v watermark σ.marks xs G.long G.low);
            frame = placed_frame f (put a) (found a) U er Z;
          }
        where
          xs : List ℕ
          xs = part σ.pool f.at f.n

          G : Settling σ.marks σ.locations σ.pool f.at f.n g.v watermark
          G = asks_settle a

          core : (b : MayPlace c g watermark added used σ r) → Core b.P b.N (place_one b.P c r b.k) h watermark' (placed_storage σ sp o t rs m l)
          core b = placed f (put b) (found b) U er Z b.core.stored
