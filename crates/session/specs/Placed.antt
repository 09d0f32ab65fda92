-- Placing one registration, whoever keeps its lists: what it asks of the guide, the rows, the marks and the locations, and from the guide's
-- promise, the rows filled and the outputs' stamps, that they stand for the model after `place_one`. Assumes nothing.
use Rattle.std.proofs.Math.Path.{◌≡◌, refl, ap, subst}
use Rattle.std.proofs.Common.{sym, ◌∙◌, arith}
use mathlib.Core.List.Memᴰ
use mathlib.Core.List.{List, [], ◌∷◌}
use Rattle.std.specs.Prelude.{Bool, ℕ, ◌+◌, ◌-◌, ◌^◌, ◌≤◌, ◌<◌, ltb, drop}
use Rattle.std.proofs.Math.ListN.{length}
use borrow.Author.Tests.{lt-ltb}
use Rattle.rules.specs.Limits.{location_radix, mark_written}
use Rattle.rules.specs.Guide.{Guide as GuideModel, Entry as OrderEntry, Loc, Item, Placed, place}
use Rattle.rules.specs.Model.{Reg, Model, watermark as watermark_of, top, after, reg_of, place_one, keep, rest, off, push}
use Rattle.rules.specs.Record.{pack, row_of}
use Rattle.laws.specs.ModelBase.{member_in}
use Rattle.laws.specs.Limits.{AllBelow}
use Rattle.laws.specs.Sound.{Sound, sound_placing}
use Rattle.laws.specs.Placeable.{Fits, Placeable, placeable, fits_of}
use Rattle.lists.specs.Part.{Below}
use Rattle.tracking.specs.Tracking.{packed, peak, stamped, Stamped}
use Rattle.tracking.specs.Places.{Places, packed_once, top_pack, Fresh, places_stamped, stamped_beyond, stamped_length}
use Rattle.entries.specs.declared.Entry.{Entry}
use Rattle.entries.specs.Entries.{fits, row, item_of}
use Rattle.buffer.specs.declared.Guide.{Guide}
use Rattle.buffer.specs.View.{view, order_of}
use Rattle.placing.specs.Stands.{Stands}
use Rattle.placing.specs.Done.{order_view}
use Rattle.guide.specs.Ready.{Ready, Near, after_of}
use Rattle.guide.specs.Pushes.{Pushes}
use Rattle.records.specs.Filling.{filled, Fillable}
use Rattle.records.specs.Filled.{Filled, Known, RowsFrame}
use Rattle.session.specs.Storage.{Storage, Frame, beyond_refl, beyond_drop}
use Rattle.session.specs.Rep.{Base}
use Rattle.session.specs.Parts.{few_places}
use Rattle.session.specs.Rows.{order_registered, rows_fillable, rows_filled, rows_frame}

-- what is read of a registration a before it is placed: whether it has inputs, the greatest location of them, and its lane
pub record Led (locations : List ℕ) (a : Reg) (has : Bool) (span pos lane : ℕ) : Type 0 where
  pub has_is : has ≡ ltb 0 (length a.ins)
  pub peak_is : packed span pos ≡ peak locations a.ins
  pub low : pos < location_radix
  pub lane_is : lane ≡ a.lane

-- some model is meant: r is the top of its stack, and what placing reads of it is known
pub record MayPut (c r : ℕ) (g : Guide) (watermark : ℕ) (σ : Storage) (has : Bool) (span pos lane : ℕ) : Type 0 where
  pub P : ℕ
  pub N : ℕ
  pub W : ℕ
  pub k : Model
  pub st : List ℕ
  pub base : Base P N k g watermark σ
  pub sound : Sound P N W k (r ∷ st)
  pub ended : c ≤ length k.adds
  pub led : Led σ.locations (reg_of k r) has span pos lane

-- the entry that is placed
abbrev pub entry_for : ℕ → ℕ → ℕ → Entry
entry_for r c lane = record { value = r; added = r; accepted = c; parallelism = 0; lane = lane }

-- the storage after a placing: slices that it writes, and those that it only reads
abbrev pub placed_storage : Storage → List ℕ → List ℕ → List ℕ → List ℕ → List ℕ → List ℕ → Storage
placed_storage σ sp o t rs m l = record { spans = sp; order = o; tally = t; rows = rs; marks = m; locations = l; waiting = σ.waiting; pool = σ.pool }

pub all_below : (N : ℕ) (xs : List ℕ) → AllBelow N xs → Below N xs
unfolding Below
all_below N [] h = tt
all_below N (x ∷ xs) h = (h x (Memᴰ.head refl), all_below N xs (λ i y. h i (Memᴰ.tail y)))

module _ {P N : ℕ} {k : Model} {g : Guide} {watermark : ℕ} {σ : Storage} (B : Base P N k g watermark σ) where
  one : 1 ≤ P
  one = omega (arith, B.guided.p_is, B.guided.stands.laid.one)

  pub base_placeable : {W r : ℕ} {st : List ℕ} → Sound P N W k (r ∷ st) → Placeable P N r k
  base_placeable {W} {r} {st} S = placeable P N W one (few_places B.guided) r st k S

module _ {c r : ℕ} {g : Guide} {watermark : ℕ} {σ : Storage} {has : Bool} {span pos lane : ℕ} (a : MayPut c r g watermark σ has span pos lane) where
  abbrev reg : Reg
  reg = reg_of a.k r

  abbrev outs : List ℕ
  outs = reg.outs

  abbrev after_put : Model
  after_put = place_one a.P c r a.k

  may : Placeable a.P a.N r a.k
  may = base_placeable a.base a.sound

  tops : (pack (top a.k.located reg.ins) ≡ peak σ.locations reg.ins) × ((top a.k.located reg.ins).pos < location_radix)
  tops = top_pack a.N a.k.sets a.k.located σ.marks σ.locations a.base.tracked.places reg.ins (all_below a.N reg.ins may.lists.ins_below)

  top_parts : (span ≡ (top a.k.located reg.ins).span) × (pos ≡ (top a.k.located reg.ins).pos)
  top_parts = packed_once (record { span = span; pos = pos }) (top a.k.located reg.ins) a.led.low tops.1 (a.led.peak_is ∙ sym tops.0)

  after_is : after a.k.located reg.ins ≡ after_of has span pos
  unfolding after after_of
  after_is = rw a.led.has_is (go reg.ins top_parts.0 top_parts.1)
    where
      go : (xs : List ℕ) → span ≡ (top a.k.located xs).span → pos ≡ (top a.k.located xs).pos → after a.k.located xs ≡ after_of (ltb 0 (length xs)) span pos
      go [] d e = refl
      go (x ∷ xs) d e = rw (d, e, lt-ltb 0 (length (x ∷ xs)) (omega arith))

  -- what the guide's push asks
  pub put_push : Stands g σ.spans σ.order σ.tally × (Ready g.p g.v (view g σ.spans σ.order) × Near (view g σ.spans σ.order) (after_of has span pos))
  unfolding after
  put_push =
      let d = a.base.guided in (
        d.stands,
        (
          rw (d.view_is, d.p_is, d.v_is) (record { later = may.fits.later; room = omega (arith, may.room_all); low = omega (arith, may.fits.low) }),
          rw (d.view_is, ← after_is) (near reg.ins may.near),
        ),
      )
    where
      near : (xs : List ℕ) → (top a.k.located xs).span ≤ a.k.guide.first + 31 → Near a.k.guide (after a.k.located xs)
      near [] h l e = let z : ◌≡◌ {A = ℕ} 0 1 = cc in absurd (omega arith)
      near (x ∷ xs) h l e = let z : top a.k.located (x ∷ xs) ≡ l = cc in omega (arith, ap (λ (y : Loc). y.span) z)

  pub outs_below : Below a.N (reg_of a.k r).outs
  outs_below = all_below a.N outs may.lists.outs_below

  module _ {h : Guide} {sp o t : List ℕ} {span' pos' : ℕ}
      (U : Pushes g h (after_of has span pos) (item_of (entry_for r c lane)) σ.spans σ.order σ.tally sp o t span' pos') where
    abbrev n : ℕ
    n = g.written

    abbrev new : ℕ
    new = h.written - g.written

    all : n + new ≡ h.written
    all = omega (arith, U.done.frame.grows)

    item : Item
    item = record { value = r; added = r; accepted = c; lane = reg.lane }

    pl : Placed
    pl = place a.P (after a.k.located reg.ins) item a.k.guide

    pl_is : place g.p (after_of has span pos) (item_of (entry_for r c lane)) (view g σ.spans σ.order) ≡ pl
    unfolding item_of item pl
    pl_is = cc (after_is, a.led.lane_is, a.base.guided.view_is, a.base.guided.p_is)

    pos_is : pos' ≡ pl.loc.pos
    pos_is = U.at_pos ∙ ap (λ (x : Placed). x.loc.pos) pl_is

    view_is : view h sp o ≡ after_put.guide
    unfolding place_one item pl
    view_is = U.done.is ∙ ap (λ (x : Placed). x.guide) pl_is

    order_is : order_of o (n + new) ≡ after_put.guide.order
    unfolding view
    order_is = ap (λ (x : ℕ). order_of o x) all ∙ ap (λ (b : GuideModel). b.order) view_is

    -- what the turn leaves fits: the placing does, with what it sets free
    turn_fits : Fits a.P a.N (rest a.N after_put)
    turn_fits =
        fits_of a.P a.N a.W (one a.base) (rest a.N after_put) (push (off a.N after_put) a.st)
        (sound_placing a.P a.N a.W (one a.base) c r a.st a.k a.ended a.sound) (few_places a.base.guided)

    known : Known a.N (order_of o (n + new))
    unfolding rest keep
    known = subst (λ (l : List OrderEntry). Known a.N l) (sym order_is) (order_registered a.P a.N (rest a.N after_put) turn_fits)

    written_fits : h.written ≤ a.N
    unfolding rest keep
    written_fits = omega (arith, turn_fits.room, turn_fits.many, order_view h sp o, ap (λ (b : GuideModel). length b.order) view_is)

    rows_kept : RowsFrame a.N σ.rows (filled σ.rows n (row o n new))
    rows_kept = rows_frame a.N n new σ.order o σ.rows a.base.rowed.long U.done.frame.order_kept known

    rows_are : Filled a.N (filled σ.rows n (row o n new)) a.k.recorded.written after_put.guide.order
    unfolding view row_of
    rows_are =
        subst (λ (l : List OrderEntry). Filled a.N (filled σ.rows n (row o n new)) a.k.recorded.written l) order_is
        (rows_filled a.N n new σ.order o σ.rows a.base.rowed.long U.done.frame.order_kept known a.k.recorded.written
        (subst (λ (l : List OrderEntry). Filled a.N σ.rows a.k.recorded.written l) (sym (ap (λ (b : GuideModel). b.order) a.base.guided.view_is)) a.base.rowed.rows))

    -- what filling the rows asks
    pub put_fill : (fits o (n + new) × (n + new < 2 ^ 32)) × Fillable o n new σ.rows
    put_fill =
        let d = a.base.guided in (
          (
            omega (arith, all, written_fits, d.v_is, d.stands.order_long, U.done.frame.order_length),
            omega (arith, all, written_fits, few_places d),
          ),
          rows_fillable a.N n new σ.order o σ.rows a.base.rowed.long U.done.frame.order_kept known,
        )

    -- marks and locations after the outputs' stamps
    pub put_places : {m l : List ℕ} → Stamped σ.marks σ.locations (reg_of a.k r).outs (packed span' pos') m l
        → Places a.N a.k.sets (place_one a.P c r a.k).located m l
    unfolding place_one pack item pl
    put_places {m} {l} Z =
        subst (λ (x : List ℕ). Places a.N a.k.sets after_put.located x l) (sym Z.marks_are)
        (subst (λ (x : List ℕ). Places a.N a.k.sets after_put.located (stamped σ.marks outs mark_written) x) l_is
        (places_stamped a.N a.k.sets a.k.located σ.marks σ.locations outs pl.loc a.base.tracked.places fresh (omega (arith, U.pos_fits, pos_is))))
      where
        packs : packed span' pos' ≡ pack pl.loc
        packs = omega (arith, U.at_span ∙ ap (λ (x : Placed). x.loc.span) pl_is, pos_is)

        l_is : stamped σ.locations outs (pack pl.loc) ≡ l
        l_is = sym (Z.locations_are ∙ ap (λ x. stamped σ.locations outs x) packs)

        fresh : Fresh a.k.sets a.k.located outs
        fresh = record { unset = λ x y. may.unset x (member_in x outs y); unplaced = λ x y. may.unplaced x (member_in x outs y) }

    -- the session after the placing
    pub put_base : {rs m l : List ℕ} {watermark' : ℕ} → rs ≡ filled σ.rows n (row o n new) → Stamped σ.marks σ.locations (reg_of a.k r).outs (packed span' pos') m l
        → watermark' ≡ watermark_of a.N (place_one a.P c r a.k) → Base a.P a.N (place_one a.P c r a.k) h watermark' (placed_storage σ sp o t rs m l)
    unfolding place_one row_of
    put_base er Z ew =
        let d = a.base.guided in
        record {
          guided = record { p_is = U.done.same_p ∙ d.p_is; v_is = U.done.same_v ∙ d.v_is; places = d.places; stands = U.done.stands; view_is = view_is };
          rowed = record {
            long = rw (er, rows_kept.long) a.base.rowed.long;
            rows = subst (λ (x : List ℕ). Filled a.N x a.k.recorded.written after_put.guide.order) (sym er) rows_are;
          };
          tracked = record { places = put_places Z; watermark_is = ew };
        }

    -- and what it left alone
    pub put_frame : {rs m l : List ℕ} → rs ≡ filled σ.rows n (row o n new) → Stamped σ.marks σ.locations (reg_of a.k r).outs (packed span' pos') m l
        → Frame g.p g.v g.written h.written σ (placed_storage σ sp o t rs m l)
    put_frame {rs} {m} {l} er Z =
        record {
          grows = U.done.frame.grows;
          spans = record { long = U.done.frame.spans_length; same = U.done.frame.spans_beyond };
          order = record { long = U.done.frame.order_length; same = U.done.frame.order_beyond };
          before = U.done.frame.order_kept;
          tally = record { long = U.done.frame.tally_length; same = λ j q. U.done.frame.tally_beyond j (omega arith) };
          rows = record { long = kept.long; same = kept.beyond };
          marks =
              beyond_drop g.v g.v σ.marks m (omega arith) (ap length Z.marks_are ∙ stamped_length σ.marks outs mark_written)
              (ap (λ (x : List ℕ). drop g.v x) Z.marks_are ∙ stamped_beyond g.v σ.marks outs mark_written below);
          locations =
              beyond_drop g.v g.v σ.locations l (omega arith) (ap length Z.locations_are ∙ stamped_length σ.locations outs (packed span' pos'))
              (ap (λ (x : List ℕ). drop g.v x) Z.locations_are ∙ stamped_beyond g.v σ.locations outs (packed span' pos') below);
          waiting = beyond_refl _ σ.waiting;
          pool = refl;
        }
      where
        below : Below g.v outs
        below = subst (λ (v : ℕ). Below v outs) (sym a.base.guided.v_is) outs_below

        kept : RowsFrame g.v σ.rows rs
        kept = subst (λ (v : ℕ). RowsFrame v σ.rows rs) (sym a.base.guided.v_is) (subst (λ (x : List ℕ). RowsFrame a.N σ.rows x) (sym er) rows_kept)
