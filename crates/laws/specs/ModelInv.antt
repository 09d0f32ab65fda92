-- The model's invariant, with the stack of registrations that are still to be placed, and that placing the top of it keeps the
-- invariant: a history of spans stands behind window and order; what is placed reads what was set, or what was written behind it.
use Rattle.std.specs.Prelude.{◌≡◌, ◌⊎◌, true, false, ℕ, ◌+◌, ◌≤◌, ◌<◌}
use Rattle.std.proofs.Math.Path.{refl}
use mathlib.Core.List.{List, ◌∷◌, ◌++◌, Memᴰ}
use Rattle.std.proofs.Math.Logic.{inl, inr}
use Rattle.std.proofs.Common.{arith, length-append}
use Rattle.std.proofs.Math.ListN.{length}
use Rattle.rules.specs.Guide.{Loc, Item, Placed, place}
use Rattle.laws.specs.History.{len}
use Rattle.laws.specs.Together.{Behind}
use Rattle.laws.specs.GuideInv.{Core, Later}
use Rattle.laws.specs.Place.{Step, place_step, place_behind}
use Rattle.rules.specs.Model.{Recorded, with_record, Reg, Pending, Model, marked, tracked, greatest, loc_of, top, after, spotted, reg_of, place_one}
use Rattle.laws.specs.ModelBase.{In, bool_cases, tracked_cases, top_ge, top_le, behind_le, loc_of_left, loc_of_right, loc_of_none, marked_append, spotted_in, entry_at}
use Rattle.laws.specs.ModelBase.{in_range, after_some, Grown, grown, tracked_of}

-- all spans from number 0 on
abbrev pub hist : Model → List (List Item) → List (List Item)
hist k past = past ++ k.guide.spans

-- the registration of the item at a location, and that it writes a place
abbrev pub reg_at : Model → List (List Item) → ℕ → ℕ → Reg
reg_at k H s q = reg_of k (entry_at H s q).added

abbrev pub Writes : Model → List (List Item) → Loc → ℕ → Type 0
Writes k H l i = (l.pos < len H l.span) × In i (reg_at k H l.span l.pos).outs

-- each placed entry reads what was set, or lies behind what writes it
abbrev pub Reads : Model → List (List Item) → Type 0
Reads k H = (s q : ℕ) → q < len H s → (i : ℕ) → In i (reg_at k H s q).ins → In i k.sets ⊎ ((l : Loc) × Writes k H l i × Behind l.span l.pos s q)

-- each located place is written by the entry at its location
abbrev pub Locations : Model → List (List Item) → Type 0
Locations k H = (i : ℕ) → marked i k.located ≡ true → Writes k H (loc_of k.located i) i

-- each placed entry is one of an accepted registration
abbrev pub Known : Model → List (List Item) → Type 0
Known k H = (s q : ℕ) → q < len H s → (entry_at H s q).added < length k.adds

-- the invariant
pub record Inv (P N : ℕ) (k : Model) (st : List ℕ) : Type 0 where
  pub past : List (List Item)
  pub core : Core P k.guide past
  pub later : Later P 1 k.guide
  pub known : Known k (hist k past)
  pub reads : Reads k (hist k past)
  pub located_ok : Locations k (hist k past)
  pub stack_ok : (r : ℕ) → In r st → (r < length k.adds) × ((i : ℕ) → In i (reg_of k r).ins → tracked k i ≡ true)
  pub pending_ok : (w : Pending) → Memᴰ w k.pending → (w.reg < length k.adds) × (w.under ≡ greatest (reg_of k w.reg).ins)

-- the record is no concern of the invariant
pub record_inv : (P N : ℕ) (d : Recorded) (k : Model) (st : List ℕ) → Inv P N k st → Inv P N (with_record d k) st
unfolding with_record reg_of tracked
record_inv P N d k st v =
    record { past = v.past; core = v.core; later = v.later; known = v.known; reads = v.reads; located_ok = v.located_ok; stack_ok = v.stack_ok; pending_ok = v.pending_ok }

-- placing one registration
module _ (P N c r : ℕ) (st : List ℕ) (k : Model) (hP : 1 ≤ P) (v : Inv P N k (r ∷ st)) where
  ent : Item
  ent = record { value = r; added = r; accepted = c; lane = (reg_of k r).lane }

  plc : Placed
  plc = place P (after k.located (reg_of k r).ins) ent k.guide

  stp : Step P k.guide v.past ent plc
  unfolding plc
  stp = place_step P k.guide v.past ent hP v.core v.later (after k.located (reg_of k r).ins)

  H : List (List Item)
  H = hist k v.past

  located_span : (i : ℕ) → (loc_of k.located i).span ≤ k.guide.first + 31
  located_span i = go (bool_cases (marked i k.located))
    where
      go : (marked i k.located ≡ true) ⊎ (marked i k.located ≡ false) → (loc_of k.located i).span ≤ k.guide.first + 31
      go (inl e) =
          omega (
            arith,
            in_range (hist k v.past) (loc_of k.located i).span (loc_of k.located i).pos (v.located_ok i e).0,
            length-append v.past k.guide.spans,
            v.core.past_is,
            v.core.window_is,
          )
      go (inr e) = omega (arith, (loc_of_none k.located i e).0)

  -- an input of r is set, or r lies behind the one that writes it
  input_behind : (i : ℕ) → In i (reg_of k r).ins → In i k.sets ⊎ (Writes k H (loc_of k.located i) i
      × Behind (loc_of k.located i).span (loc_of k.located i).pos plc.loc.span plc.loc.pos)
  unfolding H plc
  input_behind i h = go (tracked_cases k i ((v.stack_ok r (Memᴰ.head refl)).1 i h))
    where
      tp : Loc
      tp = top k.located (reg_of k r).ins

      behind : Behind tp.span tp.pos plc.loc.span plc.loc.pos
      behind = rw (after_some k.located i (reg_of k r).ins h) (place_behind P k.guide tp ent (top_le k.located _ (reg_of k r).ins (λ x y. located_span x)))

      go : In i k.sets ⊎ (marked i k.located ≡ true) → In i k.sets ⊎ (Writes k H (loc_of k.located i) i
          × Behind (loc_of k.located i).span (loc_of k.located i).pos plc.loc.span plc.loc.pos)
      go (inl e) = inl e
      go (inr e) = inr (v.located_ok i e, behind_le (loc_of k.located i) tp plc.loc.span plc.loc.pos (top_ge k.located i (reg_of k r).ins h) behind)

  next : Model
  next = place_one P c r k

  H' : List (List Item)
  H' = hist next stp.past'

  gr : Grown H H' plc.loc.span plc.loc.pos ent
  unfolding H H' next place_one plc ent
  gr = rw (stp.hist, stp.pos_is) (grown H stp.fresh_spans plc.loc.span ent stp.fits)

  next_reg : (x : ℕ) → reg_of next x ≡ reg_of k x
  unfolding next place_one reg_of
  next_reg x = refl

  lift : (l : Loc) (i : ℕ) → Writes k H l i → Writes next H' l i
  lift l i w = let o = gr.old l.span l.pos w.0 in (o.0, rw (o.1, next_reg) w.1)

  new_known : Known next H'
  unfolding next place_one ent H
  new_known s q h = go (gr.cases s q h)
    where
      go : (q < len H s) ⊎ ((s ≡ plc.loc.span) × (q ≡ plc.loc.pos)) → (entry_at H' s q).added < length k.adds
      go (inl x) = rw (gr.old s q x).1 (v.known s q x)
      go (inr x) = rw (x.0, x.1, gr.new.1) (v.stack_ok r (Memᴰ.head refl)).0

  new_reads : Reads next H'
  unfolding H next place_one ent
  new_reads s q h i y = go (gr.cases s q h)
    where
      lifted : In i k.sets ⊎ ((l : Loc) × Writes k H l i × Behind l.span l.pos s q) → In i k.sets ⊎ ((l : Loc) × Writes next H' l i × Behind l.span l.pos s q)
      lifted (inl a) = inl a
      lifted (inr a) = inr (a.0, lift a.0 i a.1, a.2)

      placed : (s ≡ plc.loc.span) × (q ≡ plc.loc.pos) → In i k.sets ⊎ (Writes k H (loc_of k.located i) i
          × Behind (loc_of k.located i).span (loc_of k.located i).pos plc.loc.span plc.loc.pos)
          → In i k.sets ⊎ ((l : Loc) × Writes k H l i × Behind l.span l.pos s q)
      placed x (inl a) = inl a
      placed x (inr a) = inr (loc_of k.located i, a.0, rw (x.0, x.1) a.1)

      go : (q < len H s) ⊎ ((s ≡ plc.loc.span) × (q ≡ plc.loc.pos)) → In i k.sets ⊎ ((l : Loc) × Writes next H' l i × Behind l.span l.pos s q)
      go (inl x) = lifted (v.reads s q x i (rw ((gr.old s q x).1, next_reg) at y))
      go (inr x) = lifted (placed x (input_behind i (rw (x.0, x.1, gr.new.1, next_reg) at y)))

  new_locations : Locations next H'
  unfolding next place_one H plc ent
  new_locations i h = go (bool_cases (marked i k.located))
    where
      go : (marked i k.located ≡ true) ⊎ (marked i k.located ≡ false) → Writes next H' (loc_of (k.located ++ spotted plc.loc (reg_of k r).outs) i) i
      go (inl e) = rw (loc_of_left k.located (spotted plc.loc (reg_of k r).outs) i e) (lift (loc_of k.located i) i (v.located_ok i e))
      go (inr e) =
          let m = rw (marked_append k.located (spotted plc.loc (reg_of k r).outs) i, e) at h in
          let z = spotted_in plc.loc (reg_of k r).outs i m in
          rw (loc_of_right k.located (spotted plc.loc (reg_of k r).outs) i e, z.1) (gr.new.0, rw (gr.new.1, next_reg) z.0)

  new_tracked : (i : ℕ) → tracked k i ≡ true → tracked next i ≡ true
  unfolding next place_one plc ent
  new_tracked i h = tracked_of next i (go (tracked_cases k i h))
    where
      go : In i k.sets ⊎ (marked i k.located ≡ true) → In i k.sets ⊎ (marked i (k.located ++ spotted plc.loc (reg_of k r).outs) ≡ true)
      go (inl a) = inl a
      go (inr a) = inr (rw (marked_append k.located, a))

  -- placing the top of the stack keeps it
  pub place_one_inv : Inv P N (place_one P c r k) st
  unfolding next place_one H' plc ent reg_of
  place_one_inv =
      record {
        past = stp.past';
        core = stp.core;
        later = stp.later;
        known = new_known;
        reads = new_reads;
        located_ok = new_locations;
        stack_ok = λ x h. let o = v.stack_ok x (Memᴰ.tail h) in (o.0, λ i y. new_tracked i (o.1 i (rw next_reg at y)));
        pending_ok = v.pending_ok;
      }
