-- One turn of the cascade: the top of the stack is taken off and placed, and what its outputs set free is pushed. What a placing
-- promises, what a turn promises, and the turn from the placing and the registrar's step. Assumes nothing.
use Rattle.std.specs.Prelude.{◌≡◌, ℕ, ◌+◌, ◌-◌, ◌≤◌, ◌<◌}
use Rattle.std.proofs.Math.Path.{refl, ap, subst}
use Rattle.std.proofs.Common.{sym, ◌∙◌, arith}
use mathlib.Core.List.{List, ◌∷◌}
use Rattle.std.proofs.Math.ListN.{length}
use Rattle.rules.specs.Record.{row_of}
use Rattle.rules.specs.Model.{Model, tracked, watermark as watermark_of, place_one, keep, due, left, push, off, rest}
use Rattle.rules.specs.Limits.{most_places}
use Rattle.rules.specs.Checks.{taken, pooled, waiting_needed}
use Rattle.laws.specs.CascadeInv.{push_length, off_rest}
use Rattle.laws.specs.Sound.{Sound}
use Rattle.laws.specs.ModelBase.{watermark_le}
use Rattle.registrar.specs.Reading.{link_at}
use Rattle.registrar.specs.Delayed.{Delayed, Aside, Advancing, AdvancesPlaced}
use Rattle.registrar.specs.Keeps.{popped}
use Rattle.waiting.specs.Apart.{beyond_aside, lists_aside, flags_aside}
use Rattle.buffer.specs.declared.Guide.{Guide}
use Rattle.session.specs.declared.Session.{Session}
use Rattle.session.specs.Storage.{Storage, with_waiting, Frame, frame_refl, frame_trans}
use Rattle.session.specs.Rep.{Counted, Core, RepSt}

-- some model is meant, and r is the top of its stack
pub record MayPlace (c : ℕ) (g : Guide) (watermark added used : ℕ) (σ : Storage) (r : ℕ) : Type 0 where
  pub P : ℕ
  pub N : ℕ
  pub W : ℕ
  pub k : Model
  pub st : List ℕ
  pub core : Core P N k g watermark σ
  pub sound : Sound P N W k (r ∷ st)
  pub ended : c ≤ length k.adds
  pub added_is : added ≡ length k.adds
  pub used_is : used ≡ pooled k.adds

-- what placing registration r promises, the own add of c registrations having ended
pub record PlacesOne (c r : ℕ) (g : Guide) (watermark added used : ℕ) (σ : Storage) (h : Guide) (watermark' : ℕ) (τ : Storage) : Type 0 where
  pub core : (P N W : ℕ) (k : Model) (st : List ℕ) → Core P N k g watermark σ → Sound P N W k (r ∷ st) → c ≤ length k.adds → added ≡ length k.adds → used ≡ pooled k.adds
      → Core P N (place_one P c r k) h watermark' τ
  pub rises : watermark ≤ watermark'
  pub frame : Frame g.p g.v g.written h.written σ τ

-- some model is meant, with a stack that is not empty
pub record MayPlaceNext (c : ℕ) (s : Session) (σ : Storage) (top : ℕ) : Type 0 where
  pub P : ℕ
  pub N : ℕ
  pub W : ℕ
  pub k : Model
  pub r : ℕ
  pub st : List ℕ
  pub rep : RepSt P N k s σ top (r ∷ st)
  pub sound : Sound P N W k (r ∷ st)
  pub ended : c ≤ length k.adds

-- what a turn promises
pub record PlacesNext (c : ℕ) (s : Session) (σ : Storage) (top : ℕ) (s' : Session) (τ : Storage) (top' : ℕ) : Type 0 where
  pub rep : (P N W : ℕ) (k : Model) (r : ℕ) (st : List ℕ) → RepSt P N k s σ top (r ∷ st) → Sound P N W k (r ∷ st) → c ≤ length k.adds
      → RepSt P N (rest N (place_one P c r k)) s' τ top' (push (off N (place_one P c r k)) st)
  pub frame : Frame s.guide.p s.guide.v s.guide.written s'.guide.written σ τ

-- the session after a placing
abbrev pub placed_session : Session → Guide → ℕ → ℕ → Session
placed_session s h watermark left =
    record { guide = h; watermark = watermark; added = s.added; used = s.used; delayed = left; flushes = s.flushes; closed = s.closed; registrations = s.registrations; places = s.places }

-- of the waiting storage alone, heads and links have changed
pub waiting_frame : (P N n : ℕ) (σ : Storage) (w : List ℕ) → length w ≡ length σ.waiting → Aside σ.waiting N w → Frame P N n n σ (with_waiting σ w)
waiting_frame P N n σ w l e =
    let f = frame_refl P N n σ in
    record {
      grows = f.grows;
      spans = f.spans;
      order = f.order;
      before = f.before;
      tally = f.tally;
      rows = f.rows;
      marks = f.marks;
      locations = f.locations;
      waiting = record { long = l; same = beyond_aside e };
      pool = refl;
    }

-- what comes off is taken off
module _ (P N : ℕ) (j : Model) (h : Guide) (watermark' : ℕ) (τ : Storage) (C : Core P N j h watermark' τ) (w : List ℕ) (ew : length w ≡ length τ.waiting) (ed : Aside τ.waiting N w) where
  pub core_rest : Core P N (rest N j) h watermark' (with_waiting τ w)
  unfolding rest keep watermark_of tracked taken row_of
  core_rest =
      record {
        guided = record { p_is = C.guided.p_is; v_is = C.guided.v_is; places = C.guided.places; stands = C.guided.stands; view_is = C.guided.view_is };
        rowed = record { long = C.rowed.long; rows = C.rowed.rows };
        tracked = record { places = C.tracked.places; watermark_is = C.tracked.watermark_is };
        stored = record { lists = lists_aside ed ew C.stored.lists; flags = flags_aside ed ew C.stored.flags };
      }

  pub delayed_rest : (lo top t : ℕ) (st : List ℕ) → Delayed τ.waiting N lo j.pending top st →
      AdvancesPlaced τ.waiting N lo watermark' top t w → Delayed w N watermark' (rest N j).pending t (push (off N j) st)
  unfolding rest keep off
  delayed_rest lo top t st d a =
      subst (λ (m : ℕ). Delayed w N watermark' (left m j.pending) t (push (due m j.pending) st)) C.tracked.watermark_is (a.delayed j.pending st d)

module _ (P N : ℕ) (k : Model) (s : Session) (σ : Storage) (top r : ℕ) (st : List ℕ) (R : RepSt P N k s σ top (r ∷ st)) where
  -- what the registrar's step asks after the placing
  pub may_advance : (watermark' : ℕ) → s.watermark ≤ watermark' → watermark' ≤ N → Advancing σ.waiting N s.watermark watermark' (link_at σ.waiting N r)
  may_advance watermark' h q = record { ps = k.pending; st = st; delayed = popped σ.waiting N s.watermark k.pending top r st R.delayed; order = h; high = q }

  -- the turn
  pub turned : (c left : ℕ) (h : Guide) (watermark' t : ℕ) (τ : Storage) (w : List ℕ) → left + 1 ≡ s.delayed → τ.waiting ≡ σ.waiting → Core P N (place_one P c r k) h watermark' τ
      → AdvancesPlaced σ.waiting N s.watermark watermark' (link_at σ.waiting N r) t w → length w ≡ length σ.waiting
      → RepSt P N (rest N (place_one P c r k)) (placed_session s h watermark' left) (with_waiting τ w) t (push (off N (place_one P c r k)) st)
  unfolding place_one rest keep
  turned c left h watermark' t τ w el ew C a lw =
      let j : Model = place_one P c r k in
      record {
        core = core_rest P N j h watermark' τ C w (lw ∙ ap length (sym ew)) (subst (λ (x : List ℕ). Aside x N w) (sym ew) a.kept.aside);
        counted = counted;
        delayed = delayed;
        delayed_is = omega (arith, R.delayed_is, push_length (off N j) st, off_rest N j, pending_is);
      }
    where
      pending_is : length (place_one P c r k).pending ≡ length k.pending
      pending_is = refl

      counted : Counted (rest N (place_one P c r k)) (placed_session s h watermark' left)
      counted =
          record {
            added_is = R.counted.added_is;
            used_is = R.counted.used_is;
            flushes_is = R.counted.flushes_is;
            closed_is = R.counted.closed_is;
            registrations_is = R.counted.registrations_is;
            places_is = R.counted.places_is;
          }

      delayed : Delayed w N watermark' (rest N (place_one P c r k)).pending t (push (off N (place_one P c r k)) st)
      delayed =
          delayed_rest P N (place_one P c r k) h watermark' τ C w (lw ∙ ap length (sym ew)) (subst (λ (x : List ℕ). Aside x N w) (sym ew) a.kept.aside) s.watermark
          (link_at σ.waiting N r) t st
          (subst (λ (x : List ℕ). Delayed x N s.watermark k.pending (link_at σ.waiting N r) st) (sym ew) (popped σ.waiting N s.watermark k.pending top r st R.delayed))
          (subst (λ (x : List ℕ). AdvancesPlaced x N s.watermark watermark' (link_at σ.waiting N r) t w) (sym ew) a)

-- the needs of the turn's code, u being V as an index
pub turn_place : (c : ℕ) (s : Session) (σ : Storage) (top : ℕ) → MayPlaceNext c s σ top → MayPlace c s.guide s.watermark s.added s.used σ (top - 1)
turn_place c s σ top a =
    let e : a.r ≡ top - 1 = omega (arith, a.rep.delayed.stack.0) in
    record {
      P = a.P;
      N = a.N;
      W = a.W;
      k = a.k;
      st = a.st;
      core = a.rep.core;
      sound = subst (λ (x : ℕ). Sound a.P a.N a.W a.k (x ∷ a.st)) e a.sound;
      ended = a.ended;
      added_is = a.rep.counted.added_is;
      used_is = a.rep.counted.used_is;
    }

-- the link of the top, and the registration that it names
pub turn_top : (c : ℕ) (s : Session) (σ : Storage) (top : ℕ) → MayPlaceNext c s σ top
    → (top - 1 < s.guide.v) × ((1 ≤ top) × ((s.guide.v ≤ most_places) × ((waiting_needed s.guide.v ≤ length σ.waiting) × (1 ≤ s.delayed))))
turn_top c s σ top a =
    let d = a.rep.delayed.stack in
    let v = a.rep.core.guided.v_is in (
      omega (arith, d.0, d.1),
      (
        omega (arith, d.0),
        (a.rep.core.guided.stands.small, (omega (arith, a.rep.delayed.long), omega (arith, a.rep.delayed_is))),
      ),
    )

module _ (c : ℕ) (s : Session) (σ : Storage) (top u under : ℕ) (eu : u ≡ s.guide.v) (en : under ≡ link_at σ.waiting u (top - 1)) (h : Guide) (watermark' : ℕ) (τ : Storage)
    (p : PlacesOne c (top - 1) s.guide s.watermark s.added s.used σ h watermark' τ) where
  module _ (P N W : ℕ) (k : Model) (r : ℕ) (st : List ℕ) (R : RepSt P N k s σ top (r ∷ st)) (S : Sound P N W k (r ∷ st)) (E : c ≤ length k.adds) where
    r_is : top - 1 ≡ r
    r_is = omega (arith, R.delayed.stack.0)

    u_is : u ≡ N
    u_is = eu ∙ R.core.guided.v_is

    under_is : under ≡ link_at σ.waiting N r
    under_is = en ∙ ap (λ (x : ℕ). link_at σ.waiting x (top - 1)) u_is ∙ ap (λ (x : ℕ). link_at σ.waiting N x) r_is

    core' : Core P N (place_one P c r k) h watermark' τ
    core' =
        subst (λ (x : ℕ). Core P N (place_one P c x k) h watermark' τ) r_is
        (p.core P N W k st R.core (subst (λ (x : ℕ). Sound P N W k (x ∷ st)) (sym r_is) S) E R.counted.added_is R.counted.used_is)

  pub turn_advance : MayPlaceNext c s σ top → Advancing σ.waiting u s.watermark watermark' under
  turn_advance a =
      let n = u_is a.P a.N a.W a.k a.r a.st a.rep a.sound a.ended in
      let C = core' a.P a.N a.W a.k a.r a.st a.rep a.sound a.ended in
      subst (λ (x : ℕ). Advancing σ.waiting u s.watermark watermark' x) (sym (under_is a.P a.N a.W a.k a.r a.st a.rep a.sound a.ended))
      (subst (λ (x : ℕ). Advancing σ.waiting x s.watermark watermark' (link_at σ.waiting a.N a.r)) (sym n)
      (may_advance a.P a.N a.k s σ top a.r a.st a.rep watermark' p.rises (omega (arith, C.tracked.watermark_is, watermark_le a.N (place_one a.P c a.r a.k)))))

  pub turn_done : (t : ℕ) (w : List ℕ) → τ.waiting ≡ σ.waiting → AdvancesPlaced σ.waiting u s.watermark watermark' under t w → length w ≡ length σ.waiting
      → PlacesNext c s σ top (placed_session s h watermark' (s.delayed - 1)) (with_waiting τ w) t
  turn_done t w ew A lw =
      record {
        rep = λ P N W k r st R S E.
            turned P N k s σ top r st R c (s.delayed - 1) h watermark' t τ w (omega (arith, R.delayed_is)) ew (core' P N W k r st R S E)
            (subst (λ (x : ℕ). AdvancesPlaced σ.waiting N s.watermark watermark' x t w) (under_is P N W k r st R S E)
            (subst (λ (x : ℕ). AdvancesPlaced σ.waiting x s.watermark watermark' under t w) (u_is P N W k r st R S E) A)) lw;
        frame = frame_trans _ _ _ _ _ σ τ (with_waiting τ w) p.frame (waiting_frame s.guide.p s.guide.v h.written τ w (lw ∙ ap length (sym ew))
            (subst (λ (x : List ℕ). Aside x s.guide.v w) (sym ew) (subst (λ (x : ℕ). Aside σ.waiting x w) eu A.kept.aside)));
      }
