-- A flush: 32 releases of one span, and what each asks. Assumes nothing.
use Rattle.std.specs.Prelude.{◌≡◌, List, [], ◌∷◌, ℕ, ◌+◌, ◌≤◌, ◌<◌, length}
use Rattle.std.proofs.Common.{ap, add-one, arith}
use Rattle.rules.specs.Guide.{Item, release, flush, held}
use Rattle.laws.specs.History.{len}
use Rattle.laws.specs.GuideInv.{release_first}
use Rattle.buffer.specs.declared.Guide.{Guide}
use Rattle.buffer.specs.View.{length_of, view}
use Rattle.placing.specs.Stands.{Stands}
use Rattle.placing.specs.Done.{Done, Free, done_none, done_next, view_length, len_view, number_view, order_view}
use Rattle.placing.specs.Flush.{held_release}
use Rattle.guide.specs.Ready.{Ready}

-- after i releases of a flush: the storage stands for the model with i spans released, and the order has room for what is still held
pub record Flushing (g h : Guide) (s o t o' t' : List ℕ) (i : ℕ) : Type 0 where
  pub done : Done g h s o t s o' t' (release g.p i (view g s o))
  pub room : h.written + held (view h s o').spans ≤ h.v

held_first : (ss : List (List Item)) → length ss ≡ 32 → len ss 0 ≤ held ss
unfolding held
held_first [] h = absurd (omega arith)
held_first (x ∷ ss) h = omega arith

module _ (g : Guide) (s o t : List ℕ) (k : Stands g s o t) (r : Ready g.p g.v (view g s o)) where
  pub flush_begins : Flushing g g s o t o t 0
  flush_begins = record { done = done_none g s o t k; room = omega (arith, r.room, order_view g s o) }

  module _ (h : Guide) (o' t' : List ℕ) (i : ℕ) (f : Flushing g h s o t o' t' i) where
    pub flush_free : i < 32 → Free h
    flush_free l =
        let d = f.done in
        record {
          room = omega (arith, f.room, held_first (view h s o').spans (view_length h s o' d.stands.laid), len_view h s o' d.stands.laid 0);
          low = omega (arith, r.low, number_view h s o' d.stands.laid 31 (omega arith), ap (λ b. b.first) d.is, release_first g.p i (view g s o));
        }

    pub flush_turn : (z : Guide) (o'' t'' : List ℕ) → i < 32 → Done h z s o' t' s o'' t'' (release h.p 1 (view h s o')) → z.written ≡ h.written + length_of h 0
        → Flushing g z s o t o'' t'' (i + 1)
    flush_turn z o'' t'' l e w =
        let d = f.done in
        let last : len (view g s o).spans 31 ≤ g.p = r.later 31 (omega arith) in
        record {
          done = rw (add-one i) (done_next g h z s o o' o'' t t' t'' i k.laid l last d e);
          room = omega (arith, f.room, w, e.same_v, len_view h s o' d.stands.laid 0, held_release h.p (view h s o') (view_length h s o' d.stands.laid), ap (λ b. held b.spans) e.is);
        }

    pub flush_ends : i ≡ 32 → Done g h s o t s o' t' (flush g.p (view g s o))
    unfolding flush
    flush_ends e = rw e at f.done
