-- What a step of the guide leaves: `Done`, the storage after stands for the model b, and the frame. Laws: a release, two of them, a put, and
-- what the pieces of the code ask of one another. Assumes nothing.
use Rattle.std.specs.Prelude.{◌≡◌, refl, ℕ, suc, ◌+◌, ◌^◌, ◌≤◌, ◌<◌, length, get_or, drop}
use Rattle.std.proofs.Common.{sym, ap, subst, ◌∙◌, arith, length-drop, get_or-set_other, le-leb}
use mathlib.Core.List.{List, [], map}
use Rattle.std.proofs.lemmas.List.{length-map, get_or_at}
use Rattle.std.proofs.lemmas.Bool.{lt-leb}
use Rattle.rules.specs.Guide.{Guide as GuideModel, put, release, settle, tallied}
use Rattle.laws.specs.History.{len}
use Rattle.window.specs.Rotate.{rotated}
use Rattle.entries.specs.declared.Entry.{Entry}
use Rattle.entries.specs.Entries.{fits, row, item_of, entry_of}
use Rattle.buffer.specs.declared.Guide.{Guide}
use Rattle.buffer.specs.View.{length_of, number_of, order_of, view, Laid}
use Rattle.buffer.specs.Rows.{row_length, span_length, spans_length, upto_length, upto_at}
use Rattle.buffer.specs.Moves.{rotated_at, with_window, longer, released_guide, released_order, put_spans, put_view, release_view}
use Rattle.buffer.specs.Fit.{Fit, laid_fit}
use Rattle.tally.specs.Counting.{Countable}
use Rattle.placing.specs.GuideFrame.{GuideFrame, frame_refl, frame_trans}
use Rattle.placing.specs.Stands.{Stands, stands_put, frame_put, stands_release, frame_release, countable}
use Rattle.placing.specs.Flush.{release_none, release_next}

-- g is the guide before, r after; the storage after stands for b
pub record Done (g r : Guide) (s o t s' o' t' : List ℕ) (b : GuideModel) : Type 0 where
  pub stands : Stands r s' o' t'
  pub is : view r s' o' ≡ b
  pub same_p : r.p ≡ g.p
  pub same_v : r.v ≡ g.v
  pub frame : GuideFrame g.p g.written r.written s o t s' o' t'

-- what a release asks, and what two of them ask, one after the other: room in the order, and a number for each new span
pub record Free (g : Guide) : Type 0 where
  pub room : g.written + length_of g 0 ≤ g.v
  pub low : number_of g 31 + 1 < 2 ^ 32

pub record FreeTwo (g : Guide) : Type 0 where
  pub room : g.written + length_of g 0 + length_of g 1 ≤ g.v
  pub low : number_of g 31 + 2 < 2 ^ 32
  pub last : length_of g 31 ≤ g.p

-- steps compose
pub done_then : (g h r : Guide) (s o t s' o' t' s'' o'' t'' : List ℕ) (b b' : GuideModel) → Done g h s o t s' o' t' b → Done h r s' o' t' s'' o'' t'' b' → Done g r s o t s'' o'' t'' b'
done_then g h r s o t s' o' t' s'' o'' t'' b b' d f =
    let q : GuideFrame g.p h.written r.written s' o' t' s'' o'' t'' = rw d.same_p at f.frame in
    record { stands = f.stands; is = f.is; same_p = f.same_p ∙ d.same_p; same_v = f.same_v ∙ d.same_v; frame = frame_trans d.frame q }

-- and may say their model by another name
pub done_as : (g r : Guide) (s o t s' o' t' : List ℕ) (b b' : GuideModel) → b ≡ b' → Done g r s o t s' o' t' b → Done g r s o t s' o' t' b'
done_as g r s o t s' o' t' b b' e d = record { stands = d.stands; is = d.is ∙ e; same_p = d.same_p; same_v = d.same_v; frame = d.frame }

-- and keep P and V
pub done_here : (g r : Guide) (s o t s' o' t' : List ℕ) (b : GuideModel) → Done g r s o t s' o' t' b
    → Done g (with_window g r.window r.written r.held) s o t s' o' t' b
done_here g r s o t s' o' t' b d = subst (λ (x : Guide). Done g x s o t s' o' t' b) (ap (λ p. with p r.v) d.same_p ∙ ap (λ v. with g.p v) d.same_v) d
  where
    with : ℕ → ℕ → Guide
    with p v = record { held = r.held; window = r.window; p = p; v = v; written = r.written }

pub release_done : (g r : Guide) (s o o' t t' : List ℕ) → Stands g s o t → g.written + length_of g 0 ≤ g.v
    → r ≡ released_guide g → o' ≡ released_order g s o
    → t' ≡ tallied t (map entry_of (row o' g.written (length_of g 0)))
    → Done g r s o t s o' t' (release g.p 1 (view g s o))
unfolding released_guide
release_done g r s o o' t t' k room er eo et =
    rw (et, eo, er) (record {
      stands = stands_release g s o t k room;
      is = release_view g s k.laid o (omega (arith, k.order_long));
      same_p = refl;
      same_v = refl;
      frame = frame_release g s o t k room;
    })

pub put_done : (g : Guide) (s s' o t : List ℕ) (i : ℕ) (e : Entry) → Stands g s o t → i < 32 → length_of g i ≤ g.p
    → s' ≡ put_spans g s i e → Done g (longer g i) s o t s' o t (put i (item_of e) (view g s o))
unfolding longer
put_done g s s' o t i e k hi h es =
    rw es (record {
      stands = stands_put g s o t k i e hi h;
      is = put_view g s k.laid i e o hi h;
      same_p = refl;
      same_v = refl;
      frame = frame_put g s o t k i e hi h;
    })

-- what the tally asks after the release, and what the release asks
pub asked_tally : (g : Guide) (s o o' t : List ℕ) → Stands g s o t → g.written + length_of g 0 ≤ g.v → o' ≡ released_order g s o → length o' ≡ length o
    → fits o' (g.written + length_of g 0) × Countable o' t g.written (length_of g 0)
asked_tally g s o o' t k room eo el = (omega (arith, k.order_long), rw eo (countable g s o t k room))

pub asked_release : (g : Guide) (s o t : List ℕ) → Stands g s o t → Free g → Fit g s o
asked_release g s o t k f = laid_fit g s o k.laid (omega (arith, f.room, k.order_long)) (omega (arith, f.room, k.small)) f.low

-- a put that does not fill the span, and one that does
pub settle_kept : (P n : ℕ) (b : GuideModel) → n < P → settle P n b ≡ b
unfolding settle
settle_kept P n b h = rw (lt-leb P n h, settle)

pub settle_gone : (P n : ℕ) (b : GuideModel) → P ≤ n → settle P n b ≡ release P 1 b
unfolding settle
settle_gone P n b h = rw (le-leb P n h, settle)

pub longer_free : (g : Guide) (i : ℕ) → 1 ≤ i → Free g → Free (longer g i)
unfolding longer
longer_free g i k f = record { room = rw (get_or-set_other g.window.lens i 0 (length_of g i + 1) 0 (omega arith)) f.room; low = f.low }

-- the guide after a release: its first length, its numbers
module _ (g h : Guide) (e : h ≡ released_guide g) (l : length g.window.lens ≡ 32) where
  pub released_zero : length_of h 0 ≡ length_of g 1
  unfolding released_guide rotated
  released_zero = rw e (rotated_at g.window.lens 0 0 (omega arith))

  pub released_number : length g.window.ids ≡ 32 → number_of h 31 ≡ number_of g 31 + 1
  unfolding released_guide rotated
  released_number z = rw e (get_or_at (drop 1 g.window.ids) _ [] 0 31 (length-drop 1 g.window.ids ∙ omega arith))

  pub released_written : h.written ≡ g.written + length_of g 0
  unfolding released_guide
  released_written = rw e

pub view_length : (g : Guide) (s o : List ℕ) → Laid g s → length (view g s o).spans ≡ 32
unfolding view
view_length g s o k = spans_length g.p s g.window.rows g.window.lens (k.rows_many ∙ sym k.lens_many) ∙ k.lens_many

-- the model's lengths and numbers are the window's
pub len_view : (g : Guide) (s o : List ℕ) → Laid g s → (i : ℕ) → len (view g s o).spans i ≡ length_of g i
unfolding view
len_view g s o k i = span_length g.p s g.window.rows g.window.lens i (k.rows_many ∙ sym k.lens_many)

pub number_view : (g : Guide) (s o : List ℕ) → Laid g s → (i : ℕ) → i < 32 → number_of g i ≡ (view g s o).first + i
unfolding view
number_view g s o k i h = ap (λ x. get_or x i 0) k.numbered ∙ upto_at (number_of g 0) 32 i h

pub order_view : (g : Guide) (s o : List ℕ) → length (view g s o).order ≡ g.written
unfolding view order_of
order_view g s o = length-map (row o 0 g.written) entry_of ∙ row_length o 0 g.written

-- a put into an existing span, kept or with a release after it
module _ (g : Guide) (s s' o t : List ℕ) (i : ℕ) (e : Entry) (k : Stands g s o t) (hi : (1 ≤ i) × ((i < 32) × (length_of g i ≤ g.p))) (es : s' ≡ put_spans g s i e) where
  abbrev put_in : GuideModel
  put_in = put i (item_of e) (view g s o)

  abbrev settled : GuideModel
  settled = settle g.p (length_of g i + 1) put_in

  pub put_is : Done g (longer g i) s o t s' o t put_in
  put_is = put_done g s s' o t i e k hi.1.0 hi.1.1 es

  pub put_kept : length_of g i + 1 < g.p → Done g (longer g i) s o t s' o t settled
  put_kept lt = done_as g (longer g i) s o t s' o t put_in settled (sym (settle_kept g.p (length_of g i + 1) put_in lt)) put_is

  pub put_gone : (r : Guide) (o' t' : List ℕ) → g.p ≤ length_of g i + 1 → Done (longer g i) r s' o t s' o' t' (release g.p 1 (view (longer g i) s' o))
      → Done g (with_window g r.window r.written r.held) s o t s' o' t' settled
  put_gone r o' t' ge f =
      let b = release g.p 1 (view (longer g i) s' o) in
      done_here g r s o t s' o' t' settled
      (done_as g r s o t s' o' t' b settled (ap (λ x. release g.p 1 x) put_is.is ∙ sym (settle_gone g.p (length_of g i + 1) put_in ge))
      (done_then g (longer g i) r s o t s' o t s' o' t' put_in b put_is f))

-- one release after n of them, on the way to 2 or to 32
pub done_next : (g h r : Guide) (s o o' o'' t t' t'' : List ℕ) (n : ℕ) → Laid g s → n < 32 → len (view g s o).spans 31 ≤ g.p
    → Done g h s o t s o' t' (release g.p n (view g s o)) → Done h r s o' t' s o'' t'' (release h.p 1 (view h s o'))
    → Done g r s o t s o'' t'' (release g.p (suc n) (view g s o))
done_next g h r s o o' o'' t t' t'' n k l m d f =
    done_as g r s o t s o'' t'' (release h.p 1 (view h s o')) (release g.p (suc n) (view g s o))
    (ap (λ x. release x 1 (view h s o')) d.same_p ∙ ap (λ x. release g.p 1 x) d.is ∙ release_next g.p n (view g s o) k.one (view_length g s o k) m l)
    (done_then g h r s o t s o' t' s o'' t'' (release g.p n (view g s o)) (release h.p 1 (view h s o')) d f)

pub done_none : (g : Guide) (s o t : List ℕ) → Stands g s o t → Done g g s o t s o t (release g.p 0 (view g s o))
done_none g s o t k =
    record { stands = k; is = sym (release_none g.p (view g s o)); same_p = refl; same_v = refl; frame = frame_refl g.p g.written s o t }

-- what the first and the second of two releases ask
pub free_one : (g : Guide) → FreeTwo g → Free g
free_one g f = record { room = omega (arith, f.room); low = omega (arith, f.low) }

pub free_two : (g h : Guide) (s : List ℕ) → Laid g s → h ≡ released_guide g → h.v ≡ g.v → FreeTwo g → Free h
free_two g h s k e ev f =
    let ids : length g.window.ids ≡ 32 = ap length k.numbered ∙ upto_length (number_of g 0) 32 in
    record {
      room = omega (arith, f.room, released_zero g h e k.lens_many, released_written g h e k.lens_many);
      low = omega (arith, f.low, released_number g h e k.lens_many ids);
    }
