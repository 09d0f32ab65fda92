-- What stands between calls of the guide and its storage: the window is laid out in the spans, the slices are long enough, and the tally's
-- first P + 1 counts are those of the order. A put and a release keep it. Assumes nothing.
use Rattle.std.specs.Prelude.{◌≡◌, refl, ℕ, zero, suc, ◌+◌, ◌≤◌, ◌<◌, length, drop, replicate}
use Rattle.std.proofs.Math.Path.{sym, ap}
use Rattle.std.proofs.Common.{◌∙◌, inl, inr, arith, drop_at}
use mathlib.Core.List.{List, [], ◌∷◌, ◌++◌, map}
use Rattle.std.proofs.Math.ListN.{get_or, take, get_or-replicate}
use Rattle.std.proofs.Math.Seq.{get_or-take}
use Rattle.rules.specs.Limits.{most_places}
use Rattle.rules.specs.Guide.{tallied, tally}
use Rattle.entries.specs.declared.Entry.{Entry}
use Rattle.entries.specs.Entries.{Narrow, fits, row, entry_at, held_entry, annotated, appended, entry_of}
use Rattle.entries.specs.Stored.{parallelism_most, annotated_narrow, row_add, stored_elsewhere, appended_elsewhere, stored_length}
use Rattle.buffer.specs.declared.Guide.{Guide}
use Rattle.buffer.specs.View.{length_of, start_of, order_of, Laid}
use Rattle.buffer.specs.Rows.{most_at, row_length, row_ends}
use Rattle.buffer.specs.Order.{appended_row, map_append, order_count, annotated_length, appended_length}
use Rattle.buffer.specs.Moves.{slot_of, slot_fits, longer, released_guide, released_order, put_spans, put_laid, release_laid}
use Rattle.tally.specs.Counting.{parallelism_from, Countable}
use Rattle.tally.specs.Tallied.{Within, tallied_append, tallied_length, tallied_le, tallied_beyond, tallied_front}
use Rattle.placing.specs.GuideFrame.{GuideFrame}

pub record Stands (g : Guide) (s o t : List ℕ) : Type 0 where
  pub laid : Laid g s
  pub small : g.v ≤ most_places
  pub order_long : fits o g.v
  pub tally_long : g.p < length t
  pub tally_is : take (g.p + 1) t ≡ tally g.p (order_of o g.written)

-- lists
appended_tail : (o : List ℕ) (n : ℕ) (es : List Entry) → fits o (n + length es) → Narrow es → row (appended o n es) n (length es) ≡ es
appended_tail o n es h k =
    let o1 = appended o n es in
    let a = length es in
    let z : 0 + n ≡ n = omega arith in
    sym (drop_at (row o1 0 n) (row o1 n a) n (row_length o1 0 n))
    ∙ ap (λ t. drop n t) (sym (row_add o1 0 n a ∙ ap (λ t. row o1 0 n ++ row o1 t a) z))
    ∙ ap (λ t. drop n t) (appended_row o n es h k)
    ∙ drop_at (row o 0 n) es n (row_length o 0 n)

-- the parallelism of what a release appends is at most p
annotated_within : (p a b q : ℕ) (es : List Entry) → 1 ≤ p → Within p (map entry_of (annotated p a b q es))
unfolding Within entry_of
annotated_within p a b q [] hp = tt
annotated_within p a b q (e ∷ es) hp = (parallelism_most p a b q hp, annotated_within p a b (suc q) es hp)

within_at : (p : ℕ) (o : List ℕ) (n a q : ℕ) → Within p (map entry_of (row o n a)) → q < a → (entry_at o (n + q)).parallelism ≤ p
unfolding Within entry_of
within_at p o n zero q m h = absurd (omega arith)
within_at p o n (suc a) zero m h = let e : n + 0 ≡ n = omega arith in rw e m.0
within_at p o n (suc a) (suc q) m h = let e : n + suc q ≡ suc n + q = omega arith in rw e (within_at p o (suc n) a q m.1 (omega arith))

module _ (g : Guide) (s o t : List ℕ) (k : Stands g s o t) where
  module _ (i : ℕ) (e : Entry) (hi : i < 32) (h : length_of g i ≤ g.p) where
    pub stands_put : Stands (longer g i) (put_spans g s i e) o t
    unfolding longer
    stands_put = record { laid = put_laid g s k.laid i e hi h; small = k.small; order_long = k.order_long; tally_long = k.tally_long; tally_is = k.tally_is }

    pub frame_put : GuideFrame g.p g.written g.written s o t (put_spans g s i e) o t
    unfolding put_spans
    frame_put =
        let f = slot_fits g s k.laid i h in
        let r : get_or g.window.rows i 0 < 32 = omega (arith, most_at 31 g.window.rows i k.laid.below) in
        record {
          spans_length = stored_length s (slot_of g i) (held_entry e) f;
          order_length = refl;
          tally_length = refl;
          spans_beyond = λ j z. stored_elsewhere s (slot_of g i) (held_entry e) j f (inr (omega (arith, row_ends g.p (get_or g.window.rows i 0) 32 r)));
          grows = omega arith;
          order_kept = λ j z. refl;
          order_beyond = λ j z. refl;
          tally_beyond = λ x z. refl;
        }

  -- what a release appends
  abbrev pub a : ℕ
  a = length_of g 0

  abbrev pub es : List Entry
  es = row s (start_of g 0) a

  abbrev pub new : List Entry
  new = annotated g.p a (length_of g 1) 0 es

  abbrev pub o' : List ℕ
  o' = released_order g s o

  abbrev pub t' : List ℕ
  t' = tallied t (map entry_of (row o' g.written a))

  new_length : length new ≡ a
  new_length = annotated_length g.p a (length_of g 1) 0 es ∙ row_length s (start_of g 0) a

  module _ (room : g.written + a ≤ g.v) where
    new_fits : fits o (g.written + length new)
    new_fits = omega (arith, new_length, k.order_long)

    new_narrow : Narrow new
    new_narrow = annotated_narrow g.p a (length_of g 1) 0 es k.laid.one k.laid.few

    pub new_row : row o' g.written a ≡ new
    unfolding released_order
    new_row = ap (λ n. row (appended o g.written new) g.written n) (sym new_length) ∙ appended_tail o g.written new new_fits new_narrow

    order_same : length o' ≡ length o
    unfolding released_order
    order_same = appended_length o g.written new new_fits

    order_is : order_of o' (g.written + a) ≡ order_of o g.written ++ map entry_of new
    unfolding order_of released_order
    order_is =
        ap (λ n. map entry_of (row (appended o g.written new) 0 (g.written + n))) (sym new_length)
        ∙ ap (λ l. map entry_of l) (appended_row o g.written new new_fits new_narrow)
        ∙ map_append entry_of (row o 0 g.written) new

    within : Within g.p (map entry_of new)
    within = annotated_within g.p a (length_of g 1) 0 es k.laid.one

    -- a count is at most the number of the order's entries
    count_small : (x : ℕ) → x ≤ g.p → get_or t x 0 ≤ g.written
    unfolding tally
    count_small x z =
        let none = get_or-replicate {A = ℕ} (g.p + 1) x 0 0 (omega arith) in
        let counted = tallied_le x (replicate (g.p + 1) 0) (order_of o g.written) in
        omega (arith, get_or-take (g.p + 1) t x 0 (omega arith), ap (λ l. get_or l x 0) k.tally_is, counted, none, order_count o g.written)

    pub countable : Countable o' t g.written a
    countable =
        let most : (q : ℕ) → q < a → parallelism_from o' g.written q ≤ g.p = λ q z. within_at g.p o' g.written a q (rw new_row within) z in
        record {
          known = λ q z. omega (arith, most q z, k.tally_long);
          small = λ q z. omega (arith, count_small (parallelism_from o' g.written q) (most q z), k.small);
        }

    counts : take (g.p + 1) t' ≡ tally g.p (order_of o' (g.written + a))
    unfolding tally
    counts =
        ap (λ l. take (g.p + 1) (tallied t (map entry_of l))) new_row
        ∙ tallied_front g.p t (map entry_of new) within
        ∙ ap (λ l. tallied l (map entry_of new)) k.tally_is
        ∙ sym (ap (λ l. tally g.p l) order_is ∙ tallied_append (replicate (g.p + 1) 0) (order_of o g.written) (map entry_of new))

    pub stands_release : Stands (released_guide g) s o' t'
    unfolding released_guide
    stands_release =
        record {
          laid = release_laid g s k.laid;
          small = k.small;
          order_long = omega (arith, order_same, k.order_long);
          tally_long = omega (arith, tallied_length t (map entry_of (row o' g.written a)), k.tally_long);
          tally_is = counts;
        }

    pub frame_release : GuideFrame g.p g.written (g.written + a) s o t s o' t'
    unfolding released_order
    frame_release =
        record {
          spans_length = refl;
          order_length = order_same;
          tally_length = tallied_length t (map entry_of (row o' g.written a));
          spans_beyond = λ j z. refl;
          grows = omega arith;
          order_kept = λ j z. appended_elsewhere o g.written new j new_fits (inl z);
          order_beyond = λ j z. appended_elsewhere o g.written new j new_fits (inr (omega (arith, new_length)));
          tally_beyond = λ x z. tallied_beyond g.p x t (map entry_of (row o' g.written a)) (rw new_row within) z;
        }
