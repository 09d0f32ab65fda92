-- One entry more, and the release of span 0: what they do to window and storage, and that under `view` they are `put` and `release` of
-- `rules`. Assumes nothing.
use Rattle.std.specs.Prelude.{◌≡◌, ◌≢◌, set, drop}
use Rattle.std.proofs.Math.Path.{sym, ap}
use Rattle.std.proofs.Common.{◌∙◌, arith, length-append, length-drop, get_or-set_same, get_or-set_other, get_or-drop}
use mathlib.Core.List.{List, [], ◌∷◌, ◌++◌}
use Prim.Native.Nat.{ℕ, suc, ◌+◌, ◌-◌, ◌*◌, ◌≤◌, ◌<◌}
use Rattle.std.proofs.Math.Decide.{ℕ_discrete}
use Rattle.std.proofs.Math.ListN.{length, get_or, length-set, get_or-append}
use Rattle.std.proofs.lemmas.List.{get_or_at}
use Rattle.window.specs.declared.Window.{Window}
use Rattle.window.specs.Rotate.{rotated}
use Rattle.entries.specs.declared.Entry.{Entry}
use Rattle.entries.specs.Entries.{fits, has_entry, entry_at, with_entry, held_entry, row, annotated, appended, item_of}
use Rattle.entries.specs.Stored.{stored_length, entry_other, entry_same}
use Rattle.rules.specs.Guide.{put, release}
use Rattle.buffer.specs.declared.Guide.{Guide}
use Rattle.buffer.specs.View.{length_of, number_of, start_of, slot, order_of, view, Laid, upto}
use Rattle.buffer.specs.Rows.{row_ends, spans_put, spans_rotated, distinct_rotated, most_rotated, most_at, most_set, upto_at, upto_rotated, row_length}
use Rattle.buffer.specs.Order.{order_released, first_released}
use Rattle.buffer.specs.Held.{sum_longer, sum_rotated}

-- a rotated list: each element is what the next one was, and the last is new
pub rotated_at : (xs : List ℕ) (y i : ℕ) → i + 1 < length xs → get_or (drop 1 xs ++ (y ∷ [])) i 0 ≡ get_or xs (i + 1) 0
rotated_at xs y i h =
    let e : 1 + i ≡ i + 1 = omega arith in
    let l : i < length (drop 1 xs) = simp length-drop (omega arith) in
    get_or-append (drop 1 xs) (y ∷ []) 0 i l ∙ get_or-drop 1 xs i 0 ∙ ap (λ n. get_or xs n 0) e

rotated_last : (xs : List ℕ) (y i : ℕ) → i + 1 ≡ length xs → get_or (drop 1 xs ++ (y ∷ [])) i 0 ≡ y
rotated_last xs y i h = get_or_at (drop 1 xs) y [] 0 i (length-drop 1 xs ∙ omega arith)

-- where the next entry of span i goes
abbrev pub slot_of : Guide → ℕ → ℕ
slot_of g i = slot g i (length_of g i)

-- the guide with another window, so many entries written and so many held
abbrev pub with_window : Guide → Window → ℕ → ℕ → Guide
with_window g w n m = record { held = m; window = w; p = g.p; v = g.v; written = n }

unfoldable pub longer : Guide → ℕ → Guide
longer g i = with_window g (record { ids = g.window.ids; lens = set g.window.lens i (length_of g i + 1); rows = g.window.rows }) g.written (g.held + 1)

unfoldable pub released_guide : Guide → Guide
released_guide g = with_window g (rotated g.window) (g.written + length_of g 0) (g.held - length_of g 0)

unfoldable pub released_order : Guide → List ℕ → List ℕ → List ℕ
released_order g s o =
    let a = length_of g 0 in
    appended o g.written (annotated g.p a (length_of g 1) 0 (row s (start_of g 0) a))

unfoldable pub put_spans : Guide → List ℕ → ℕ → Entry → List ℕ
put_spans g s i e = with_entry s (slot_of g i) (held_entry e)

module _ (g : Guide) (s : List ℕ) (k : Laid g s) where
  -- a slot lies in the lent spans
  pub slot_fits : (i : ℕ) → length_of g i ≤ g.p → has_entry s (slot_of g i)
  slot_fits i h =
      let r : get_or g.window.rows i 0 < 32 = omega (arith, most_at 31 g.window.rows i k.below) in
      omega (arith, row_ends g.p (get_or g.window.rows i 0) 32 r, k.long)

  -- the entry that is put has 0, and all others stay
  put_unassigned : (i : ℕ) (e : Entry) → i < 32 → length_of g i ≤ g.p → (x j : ℕ) → x < 32 → j < get_or (set g.window.lens i (length_of g i + 1)) x 0
      → (entry_at (with_entry s (slot_of g i) (held_entry e)) (slot g x j)).parallelism ≡ 0
  put_unassigned i e hi h x j hx hj = go (ℕ_discrete q (slot_of g i)) (ℕ_discrete x i)
    where
      q : ℕ
      q = slot g x j

      l : ℕ
      l = length_of g i

      s' : List ℕ
      s' = with_entry s (slot_of g i) (held_entry e)

      other : q ≢ slot_of g i → j < length_of g x → (entry_at s' q).parallelism ≡ 0
      other n z = ap (λ t. t.parallelism) (entry_other s (slot_of g i) (held_entry e) (slot_fits i h) q n) ∙ k.unassigned x j hx z

      go : Dec (q ≡ slot_of g i) → Dec (x ≡ i) → (entry_at s' q).parallelism ≡ 0
      go (yes z) y = rw z (ap (λ t. t.parallelism) (entry_same s (slot_of g i) (held_entry e) (slot_fits i h) (omega arith)))
      go (no n) (yes z) =
          let below : j < l + 1 = rw (z, get_or-set_same g.window.lens i (l + 1) 0 (omega (arith, k.lens_many))) at hj in
          let differs : j ≢ l = (λ w. n (rw (z, w))) in
          other n (rw z (omega arith))
      go (no n) (no y) = other n (rw (get_or-set_other g.window.lens i x (l + 1) 0 y) at hj)

  pub put_laid : (i : ℕ) (e : Entry) → i < 32 → length_of g i ≤ g.p → Laid (longer g i) (put_spans g s i e)
  unfolding longer put_spans
  put_laid i e hi h =
      record {
        one = k.one;
        few = k.few;
        rows_many = k.rows_many;
        lens_many = length-set g.window.lens i _ ∙ k.lens_many;
        distinct = k.distinct;
        below = k.below;
        short = most_set (g.p + 1) g.window.lens i _ (omega arith) k.short;
        numbered = k.numbered;
        held_is = rw (sum_longer g.window.lens i (omega (arith, k.lens_many))) (ap (λ n. n + 1) k.held_is);
        long = rw (stored_length s (slot_of g i) (held_entry e) (slot_fits i h)) k.long;
        unassigned = put_unassigned i e hi h;
      }

  pub put_view : (i : ℕ) (e : Entry) (o : List ℕ) → i < 32 → length_of g i ≤ g.p → view (longer g i) (put_spans g s i e) o ≡ put i (item_of e) (view g s o)
  unfolding longer put_spans view put item_of
  put_view i e o hi h =
      ap (λ t. record { first = number_of g 0; spans = t; order = order_of o g.written })
      (spans_put g.p s e g.window.rows g.window.lens i k.distinct k.short (k.rows_many ∙ sym k.lens_many)
      (omega (arith, k.rows_many)) h (slot_fits i h))

  last_number : number_of g 31 ≡ number_of g 0 + 31
  last_number = ap (λ t. get_or t 31 0) k.numbered ∙ upto_at (number_of g 0) 32 31 (omega arith)

  ids_rotated : drop 1 g.window.ids ++ ((number_of g 31 + 1) ∷ []) ≡ upto (number_of g 0 + 1) 32
  ids_rotated =
      let n = number_of g 0 in
      let e : n + 1 ≡ suc n = omega arith in
      rw (last_number, e) (ap (λ t. drop 1 t ++ ((n + 31 + 1) ∷ [])) k.numbered ∙ upto_rotated n 31)

  first_rotated : get_or (drop 1 g.window.ids ++ ((number_of g 31 + 1) ∷ [])) 0 0 ≡ number_of g 0 + 1
  unfolding upto
  first_rotated = ap (λ t. get_or t 0 0) ids_rotated

  pub release_laid : Laid (released_guide g) s
  unfolding released_guide rotated
  release_laid =
      record {
        one = k.one;
        few = k.few;
        rows_many = simp (length-append, length-drop) (omega (arith, k.rows_many));
        lens_many = simp (length-append, length-drop) (omega (arith, k.lens_many));
        distinct = distinct_rotated g.window.rows (omega (arith, k.rows_many)) k.distinct;
        below = most_rotated 31 g.window.rows (get_or g.window.rows 0 0) (most_at 31 g.window.rows 0 k.below) k.below;
        short = most_rotated (g.p + 1) g.window.lens 0 (omega arith) k.short;
        numbered = ids_rotated ∙ ap (λ t. upto t 32) (sym first_rotated);
        held_is = omega (arith, k.held_is, sum_rotated g.window.lens (omega (arith, k.lens_many)));
        long = k.long;
        unassigned = λ i j hi hj. go i j hi hj (ℕ_discrete i 31);
      }
    where
      lens : List ℕ
      lens = g.window.lens

      rows : List ℕ
      rows = g.window.rows

      go : (i j : ℕ) → i < 32 → j < get_or (drop 1 lens ++ (0 ∷ [])) i 0 → Dec (i ≡ 31)
          → (entry_at s (get_or (drop 1 rows ++ (get_or rows 0 0 ∷ [])) i 0 * (g.p + 1) + j)).parallelism ≡ 0
      go i j hi hj (yes e) = absurd (omega (arith, rotated_last lens 0 i (omega (arith, k.lens_many))))
      go i j hi hj (no n) =
          rw (rotated_at rows (get_or rows 0 0) i (omega (arith, k.rows_many)))
          (k.unassigned (i + 1) j (omega arith) (rw (rotated_at lens 0 i (omega (arith, k.lens_many))) at hj))

  pub release_view : (o : List ℕ) → fits o (g.written + length_of g 0) → view (released_guide g) s (released_order g s o) ≡ release g.p 1 (view g s o)
  unfolding released_guide rotated released_order view release
  release_view o h =
      let a = length_of g 0 in
      let es = row s (start_of g 0) a in
      let same : length g.window.rows ≡ length g.window.lens = k.rows_many ∙ sym k.lens_many in
      let f = first_rotated in
      let sp = spans_rotated g.p s g.window.rows g.window.lens same in
      let od = order_released o g.written g.p a (length_of g 1) es (row_length s _ a) h k.one k.few
      ∙ ap (λ t. order_of o g.written ++ t) (sym (first_released g.p s g.window.rows g.window.lens same (omega (arith, k.lens_many)))) in
      cc
