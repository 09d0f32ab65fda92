-- The choice of a span by numbers and lengths, `chosen_by`, is `choose` of `rules`. Assumes nothing.
use Rattle.std.specs.Prelude.{◌≡◌, List, [], ◌∷◌, map, Bool, ℕ, zero, suc, ◌+◌, ◌-◌, ltb, eqb, length, get_or, drop}
use Rattle.std.proofs.Math.Path.{refl}
use Rattle.std.proofs.Common.{sym, ap, ◌∙◌, arith}
use Rattle.std.proofs.Math.Bool.{true, false}
use Rattle.std.proofs.Math.Option.{some}
use Rattle.std.proofs.lemmas.List.{length-map}
use Rattle.choice.specs.declared.MatchedSpan.{MatchedSpan}
use Rattle.choice.specs.declared.MatchedSpan.TheVariants.{Existing, New}
use Rattle.choice.specs.Search.{matched, first_below, pick_span}
use Rattle.choice.specs.Chosen.{chosen_by}
use Rattle.entries.specs.Entries.{row, item_of}
use Rattle.rules.specs.Guide.{Item, Choice, existing, opened, choose, found, seek, begin}
use Rattle.buffer.specs.declared.Guide.{Guide}
use Rattle.buffer.specs.View.{row_start, length_of, number_of, spans_of, view, Laid}
use Rattle.buffer.specs.Rows.{row_length, span_length}
use Rattle.guide.specs.Ready.{after_of}

-- a choice as `rules` has it
unfoldable pub choice_of : MatchedSpan → Choice
choice_of (Existing i) = existing i
choice_of (New n) = opened n

spans_drop : (p : ℕ) (s rs ls : List ℕ) (n : ℕ) → drop n (spans_of p s rs ls) ≡ spans_of p s (drop n rs) (drop n ls)
unfolding spans_of
spans_drop p s rs ls zero = refl
spans_drop p s [] ls (suc n) = refl
spans_drop p s (r ∷ rs) [] (suc n) = nil (drop n rs)
  where
    nil : (xs : List ℕ) → [] ≡ spans_of p s xs []
    nil [] = refl
    nil (x ∷ xs) = refl
spans_drop p s (r ∷ rs) (l ∷ ls) (suc n) = spans_drop p s rs ls n

seek_below : (p : ℕ) (s rs ls : List ℕ) (i : ℕ) → length rs ≡ length ls → choice_of (first_below ls i p) ≡ found (seek p i (spans_of p s rs ls))
unfolding spans_of first_below seek found choice_of
seek_below p s [] [] i h = refl
seek_below p s [] (l ∷ ls) i h = absurd (omega arith)
seek_below p s (r ∷ rs) [] i h = absurd (omega arith)
seek_below p s (r ∷ rs) (l ∷ ls) i h = go (ltb l p) refl (seek_below p s rs ls (suc i) (omega arith))
  where
    len : length (map item_of (row s (row_start r p) l)) ≡ l
    len = length-map (row s (row_start r p) l) item_of ∙ row_length s (row_start r p) l

    go : (t : Bool) → ltb l p ≡ t → choice_of (first_below ls (suc i) p) ≡ found (seek p (suc i) (spans_of p s rs ls))
        → choice_of (pick_span (ltb l p) (Existing i) (first_below ls (suc i) p)) ≡ found (seek p i (map item_of (row s (row_start r p) l) ∷ spans_of p s rs ls))
    go true e k = rw (seek, len, e)
    go false e k = rw (seek, len, e) k

drop_lengths : (rs ls : List ℕ) (n : ℕ) → length rs ≡ length ls → length (drop n rs) ≡ length (drop n ls)
drop_lengths rs ls zero h = h
drop_lengths [] [] (suc n) h = refl
drop_lengths [] (l ∷ ls) (suc n) h = absurd (omega arith)
drop_lengths (r ∷ rs) [] (suc n) h = absurd (omega arith)
drop_lengths (r ∷ rs) (l ∷ ls) (suc n) h = drop_lengths rs ls n (omega arith)

matched_is : (p : ℕ) (s rs ls : List ℕ) (i : ℕ) → length rs ≡ length ls → choice_of (matched ls i p) ≡ found (seek p i (drop i (spans_of p s rs ls)))
unfolding matched
matched_is p s rs ls i h = seek_below p s (drop i rs) (drop i ls) i (drop_lengths rs ls i h) ∙ ap (λ t. found (seek p i t)) (sym (spans_drop p s rs ls i))

module _ (g : Guide) (s o : List ℕ) (span pos : ℕ) (k : Laid g s) where
  -- how far past span 0 `after` lies
  abbrev d : ℕ
  d = span - number_of g 0

  abbrev lens : List ℕ
  lens = g.window.lens

  abbrev spans : List (List Item)
  spans = spans_of g.p s g.window.rows lens

  same : length g.window.rows ≡ length lens
  same = k.rows_many ∙ sym k.lens_many

  len : length (get_or spans (d + 1) []) ≡ length_of g (d + 1)
  len = span_length g.p s g.window.rows lens (d + 1) same

  search_is : (t : Bool) → ltb (length_of g (d + 1)) pos ≡ t
      → choice_of (pick_span t (matched lens (d + 2) g.p) (matched lens (d + 1) g.p)) ≡ found (seek g.p (begin d pos spans) (drop (begin d pos spans) spans))
  unfolding begin
  search_is true e =
      let x : begin d pos spans ≡ d + 2 = rw (begin, len, e) in
      rw x (matched_is g.p s g.window.rows lens (d + 2) same)
  search_is false e =
      let x : begin d pos spans ≡ d + 1 = rw (begin, len, e) in
      rw x (matched_is g.p s g.window.rows lens (d + 1) same)

  by_tests : (t u v : Bool) → ltb span (number_of g 0) ≡ t → eqb d 31 ≡ u → ltb (length_of g (d + 1)) pos ≡ v
      → choice_of (chosen_by (number_of g 0) lens g.p true span pos) ≡ choose g.p (view g s o) (some (record { span = span; pos = pos }))
  unfolding chosen_by choose choice_of view begin
  by_tests true u v e f h = rw (choose, e)
  by_tests false true v e f h = rw (choose, e, f)
  by_tests false false v e f h = rw (choose, e, f, h) (search_is v h)

  pub chosen_is : (has : Bool) → choice_of (chosen_by (number_of g 0) lens g.p has span pos) ≡ choose g.p (view g s o) (after_of has span pos)
  unfolding chosen_by after_of choose choice_of view
  chosen_is false = refl
  chosen_is true = by_tests (ltb span (number_of g 0)) (eqb d 31) (ltb (length_of g (d + 1)) pos) refl refl refl
