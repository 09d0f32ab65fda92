-- Guides and lanes: placing, releasing and flushing a bare guide gives the bare guide of the same placing, releasing or flushing.
-- Assumes nothing.
use Rattle.std.specs.Prelude.{List, [], ◌∷◌, ◌++◌, map, true, false, ◌⊎◌, ◌≡◌, refl, ℕ, zero, suc, ◌+◌, ◌-◌, length, drop, get_or, set, replicate, leb, ltb, eqb}
use Rattle.std.proofs.lemmas.List.{map-append, length-map}
use Rattle.std.proofs.Common.{inl, inr, sym, ap, ◌∙◌}
use Rattle.std.proofs.Math.Option.{Option, some, none}
use Rattle.std.proofs.Math.ListN.{get_or-map}
use Rattle.rules.specs.Guide.{Loc, Item, Guide, parallelism, last_parallelism, annotate, released, release, flush, seek, Choice, existing}
use Rattle.rules.specs.Guide.{opened, found, begin, choose, Placed, put, settle, apply, place}
use Rattle.laws.specs.ModelBase.{bool_cases}
use Rattle.lanes.specs.Claims.{bare_item, bare_entry, bare_guide}

-- ---- maps

drop_map : {A B : Type 0} (f : A → B) (n : ℕ) (l : List A) → drop n (map f l) ≡ map f (drop n l)
drop_map f zero l = refl
drop_map f (suc n) [] = refl
drop_map f (suc n) (x ∷ l) = drop_map f n l

set_map : {A B : Type 0} (f : A → B) (l : List A) (i : ℕ) (x : A) → set (map f l) i (f x) ≡ map f (set l i x)
set_map f [] i x = refl
set_map f (y ∷ l) zero x = refl
set_map f (y ∷ l) (suc i) x = ap (λ t. f y ∷ t) (set_map f l i x)

-- ---- releasing

abbrev bare_spans : List (List Item) → List (List Item)
bare_spans ss = map (map bare_item) ss

annotate_bare : (f : ℕ → ℕ) (q : ℕ) (l : List Item) → annotate f q (map bare_item l) ≡ map bare_entry (annotate f q l)
unfolding annotate bare_entry
annotate_bare f q [] = refl
annotate_bare f q (e ∷ l) = rw (annotate_bare f (suc q) l)

released_bare : (P n : ℕ) (ss : List (List Item)) → released P n (bare_spans ss) ≡ map bare_entry (released P n ss)
unfolding released
released_bare P zero ss = refl
released_bare P (suc n) [] = refl
released_bare P (suc n) (s ∷ []) = rw (length-map s bare_item) (annotate_bare (last_parallelism (length s)) 0 s)
released_bare P (suc n) (s ∷ (t ∷ ss)) =
    rw (length-map s bare_item, length-map t bare_item, annotate_bare (parallelism P (length s) (length t)) 0 s, released_bare P n (t ∷ ss))
    (sym (map-append bare_entry (annotate (parallelism P (length s) (length t)) 0 s) (released P n (t ∷ ss))))

empties_bare : (n : ℕ) → bare_spans (replicate n []) ≡ replicate n []
empties_bare zero = refl
empties_bare (suc n) = ap (λ t. [] ∷ t) (empties_bare n)

release_bare : (P n : ℕ) (g : Guide) → release P n (bare_guide g) ≡ bare_guide (release P n g)
unfolding release bare_guide
release_bare P n g =
    rw (
      released_bare P n g.spans,
      drop_map (map bare_item) n g.spans,
      map-append bare_entry g.order (released P n g.spans),
      map-append (map bare_item) (drop n g.spans) (replicate n []),
      empties_bare n,
    )

pub flush_bare : (P : ℕ) (g : Guide) → flush P (bare_guide g) ≡ bare_guide (flush P g)
unfolding flush
flush_bare P g = release_bare P 32 g

-- ---- choosing a span

length_bare : (ss : List (List Item)) (i : ℕ) → length (get_or (bare_spans ss) i []) ≡ length (get_or ss i [])
length_bare ss i = ap length (get_or-map (map bare_item) ss i []) ∙ length-map (get_or ss i []) bare_item

seek_bare : (P i : ℕ) (ss : List (List Item)) → seek P i (bare_spans ss) ≡ seek P i ss
unfolding seek
seek_bare P i [] = refl
seek_bare P i (s ∷ ss) = rw (seek, length-map s bare_item) (ap (λ (x : Option ℕ). elim (ltb (length s) P) [ true ↦ some i | false ↦ x ]) (seek_bare P (suc i) ss))

begin_bare : (d q : ℕ) (ss : List (List Item)) → begin d q (bare_spans ss) ≡ begin d q ss
unfolding begin
begin_bare d q ss = rw (begin, length_bare ss (d + 1))

search_bare : (P d q : ℕ) (ss : List (List Item))
    → seek P (begin d q (bare_spans ss)) (drop (begin d q (bare_spans ss)) (bare_spans ss)) ≡ seek P (begin d q ss) (drop (begin d q ss) ss)
search_bare P d q ss =
    ap (λ (i : ℕ). seek P i (drop i (bare_spans ss))) (begin_bare d q ss)
    ∙ (ap (seek P (begin d q ss)) (drop_map (map bare_item) (begin d q ss) ss) ∙ seek_bare P (begin d q ss) (drop (begin d q ss) ss))

choose_bare : (P : ℕ) (g : Guide) (after : Option Loc) → choose P (bare_guide g) after ≡ choose P g after
unfolding choose bare_guide
choose_bare P g none = refl
choose_bare P g (some l) = go (bool_cases (ltb l.span g.first)) (bool_cases (eqb (l.span - g.first) 31))
  where
    go : (ltb l.span g.first ≡ true) ⊎ (ltb l.span g.first ≡ false) → (eqb (l.span - g.first) 31 ≡ true) ⊎ (eqb (l.span - g.first) 31 ≡ false)
        → choose P (bare_guide g) (some l) ≡ choose P g (some l)
    go (inl e) f = rw (choose, e)
    go (inr e) (inl f) = rw (choose, e, f)
    go (inr e) (inr f) = rw (choose, e, f) (ap found (search_bare P (l.span - g.first) l.pos g.spans))

-- ---- placing

put_bare : (i : ℕ) (e : Item) (g : Guide) → put i (bare_item e) (bare_guide g) ≡ bare_guide (put i e g)
unfolding put bare_guide
put_bare i e g =
    let span : List Item = get_or g.spans i [] in
    rw (get_or-map (map bare_item) g.spans i [], sym (map-append bare_item span (e ∷ [])), set_map (map bare_item) g.spans i (span ++ (e ∷ [])))

settle_bare : (P n : ℕ) (g : Guide) → settle P n (bare_guide g) ≡ bare_guide (settle P n g)
unfolding settle
settle_bare P n g = go (bool_cases (leb P n))
  where
    go : (leb P n ≡ true) ⊎ (leb P n ≡ false) → settle P n (bare_guide g) ≡ bare_guide (settle P n g)
    go (inl e) = rw (e, settle) (release_bare P 1 g)
    go (inr e) = rw (e, settle)

-- a placing p in the bare guide, and q in the guide itself: the same location, and the bare guide
pub record SamePlaced (p q : Placed) : Type 0 where
  pub guide_is : p.guide ≡ bare_guide q.guide
  pub loc_is : p.loc ≡ q.loc

apply_bare : (P : ℕ) (e : Item) (g : Guide) (c : Choice) → SamePlaced (apply P (bare_item e) (bare_guide g) c) (apply P e g c)
unfolding apply bare_guide
apply_bare P e g (existing i) =
    record {
      guide_is =
          rw (put_bare i e g)
          (ap (λ (n : ℕ). settle P (suc n) (bare_guide (put i e g))) (length_bare g.spans i) ∙ settle_bare P (suc (length (get_or g.spans i []))) (put i e g));
      loc_is = ap (λ (n : ℕ). record { span = g.first + i; pos = n }) (length_bare g.spans i);
    }
apply_bare P e g (opened n) = record { guide_is = ap (put 31 (bare_item e)) (release_bare P n g) ∙ put_bare 31 e (release P n g); loc_is = refl }

pub place_bare : (P : ℕ) (after : Option Loc) (e : Item) (g : Guide) → SamePlaced (place P after (bare_item e) (bare_guide g)) (place P after e g)
unfolding place
place_bare P after e g = rw (choose_bare P g after) (apply_bare P e g (choose P g after))
