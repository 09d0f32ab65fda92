-- Where a value is placed, and what placing does: it lands behind the location that it was placed after, never in span 0, and the
-- history grows by that one entry and perhaps by empty spans.
use Rattle.std.specs.Prelude.{◌≡◌, ◌⊎◌, ◌≢◌, Bool, true, false, drop, leb, ltb, eqb}
use Rattle.std.proofs.Math.Path.{refl, sym}
use Rattle.std.proofs.Common.{ap, inl, inr, arith, suc-add, length-take, length-drop, get_or-drop, ltb-true, ltb-false, leb-false, eqb-true}
use mathlib.Core.List.{List, [], ◌∷◌, ◌++◌, append-nil}
use Rattle.std.proofs.Math.Option.{Option, some, none}
use Prim.Native.Nat.{ℕ, zero, suc, ◌+◌, ◌-◌, ◌≤◌, ◌<◌}
use Rattle.std.proofs.Math.ListN.{length, take, replicate, length-append, get_or-eq_default}
use Rattle.std.proofs.lemmas.List.{length-replicate}
use Rattle.std.proofs.lemmas.Bool.{eqb-false}
use Rattle.rules.specs.Guide.{Loc, Item, Entry, released, Guide, release, seek, Choice, existing, opened, found, begin, choose, Placed, put, settle, apply, place}
use Rattle.laws.specs.History.{len, lt_or_le}
use Rattle.laws.specs.Together.{Behind}
use Rattle.laws.specs.GuideInv.{Core, Later, release_core, release_later, put_core, grow, grow_skip, grow_left, put_later, len_append, len_extend, regroup, put_spans}
use Rattle.laws.specs.GuideInv.{put_order, put_first, release_spans, release_order, release_first}

data Sought (P i : ℕ) (ss : List (List Item)) : Option ℕ → Type 0 where
  missing : Sought P i ss none
  hit : (j m : ℕ) → j ≡ i + m → m < length ss → len ss m < P → Sought P i ss (some j)

sought_later : {P i : ℕ} {s : List Item} {ss : List (List Item)} {o : Option ℕ} → Sought P (suc i) ss o → Sought P i (s ∷ ss) o
sought_later missing = missing
sought_later (hit j m e h k) = hit j (suc m) (omega arith) (omega arith) k

seek_is : (P i : ℕ) (ss : List (List Item)) → Sought P i ss (seek P i ss)
unfolding seek
seek_is P i [] = missing
seek_is P i (s ∷ ss) = go (ltb (length s) P) refl (seek_is P (suc i) ss)
  where
    go : (t : Bool) → ltb (length s) P ≡ t → Sought P (suc i) ss (seek P (suc i) ss) → Sought P i (s ∷ ss) (seek P i (s ∷ ss))
    go true e r = rw (e, seek) (hit i 0 (omega arith) (omega arith) (ltb-true (length s) P e))
    go false e r = rw (e, seek) (sought_later r)

-- the span chosen is span 1, or a short one that is not span 0, or one or two are opened
pub data Chosen (P : ℕ) (ss : List (List Item)) : Choice → Type 0 where
  at_one : Chosen P ss (existing 1)
  at_short : (i : ℕ) → suc i < length ss → len ss (suc i) < P → Chosen P ss (existing (suc i))
  anew : (n : ℕ) → 1 ≤ n → n ≤ 2 → Chosen P ss (opened n)

found_chosen : (P i : ℕ) (ss : List (List Item)) {o : Option ℕ} → Sought P (suc i) (drop (suc i) ss) o → Chosen P ss (found o)
unfolding found
found_chosen P i ss missing = anew 1 (omega arith) (omega arith)
found_chosen P i ss (hit j m e h k) =
    rw (e, suc-add) (at_short (i + m) (omega (arith, length-drop (suc i) ss)) (rw (get_or-drop, suc-add) at k))

begin_is : (d q : ℕ) (ss : List (List Item)) → (begin d q ss ≡ d + 2) ⊎ ((begin d q ss ≡ d + 1) × (q ≤ len ss (d + 1)))
unfolding begin
begin_is d q ss = go (ltb (len ss (d + 1)) q) refl
  where
    go : (t : Bool) → ltb (len ss (d + 1)) q ≡ t → (begin d q ss ≡ d + 2) ⊎ ((begin d q ss ≡ d + 1) × (q ≤ len ss (d + 1)))
    go true e = inl (rw (e, begin))
    go false e = inr (rw (e, begin), ltb-false (len ss (d + 1)) q e)

begin_suc : (d q : ℕ) (ss : List (List Item)) → (i : ℕ) × (begin d q ss ≡ suc i)
begin_suc d q ss = go (begin_is d q ss)
  where
    go : (begin d q ss ≡ d + 2) ⊎ ((begin d q ss ≡ d + 1) × (q ≤ len ss (d + 1))) → (i : ℕ) × (begin d q ss ≡ suc i)
    go (inl e) = (d + 1, omega arith)
    go (inr e) = (d, omega arith)

-- what `choose` gives is one of these
pub chosen : (P : ℕ) (g : Guide) (after : Option Loc) → Chosen P g.spans (choose P g after)
unfolding choose
chosen P g none = at_one
chosen P g (some l) = go (ltb l.span g.first) (eqb (l.span - g.first) 31) refl refl
  where
    go : (t u : Bool) → ltb l.span g.first ≡ t → eqb (l.span - g.first) 31 ≡ u → Chosen P g.spans (choose P g (some l))
    go true u e f = rw (e, choose) at_one
    go false true e f = rw (e, f, choose) (anew 2 (omega arith) (omega arith))
    go false false e f =
        let b = begin_suc (l.span - g.first) l.pos g.spans in
        rw (e, f, choose) (rw b.1 (found_chosen P b.0 g.spans (seek_is P (suc b.0) (drop (suc b.0) g.spans))))

-- where a value placed so lands
abbrev pub Lands : Guide → ℕ → ℕ → Choice → Type 0
Lands g s q (existing i) = Behind s q (g.first + i) (len g.spans i)
Lands g s q (opened n) = Behind s q (g.first + 31 + n) 0

found_lands : (P i : ℕ) (g : Guide) (s q : ℕ) {o : Option ℕ} → s + 1 ≤ g.first + i → s ≤ g.first + 30
    → ((s + 2 ≤ g.first + i) ⊎ (q ≤ len g.spans i)) → Sought P i (drop i g.spans) o → Lands g s q (found o)
unfolding found
found_lands P i g s q h k w missing = inl (omega arith)
found_lands P i g s q h k (inl w) (hit j m e a b) = inl (omega arith)
found_lands P i g s q h k (inr w) (hit j zero e a b) =
    let z : j ≡ i = omega arith in
    rw z (go (lt_or_le (s + 1) (g.first + i)))
  where
    go : (s + 1 < g.first + i) ⊎ (g.first + i ≤ s + 1) → Behind s q (g.first + i) (len g.spans i)
    go (inl x) = inl (omega arith)
    go (inr x) = inr (omega arith, w)
found_lands P i g s q h k (inr w) (hit j (suc m) e a b) = inl (omega arith)

-- whatever is chosen lies behind the location that the value is placed after
pub lands : (P : ℕ) (g : Guide) (l : Loc) → l.span ≤ g.first + 31 → Lands g l.span l.pos (choose P g (some l))
unfolding choose
lands P g l h = go (ltb l.span g.first) (eqb (l.span - g.first) 31) refl refl
  where
    go : (t u : Bool) → ltb l.span g.first ≡ t → eqb (l.span - g.first) 31 ≡ u → Lands g l.span l.pos (choose P g (some l))
    go true u e f = rw (e, choose) (inl (omega (arith, ltb-true l.span g.first e)))
    go false true e f = rw (e, f, choose) (inl (omega (arith, ltb-false l.span g.first e, eqb-true (l.span - g.first) 31 f)))
    go false false e f =
        rw (e, f, choose) (far (l.span - g.first) (ltb-false l.span g.first e) (eqb-false (l.span - g.first) 31 f) refl (begin_is (l.span - g.first) l.pos g.spans))
      where
        far : (d : ℕ) → g.first ≤ l.span → d ≢ 31 → d ≡ l.span - g.first
            → (begin d l.pos g.spans ≡ d + 2) ⊎ ((begin d l.pos g.spans ≡ d + 1) × (l.pos ≤ len g.spans (d + 1)))
            → Lands g l.span l.pos (found (seek P (begin d l.pos g.spans) (drop (begin d l.pos g.spans) g.spans)))
        far d x y z (inl b) = found_lands P (begin d l.pos g.spans) g l.span l.pos (omega arith) (omega arith) (inl (omega arith)) (seek_is P _ _)
        far d x y z (inr b) = found_lands P (begin d l.pos g.spans) g l.span l.pos (omega arith) (omega arith) (inr (rw b.0 b.1)) (seek_is P _ _)

-- what a placing does: the history grows by some empty spans and by the item, at the location that is handed out
pub record Step (P : ℕ) (g : Guide) (past : List (List Item)) (e : Item) (p : Placed) : Type 0 where
  pub past' : List (List Item)
  pub core : Core P p.guide past'
  pub later : Later P 1 p.guide
  pub fresh_spans : ℕ
  pub hist : past' ++ p.guide.spans ≡ grow ((past ++ g.spans) ++ replicate fresh_spans []) p.loc.span e
  pub fits : p.loc.span < length ((past ++ g.spans) ++ replicate fresh_spans [])
  pub pos_is : p.loc.pos ≡ len (past ++ g.spans) p.loc.span
  pub not_first : g.first < p.loc.span
  pub advances : p.guide.first ≤ g.first + 2
  pub more : List Entry
  pub order_grows : p.guide.order ≡ g.order ++ more

beyond : (P n : ℕ) (g : Guide) → length g.spans ≡ 32 → 1 ≤ n → len (release P n g).spans 31 ≡ 0
unfolding release
beyond P n g h k = rw (len_extend (drop n g.spans) n 31, get_or-drop, get_or-eq_default g.spans [] {n = n + 31} (omega arith))

module _ (P : ℕ) (g : Guide) (past : List (List Item)) (e : Item) (hP : 1 ≤ P) (c : Core P g past) (l : Later P 1 g) where
  step_existing : (i : ℕ) → suc i < 32 → (len g.spans (suc i) < P) ⊎ (i ≡ 0) → Step P g past e (apply P e g (existing (suc i)))
  unfolding apply settle
  step_existing i hi w = go (leb P (suc (len g.spans (suc i)))) refl
    where
      grown : past ++ (put (suc i) e g).spans ≡ grow (past ++ g.spans) (g.first + suc i) e
      grown = rw (put_spans, ← c.past_is) (sym (grow_skip past g.spans (suc i) e))

      lc : Core P (put (suc i) e g) past
      lc = put_core P i e g past hi (l (suc i) (omega arith)) c

      inside : g.first + suc i < length (past ++ g.spans)
      inside = simp length-append (omega (arith, c.past_is, c.window_is))

      pos : len g.spans (suc i) ≡ len (past ++ g.spans) (g.first + suc i)
      pos = rw (← c.past_is) (sym (len_append past g.spans (suc i)))

      two : Later P 2 (put (suc i) e g)
      two = put_later P 2 (suc i) e g (omega (arith, c.window_is)) (λ j h. l j (omega arith)) (λ h. short w h)
        where
          short : (len g.spans (suc i) < P) ⊎ (i ≡ 0) → 2 ≤ suc i → len g.spans (suc i) < P
          short (inl x) h = x
          short (inr x) h = absurd (omega arith)

      go : (t : Bool) → leb P (suc (len g.spans (suc i))) ≡ t → Step P g past e (apply P e g (existing (suc i)))
      go true t =
          rw (t, settle) (record {
            past' = past ++ take 1 (put (suc i) e g).spans;
            core = release_core P 1 (put (suc i) e g) past (omega arith) (omega arith) lc;
            later = release_later P 1 1 (put (suc i) e g) (omega arith) lc.window_is two;
            fresh_spans = 1;
            hist = rw (release_spans, regroup past (put (suc i) e g).spans 1, grown) (sym (grow_left (past ++ g.spans) (replicate 1 []) (g.first + suc i) e inside));
            fits = simp length-append (omega (arith, c.past_is, c.window_is));
            pos_is = pos;
            not_first = omega arith;
            advances = rw (release_first, put_first) (omega arith);
            more = released P 1 (put (suc i) e g).spans;
            order_grows = rw (release_order, put_order);
          })
      go false t =
          rw (t, settle) (record {
            past' = past;
            core = lc;
            later = put_later P 1 (suc i) e g (omega (arith, c.window_is)) l (λ h. omega (arith, leb-false P (suc (len g.spans (suc i))) t));
            fresh_spans = 0;
            hist = rw append-nil grown;
            fits = rw append-nil inside;
            pos_is = pos;
            not_first = omega arith;
            advances = rw put_first (omega arith);
            more = [];
            order_grows = rw (put_order, append-nil);
          })

  step_opened : (n : ℕ) → 1 ≤ n → n ≤ 2 → Step P g past e (apply P e g (opened n))
  unfolding apply
  step_opened n h k =
      record {
        past' = past ++ take n g.spans;
        core = put_core P 30 e (release P n g) (past ++ take n g.spans) (omega arith) (omega (arith, beyond P n g c.window_is h)) rc;
        later = put_later P 1 31 e (release P n g) (omega (arith, rc.window_is)) (release_later P 1 n g (omega arith) c.window_is (λ j x. l j (omega arith)))
            (λ x. omega (arith, beyond P n g c.window_is h));
        fresh_spans = n;
        hist = rw (put_spans, release_spans, ← grow_skip (past ++ take n g.spans) (drop n g.spans ++ replicate n []) 31 e, regroup past g.spans n, index);
        fits = simp (length-append, length-replicate) (omega (arith, c.past_is, c.window_is));
        pos_is = sym (ap length (get_or-eq_default (past ++ g.spans) [] {n = g.first + 31 + n} (simp length-append (omega (arith, c.past_is, c.window_is)))));
        not_first = omega arith;
        advances = rw (put_first, release_first) (omega arith);
        more = released P n g.spans;
        order_grows = rw (put_order, release_order);
      }
    where
      rc : Core P (release P n g) (past ++ take n g.spans)
      rc = release_core P n g past h (omega arith) c

      index : length (past ++ take n g.spans) + 31 ≡ g.first + 31 + n
      index = simp (length-append, length-take) (omega (arith, c.past_is, c.window_is))

  step_chosen : {x : Choice} → Chosen P g.spans x → Step P g past e (apply P e g x)
  step_chosen at_one = step_existing 0 (omega arith) (inr refl)
  step_chosen (at_short i h k) = step_existing i (omega (arith, c.window_is)) (inl k)
  step_chosen (anew n h k) = step_opened n h k

  -- a placing does just that
  pub place_step : (after : Option Loc) → Step P g past e (place P after e g)
  unfolding place
  place_step after = step_chosen (chosen P g after)

lands_behind : (P : ℕ) (g : Guide) (e : Item) (s q : ℕ) (x : Choice) → Lands g s q x → Behind s q (apply P e g x).loc.span (apply P e g x).loc.pos
unfolding apply
lands_behind P g e s q (existing i) b = b
lands_behind P g e s q (opened n) b = b

-- a value placed after a location lies behind it
pub place_behind : (P : ℕ) (g : Guide) (l : Loc) (e : Item) → l.span ≤ g.first + 31 → Behind l.span l.pos (place P (some l) e g).loc.span (place P (some l) e g).loc.pos
unfolding place
place_behind P g l e h = lands_behind P g e l.span l.pos (choose P g (some l)) (lands P g l h)
