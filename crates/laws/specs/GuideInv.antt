-- The invariant of the guide: the order holds the released spans of a history whose last 32 spans are the window, and spans 1 to 31
-- have at most P entries. Releasing, flushing and putting an entry keep it; the lengths that a release uses are final.
use Rattle.std.specs.Prelude.{◌≡◌, refl, List, [], ◌∷◌, ◌++◌, ◌⊎◌, ◌≢◌, Bool, true, false, ℕ, zero, suc, ◌+◌, ◌≤◌, ◌<◌, length, take, drop, get_or, set, replicate, eqb}
use Rattle.std.proofs.Common.{sym, ap, ◌∙◌, append_assoc, append-nil, inl, inr, arith, add-zero, add-suc, suc-add, zero-add, length-append}
use Rattle.std.proofs.Common.{length-take, length-drop, length-set, take-append-drop, get_or-append-add, get_or-drop, get_or-set_same}
use Rattle.std.proofs.Common.{get_or-set_other, eqb-true}
use Rattle.std.proofs.lemmas.List.{length-replicate, set-append_left}
use Rattle.std.proofs.Math.ListN.{get_or-append}
use Rattle.std.proofs.lemmas.Bool.{eqb-false}
use Rattle.rules.specs.Guide.{Item, parallelism, last_parallelism, annotate, released, Guide, release, flush, put}
use Rattle.laws.specs.Width.{width_flat, last_width_flat}
use Rattle.laws.specs.History.{len}

-- what the released entries depend on

annotate_cong : (f g : ℕ → ℕ) (q : ℕ) (l : List Item) → ((i : ℕ) → i < length l → f (q + i) ≡ g (q + i)) → annotate f q l ≡ annotate g q l
unfolding annotate
annotate_cong f g q [] h = refl
annotate_cong f g q (e ∷ l) h =
    let here : f q ≡ g q = rw add-zero at (h 0 (omega arith)) in
    let there = annotate_cong f g (suc q) l (λ i k. rw (suc-add, ← add-suc) (h (suc i) (omega arith))) in
    rw (here, there)

annotate_last : (P : ℕ) (l : List Item) → 1 ≤ P → length l ≤ P → annotate (last_parallelism (length l)) 0 l ≡ annotate (parallelism P (length l) 0) 0 l
annotate_last P l hP h = annotate_cong (last_parallelism (length l)) (parallelism P (length l) 0) 0 l
    (λ i k. rw zero-add (last_width_flat P (length l) i k h ∙ sym (width_flat P (length l) 0 i hP k (omega arith))))

released_put : (P : ℕ) (past ss : List (List Item)) (i : ℕ) (x : List Item) → released P (length past) (past ++ set ss (suc i) x) ≡ released P (length past) (past ++ ss)
unfolding released
released_put P [] ss i x = refl
released_put P (p ∷ []) [] i x = refl
released_put P (p ∷ []) (s ∷ ss) i x = refl
released_put P (p ∷ (p' ∷ past)) ss i x = rw (released_put P (p' ∷ past) ss i x)

released_add : (P n : ℕ) (past ss : List (List Item)) → 1 ≤ length ss → released P (length past + n) (past ++ ss) ≡ released P (length past) (past ++ ss) ++ released P n ss
unfolding released
released_add P n [] ss hs = rw zero-add
released_add P n (p ∷ []) [] hs = absurd (omega arith)
released_add P n (p ∷ []) (s ∷ ss) hs = let e : 1 + n ≡ suc n = omega arith in rw (e, append-nil)
released_add P n (p ∷ (p' ∷ past)) ss hs = rw (suc-add, append_assoc) (rw (released_add P n (p' ∷ past) ss hs))

released_extend : (P n : ℕ) (ss zs : List (List Item)) → n < length ss → released P n (ss ++ zs) ≡ released P n ss
unfolding released
released_extend P zero ss zs h = refl
released_extend P (suc n) [] zs h = absurd (omega arith)
released_extend P (suc n) (s ∷ []) zs h = absurd (omega arith)
released_extend P (suc n) (s ∷ (t ∷ ss)) zs h = rw (released_extend P n (t ∷ ss) zs (omega arith))

released_flush : (P : ℕ) (ss zs : List (List Item)) → 1 ≤ P → ((i : ℕ) → suc i ≡ length ss → len ss i ≤ P) → released P (length ss) (ss ++ ([] ∷ zs)) ≡ released P (length ss) ss
unfolding released
released_flush P [] zs hP hl = refl
released_flush P (s ∷ []) zs hP hl = append-nil (annotate (parallelism P (length s) 0) 0 s) ∙ sym (annotate_last P s hP (hl 0 refl))
released_flush P (s ∷ (t ∷ ss)) zs hP hl = rw (released_flush P (t ∷ ss) zs hP (λ i h. hl (suc i) (ap suc h)))

-- the invariant: past holds the released spans
pub record Core (P : ℕ) (g : Guide) (past : List (List Item)) : Type 0 where
  pub past_is : length past ≡ g.first
  pub window_is : length g.spans ≡ 32
  pub order_is : g.order ≡ released P (length past) (past ++ g.spans)
  pub capped : (s : ℕ) → len (past ++ g.spans) s ≤ P + 1

-- spans m and later are not overfull
abbrev pub Later : ℕ → ℕ → Guide → Type 0
Later P m g = (i : ℕ) → m ≤ i → len g.spans i ≤ P

-- lists
pub len_append : (H G : List (List Item)) (s : ℕ) → len (H ++ G) (length H + s) ≡ len G s
len_append H G s = ap length (get_or-append-add H G s [])

-- empty spans have no length
pub len_empties : (n s : ℕ) → len (replicate n []) s ≡ 0
len_empties zero s = refl
len_empties (suc n) zero = refl
len_empties (suc n) (suc s) = len_empties n s

pub len_extend : (H : List (List Item)) (n s : ℕ) → len (H ++ replicate n []) s ≡ len H s
len_extend [] n s = len_empties n s
len_extend (l ∷ H) n zero = refl
len_extend (l ∷ H) n (suc s) = len_extend H n s

-- a release moves the boundary between past and window
pub regroup : (past ss : List (List Item)) (n : ℕ) → (past ++ take n ss) ++ (drop n ss ++ replicate n []) ≡ (past ++ ss) ++ replicate n []
regroup past ss n = rw (append_assoc past (take n ss), ← append_assoc (take n ss), take-append-drop, append_assoc)

released_release : (P n : ℕ) (past ss : List (List Item)) → n ≤ length ss → 1 ≤ length ss → released P n (ss ++ replicate n []) ≡ released P n ss
    → released P (length past) (past ++ ss) ++ released P n ss ≡ released P (length (past ++ take n ss)) ((past ++ take n ss) ++ (drop n ss ++ replicate n []))
released_release P n past ss h hs e =
    let k : length (past ++ take n ss) ≡ length past + n = simp (length-append, length-take) (omega arith) in
    let m : 1 ≤ length (ss ++ replicate n []) = simp length-append (omega arith) in
    let l : length past < length (past ++ ss) = simp length-append (omega arith) in
    sym (rw (k, regroup past ss n, append_assoc, released_add P n past (ss ++ replicate n []) m, e, ← append_assoc, released_extend P (length past) (past ++ ss) (replicate n []) l))

-- releasing n spans, and all 32, keeps the invariant
pub release_core : (P n : ℕ) (g : Guide) (past : List (List Item)) → 1 ≤ n → n < 32 → Core P g past → Core P (release P n g) (past ++ take n g.spans)
unfolding release
release_core P n g past hn h c =
    record {
      past_is = simp (length-append, length-take) (omega (arith, c.past_is, c.window_is));
      window_is = simp (length-append, length-drop, length-replicate) (omega (arith, c.window_is));
      order_is = ap (λ o. o ++ released P n g.spans) c.order_is ∙ released_release P n past g.spans (omega (arith, c.window_is)) (omega (arith, c.window_is))
          (released_extend P n g.spans (replicate n []) (omega (arith, c.window_is)));
      capped = λ s. rw (regroup past g.spans n, len_extend) (c.capped s);
    }

pub flush_core : (P : ℕ) (g : Guide) (past : List (List Item)) → 1 ≤ P → Core P g past → len g.spans 31 ≤ P → Core P (flush P g) (past ++ take 32 g.spans)
unfolding flush release
flush_core P g past hP c h =
    record {
      past_is = simp (length-append, length-take) (omega (arith, c.past_is, c.window_is));
      window_is = simp (length-append, length-drop, length-replicate) (omega (arith, c.window_is));
      order_is = ap (λ o. o ++ released P 32 g.spans) c.order_is ∙ released_release P 32 past g.spans (omega (arith, c.window_is)) (omega (arith, c.window_is)) whole;
      capped = λ s. rw (regroup past g.spans 32, len_extend) (c.capped s);
    }
  where
    last : (i : ℕ) → suc i ≡ length g.spans → len g.spans i ≤ P
    last i e = let k : i ≡ 31 = omega (arith, c.window_is) in rw k h

    whole : released P 32 (g.spans ++ replicate 32 []) ≡ released P 32 g.spans
    whole = rw (← c.window_is) (released_flush P g.spans (replicate 31 []) hP last)

-- after a release the spans that were m + n and later are m and later
pub release_later : (P m n : ℕ) (g : Guide) → n ≤ 32 → length g.spans ≡ 32 → Later P (m + n) g → Later P m (release P n g)
unfolding release
release_later P m n g hn hw h i k = rw (len_extend (drop n g.spans) n i, get_or-drop) (h (n + i) (omega arith))

-- a history with one item more, at the end of span s
unfoldable pub grow : List (List Item) → ℕ → Item → List (List Item)
grow H s e = set H s (get_or H s [] ++ (e ∷ []))

-- an entry more, in the second part of a history
pub set_skip : (H G : List (List Item)) (j : ℕ) (x : List Item) → set (H ++ G) (length H + j) x ≡ H ++ set G j x
set_skip [] G j x = rw zero-add
set_skip (l ∷ H) G j x = rw suc-add (ap (λ t. l ∷ t) (set_skip H G j x))

pub grow_skip : (H G : List (List Item)) (j : ℕ) (e : Item) → grow (H ++ G) (length H + j) e ≡ H ++ grow G j e
unfolding grow
grow_skip H G j e = rw (get_or-append-add H G j [], set_skip)

pub len_grow_same : (H : List (List Item)) (s : ℕ) (e : Item) → s < length H → len (grow H s e) s ≡ len H s + 1
unfolding grow
len_grow_same H s e h = rw (get_or-set_same H s _ [], length-append)

pub len_grow_other : (H : List (List Item)) (s t : ℕ) (e : Item) → t ≢ s → len (grow H s e) t ≡ len H t
unfolding grow
len_grow_other H s t e h = rw (get_or-set_other H s t _ [])

pub eq_or_ne : (a b : ℕ) → (a ≡ b) ⊎ (a ≢ b)
eq_or_ne a b = go (eqb a b) refl
  where
    go : (t : Bool) → eqb a b ≡ t → (a ≡ b) ⊎ (a ≢ b)
    go true e = inl (eqb-true a b e)
    go false e = inr (eqb-false a b e)

-- an entry put in a span that is not span 0 keeps the invariant
pub put_core : (P i : ℕ) (e : Item) (g : Guide) (past : List (List Item)) → suc i < 32 → len g.spans (suc i) ≤ P → Core P g past → Core P (put (suc i) e g) past
unfolding put grow
put_core P i e g past hi h c =
    record {
      past_is = c.past_is;
      window_is = rw length-set c.window_is;
      order_is = c.order_is ∙ sym (released_put P past g.spans i _);
      capped = λ s. rw (← grow_skip past g.spans (suc i) e) (go s (eq_or_ne s (length past + suc i)));
    }
  where
    go : (s : ℕ) → (s ≡ length past + suc i) ⊎ (s ≢ length past + suc i) → len (grow (past ++ g.spans) (length past + suc i) e) s ≤ P + 1
    go s (inl k) = rw (k, len_grow_same (past ++ g.spans) (length past + suc i) e (simp length-append (omega (arith, c.window_is))), len_append past g.spans (suc i)) (omega arith)
    go s (inr k) = rw (len_grow_other (past ++ g.spans) (length past + suc i) s e k) (c.capped s)

pub grow_left : (H Z : List (List Item)) (s : ℕ) (e : Item) → s < length H → grow (H ++ Z) s e ≡ grow H s e ++ Z
unfolding grow
grow_left H Z s e h = rw (get_or-append H Z [] s, set-append_left)

-- it leaves the later spans within P where its own was shorter than P
pub put_later : (P m i : ℕ) (e : Item) (g : Guide) → i < length g.spans → Later P m g → (m ≤ i → len g.spans i < P) → Later P m (put i e g)
unfolding put grow
put_later P m i e g hi h k j hj = go (eq_or_ne j i)
  where
    go : (j ≡ i) ⊎ (j ≢ i) → len (grow g.spans i e) j ≤ P
    go (inl x) = rw (x, len_grow_same g.spans i e hi) (omega (arith, k (omega arith)))
    go (inr x) = rw (len_grow_other g.spans i j e x) (h j hj)

-- what a put and a release are, by parts
pub put_spans : (i : ℕ) (e : Item) (g : Guide) → (put i e g).spans ≡ grow g.spans i e
unfolding put grow
put_spans i e g = refl

pub put_order : (i : ℕ) (e : Item) (g : Guide) → (put i e g).order ≡ g.order
unfolding put
put_order i e g = refl

pub release_spans : (P n : ℕ) (g : Guide) → (release P n g).spans ≡ drop n g.spans ++ replicate n []
unfolding release
release_spans P n g = refl

pub release_order : (P n : ℕ) (g : Guide) → (release P n g).order ≡ g.order ++ released P n g.spans
unfolding release
release_order P n g = refl

pub put_first : (i : ℕ) (e : Item) (g : Guide) → (put i e g).first ≡ g.first
unfolding put
put_first i e g = refl

pub release_first : (P n : ℕ) (g : Guide) → (release P n g).first ≡ g.first + n
unfolding release
release_first P n g = refl
