-- Laws of the model's lists: membership, the watermark, locations and their order, and a history with one entry more.
use Rattle.std.specs.Prelude.{◌≡◌, refl, ◌⊎◌, ◌≢◌, Bool, true, false, ◌||◌, ℕ, zero, suc, ◌+◌, ◌≤◌, ◌<◌, length, get_or, ltb, eqb}
use Rattle.std.proofs.Common.{sym, ap, inl, inr, arith, get_or-set_same, get_or-set_other, ltb-true, ltb-false, eqb-true, eq-eqb}
use mathlib.Core.List.Memᴰ
use mathlib.Core.List.{List, [], ◌∷◌, ◌++◌, Memᴰ}
use Rattle.std.proofs.lemmas.Bool.{false≢true}
use Rattle.std.proofs.Math.Bool.{or-true}
use Rattle.std.proofs.Math.Option.{some}
use Rattle.std.proofs.Math.ListN.{replicate, length-append, get_or-append}
use Rattle.std.proofs.Math.Seq.{get_or-append_seam}
use Rattle.rules.specs.Guide.{Loc, Item}
use Rattle.rules.specs.Model.{Located, Model, member, marked, tracked, run_from, watermark, greatest, loc_of, later, top, after, spotted}
use Rattle.laws.specs.History.{len}
use Rattle.laws.specs.Together.{Behind}
use Rattle.laws.specs.GuideInv.{grow, eq_or_ne}

-- x is in l
abbrev pub In : ℕ → List ℕ → Type 0
In x l = Memᴰ x l

pub or_cases : (a b : Bool) → (a || b) ≡ true → (a ≡ true) ⊎ (b ≡ true)
or_cases true b h = inl refl
or_cases false b h = inr h

pub bool_cases : (a : Bool) → (a ≡ true) ⊎ (a ≡ false)
bool_cases true = inl refl
bool_cases false = inr refl

-- the test and membership
pub member_in : (x : ℕ) (l : List ℕ) → member x l ≡ true → In x l
unfolding member
member_in x [] h = absurd (false≢true h)
member_in x (y ∷ l) h = go (or_cases (eqb x y) (member x l) h) (λ k. member_in x l k)
  where
    go : (eqb x y ≡ true) ⊎ (member x l ≡ true) → (member x l ≡ true → In x l) → In x (y ∷ l)
    go (inl e) r = Memᴰ.head (eqb-true x y e)
    go (inr e) r = Memᴰ.tail (r e)

pub in_member : (x : ℕ) (l : List ℕ) → In x l → member x l ≡ true
unfolding member
in_member x [] h = absurd (Memᴰ.not-nil h)
in_member x (y ∷ l) (Memᴰ.head e) = rw (eq-eqb x y e)
in_member x (y ∷ l) (Memᴰ.tail h) = rw (in_member x l h, or-true)

pub run_true : (t : ℕ → Bool) (f n i : ℕ) → n ≤ i → i < run_from t f n → t i ≡ true
unfolding run_from
run_true t zero n i h k = absurd (omega arith)
run_true t (suc f) n i h k = go (bool_cases (t n)) (λ a b. run_true t f (suc n) i a b) (eq_or_ne i n)
  where
    go : (t n ≡ true) ⊎ (t n ≡ false) → (suc n ≤ i → i < run_from t f (suc n) → t i ≡ true) → (i ≡ n) ⊎ (i ≢ n) → t i ≡ true
    go (inl e) r (inl d) = rw d e
    go (inl e) r (inr d) = r (omega arith) (rw (e, run_from) at k)
    go (inr e) r d = let z = rw (e, run_from) at k in absurd (omega arith)

-- the run of tracked places goes no further than it looks
run_le : (t : ℕ → Bool) (f n : ℕ) → run_from t f n ≤ n + f
unfolding run_from
run_le t zero n = omega arith
run_le t (suc f) n = go (bool_cases (t n)) (run_le t f (suc n))
  where
    go : (t n ≡ true) ⊎ (t n ≡ false) → run_from t f (suc n) ≤ suc n + f → run_from t (suc f) n ≤ n + suc f
    go (inl e) h = rw (e, run_from) (omega arith)
    go (inr e) h = rw (e, run_from) (omega arith)

-- the watermark is at most V
pub watermark_le : (N : ℕ) (k : Model) → watermark N k ≤ N
unfolding watermark
watermark_le N k = omega (arith, run_le (tracked k) N 0)

run_stops : (t : ℕ → Bool) (f n : ℕ) → run_from t f n < n + f → t (run_from t f n) ≡ false
unfolding run_from
run_stops t zero n h = absurd (omega arith)
run_stops t (suc f) n h = go (bool_cases (t n)) (λ k. run_stops t f (suc n) k)
  where
    go : (t n ≡ true) ⊎ (t n ≡ false) → (run_from t f (suc n) < suc n + f → t (run_from t f (suc n)) ≡ false) → t (run_from t (suc f) n) ≡ false
    go (inl e) r = rw (e, run_from) (r (omega (arith, rw (e, run_from) at h)))
    go (inr e) r = rw (e, run_from) e

-- the high mark is the greatest k with places 0 to k all tracked: those below the watermark are, and the one at it is not
pub watermark_stops : (N : ℕ) (k : Model) → watermark N k < N → tracked k (watermark N k) ≡ false
unfolding watermark
watermark_stops N k h = run_stops (tracked k) N 0 (omega arith)

pub watermark_tracked : (N i : ℕ) (k : Model) → i < watermark N k → tracked k i ≡ true
unfolding watermark
watermark_tracked N i k h = run_true (tracked k) N 0 i (omega arith) h

-- a tracked place is set or has a location
pub tracked_cases : (k : Model) (i : ℕ) → tracked k i ≡ true → In i k.sets ⊎ (marked i k.located ≡ true)
unfolding tracked
tracked_cases k i h = go (or_cases (member i k.sets) (marked i k.located) h)
  where
    go : (member i k.sets ≡ true) ⊎ (marked i k.located ≡ true) → In i k.sets ⊎ (marked i k.located ≡ true)
    go (inl e) = inl (member_in i k.sets e)
    go (inr e) = inr e

-- no element is greater than the greatest
pub greatest_ge : (x : ℕ) (l : List ℕ) → In x l → x ≤ greatest l
unfolding greatest
greatest_ge x [] h = absurd (Memᴰ.not-nil h)
greatest_ge x (y ∷ l) (Memᴰ.head e) = omega arith
greatest_ge x (y ∷ l) (Memᴰ.tail h) = omega (arith, greatest_ge x l h)

-- locations in order
abbrev pub Le : Loc → Loc → Type 0
Le l m = (l.span < m.span) ⊎ ((l.span ≡ m.span) × (l.pos ≤ m.pos))

pub le_trans_loc : {l m n : Loc} → Le l m → Le m n → Le l n
le_trans_loc (inl a) (inl b) = inl (omega arith)
le_trans_loc (inl a) (inr b) = inl (omega arith)
le_trans_loc (inr a) (inl b) = inl (omega arith)
le_trans_loc (inr a) (inr b) = inr (omega arith)

-- the later of two locations is at least each
pub later_is : (l m : Loc) → Le l (later l m) × Le m (later l m)
unfolding later
later_is l m = go (bool_cases (ltb l.span m.span)) (bool_cases (ltb m.span l.span)) (bool_cases (ltb l.pos m.pos))
  where
    go : (ltb l.span m.span ≡ true) ⊎ (ltb l.span m.span ≡ false) → (ltb m.span l.span ≡ true) ⊎ (ltb m.span l.span ≡ false)
        → (ltb l.pos m.pos ≡ true) ⊎ (ltb l.pos m.pos ≡ false) → Le l (later l m) × Le m (later l m)
    go (inl a) b c = rw (a, later) (inl (ltb-true l.span m.span a), inr (omega arith))
    go (inr a) (inl b) c = rw (a, b, later) (inr (omega arith), inl (ltb-true m.span l.span b))
    go (inr a) (inr b) (inl c) =
        let x = ltb-false l.span m.span a in
        let y = ltb-false m.span l.span b in
        let z = ltb-true l.pos m.pos c in
        rw (a, b, c, later) (inr (omega arith), inr (omega arith))
    go (inr a) (inr b) (inr c) =
        let x = ltb-false l.span m.span a in
        let y = ltb-false m.span l.span b in
        let z = ltb-false l.pos m.pos c in
        rw (a, b, c, later) (inr (omega arith), inr (omega arith))

-- the greatest location among inputs
pub top_ge : (ss : List Located) (x : ℕ) (l : List ℕ) → In x l → Le (loc_of ss x) (top ss l)
unfolding top
top_ge ss x [] h = absurd (Memᴰ.not-nil h)
top_ge ss x (y ∷ l) (Memᴰ.head e) = rw e (later_is (loc_of ss y) (top ss l)).0
top_ge ss x (y ∷ l) (Memᴰ.tail h) = le_trans_loc (top_ge ss x l h) (later_is (loc_of ss y) (top ss l)).1

later_cases : (l m : Loc) → (later l m ≡ l) ⊎ (later l m ≡ m)
unfolding later
later_cases l m = go (bool_cases (ltb l.span m.span)) (bool_cases (ltb m.span l.span)) (bool_cases (ltb l.pos m.pos))
  where
    go : (ltb l.span m.span ≡ true) ⊎ (ltb l.span m.span ≡ false) → (ltb m.span l.span ≡ true) ⊎ (ltb m.span l.span ≡ false)
        → (ltb l.pos m.pos ≡ true) ⊎ (ltb l.pos m.pos ≡ false) → (later l m ≡ l) ⊎ (later l m ≡ m)
    go (inl a) b c = inr (rw (a, later))
    go (inr a) (inl b) c = inl (rw (a, b, later))
    go (inr a) (inr b) (inl c) = inr (rw (a, b, c, later))
    go (inr a) (inr b) (inr c) = inl (rw (a, b, c, later))

later_span : (l m : Loc) (b : ℕ) → l.span ≤ b → m.span ≤ b → (later l m).span ≤ b
later_span l m b h k = go (later_cases l m)
  where
    go : (later l m ≡ l) ⊎ (later l m ≡ m) → (later l m).span ≤ b
    go (inl e) = rw e h
    go (inr e) = rw e k

pub top_le : (ss : List Located) (b : ℕ) (l : List ℕ) → ((x : ℕ) → In x l → (loc_of ss x).span ≤ b) → (top ss l).span ≤ b
unfolding top
top_le ss b [] h = omega arith
top_le ss b (y ∷ l) h = later_span (loc_of ss y) (top ss l) b (h y (Memᴰ.head refl)) (top_le ss b l (λ x i. h x (Memᴰ.tail i)))

pub behind_le : (l m : Loc) (s q : ℕ) → Le l m → Behind m.span m.pos s q → Behind l.span l.pos s q
behind_le l m s q (inl a) (inl b) = inl (omega arith)
behind_le l m s q (inl a) (inr b) = inl (omega arith)
behind_le l m s q (inr a) (inl b) = inl (omega arith)
behind_le l m s q (inr a) (inr b) = inr (omega arith)

-- the locations of outputs
pub loc_of_left : (ss ts : List Located) (x : ℕ) → marked x ss ≡ true → loc_of (ss ++ ts) x ≡ loc_of ss x
unfolding loc_of marked
loc_of_left [] ts x h = absurd (false≢true h)
loc_of_left (y ∷ ss) ts x h = go (bool_cases (eqb x y.at)) (λ k. loc_of_left ss ts x k)
  where
    go : (eqb x y.at ≡ true) ⊎ (eqb x y.at ≡ false) → (marked x ss ≡ true → loc_of (ss ++ ts) x ≡ loc_of ss x) → loc_of (y ∷ (ss ++ ts)) x ≡ loc_of (y ∷ ss) x
    go (inl e) r = rw (e, loc_of)
    go (inr e) r = rw (e, loc_of) (r (rw e at h))

pub loc_of_right : (ss ts : List Located) (x : ℕ) → marked x ss ≡ false → loc_of (ss ++ ts) x ≡ loc_of ts x
unfolding loc_of marked
loc_of_right [] ts x h = refl
loc_of_right (y ∷ ss) ts x h = go (bool_cases (eqb x y.at)) (λ k. loc_of_right ss ts x k)
  where
    go : (eqb x y.at ≡ true) ⊎ (eqb x y.at ≡ false) → (marked x ss ≡ false → loc_of (ss ++ ts) x ≡ loc_of ts x) → loc_of (y ∷ (ss ++ ts)) x ≡ loc_of ts x
    go (inl e) r = absurd (false≢true (sym (rw e at h)))
    go (inr e) r = rw (e, loc_of) (r (rw e at h))

pub marked_append : (ss ts : List Located) (x : ℕ) → marked x (ss ++ ts) ≡ (marked x ss || marked x ts)
unfolding marked
marked_append [] ts x = refl
marked_append (y ∷ ss) ts x = go (eqb x y.at) (marked_append ss ts x)
  where
    go : (b : Bool) → marked x (ss ++ ts) ≡ (marked x ss || marked x ts) → (b || marked x (ss ++ ts)) ≡ ((b || marked x ss) || marked x ts)
    go true r = refl
    go false r = r

-- what is located by a placing is an output, at the new location
pub spotted_in : (l : Loc) (xs : List ℕ) (x : ℕ) → marked x (spotted l xs) ≡ true → In x xs × (loc_of (spotted l xs) x ≡ l)
unfolding spotted marked loc_of
spotted_in l [] x h = absurd (false≢true h)
spotted_in l (y ∷ xs) x h = go (bool_cases (eqb x y)) (λ k. spotted_in l xs x k)
  where
    go : (eqb x y ≡ true) ⊎ (eqb x y ≡ false) → (marked x (spotted l xs) ≡ true → In x xs × (loc_of (spotted l xs) x ≡ l)) → In x (y ∷ xs) × (loc_of (spotted l (y ∷ xs)) x ≡ l)
    go (inl e) r = (Memᴰ.head (eqb-true x y e), rw (e, loc_of))
    go (inr e) r = let z = r (rw e at h) in (Memᴰ.tail z.0, rw (e, loc_of) z.1)

pub spotted_marked : (l : Loc) (xs : List ℕ) (x : ℕ) → marked x (spotted l xs) ≡ member x xs
unfolding marked spotted member
spotted_marked l [] x = refl
spotted_marked l (y ∷ xs) x = ap (λ (b : Bool). eqb x y || b) (spotted_marked l xs x)

-- the history
abbrev pub no_entry : Item
no_entry = record { value = 0; added = 0; accepted = 0; lane = 0 }

-- the entry at position q of span s
unfoldable pub entry_at : List (List Item) → ℕ → ℕ → Item
entry_at H s q = get_or (get_or H s []) q no_entry

get_empties : (n s : ℕ) → get_or {A = List Item} (replicate n []) s [] ≡ []
get_empties zero s = refl
get_empties (suc n) zero = refl
get_empties (suc n) (suc s) = get_empties n s

-- empty spans more change nothing
pub get_extend : (H : List (List Item)) (n s : ℕ) → get_or (H ++ replicate n []) s [] ≡ get_or H s []
get_extend [] n s = get_empties n s
get_extend (l ∷ H) n zero = refl
get_extend (l ∷ H) n (suc s) = get_extend H n s

module _ (H : List (List Item)) (n s₀ : ℕ) (e : Item) (fits : s₀ < length (H ++ replicate n [])) where
  grown_same : get_or (grow (H ++ replicate n []) s₀ e) s₀ [] ≡ get_or H s₀ [] ++ (e ∷ [])
  unfolding grow
  grown_same = rw (get_or-set_same (H ++ replicate n []) s₀ _ [] fits, get_extend)

  grown_other : (s : ℕ) → s ≢ s₀ → get_or (grow (H ++ replicate n []) s₀ e) s [] ≡ get_or H s []
  unfolding grow
  grown_other s h = rw (get_or-set_other (H ++ replicate n []) s₀ s _ [], get_extend)

  pub hist_cases : (s q : ℕ) → q < len (grow (H ++ replicate n []) s₀ e) s → (q < len H s) ⊎ ((s ≡ s₀) × (q ≡ len H s₀))
  hist_cases s q h = go (eq_or_ne s s₀)
    where
      go : (s ≡ s₀) ⊎ (s ≢ s₀) → (q < len H s) ⊎ ((s ≡ s₀) × (q ≡ len H s₀))
      go (inr d) = inl (rw (grown_other s d) at h)
      go (inl d) = past (eq_or_ne q (len H s₀))
        where
          k : q < len H s₀ + 1
          k = rw (d, grown_same, length-append) at h

          past : (q ≡ len H s₀) ⊎ (q ≢ len H s₀) → (q < len H s) ⊎ ((s ≡ s₀) × (q ≡ len H s₀))
          past (inl x) = inr (d, x)
          past (inr x) = inl (rw d (omega (arith, k)))

  pub hist_old : (s q : ℕ) → q < len H s → (q < len (grow (H ++ replicate n []) s₀ e) s) × (entry_at (grow (H ++ replicate n []) s₀ e) s q ≡ entry_at H s q)
  unfolding entry_at
  hist_old s q h = go (eq_or_ne s s₀)
    where
      go : (s ≡ s₀) ⊎ (s ≢ s₀) → (q < len (grow (H ++ replicate n []) s₀ e) s) × (entry_at (grow (H ++ replicate n []) s₀ e) s q ≡ entry_at H s q)
      go (inr d) = rw (grown_other s d) (h, refl)
      go (inl d) =
          let k : q < len H s₀ = rw d at h in
          rw (d, grown_same) (simp length-append (omega arith), get_or-append (get_or H s₀ []) (e ∷ []) no_entry q k)

  pub hist_new : (len H s₀ < len (grow (H ++ replicate n []) s₀ e) s₀) × (entry_at (grow (H ++ replicate n []) s₀ e) s₀ (len H s₀) ≡ e)
  unfolding entry_at
  hist_new = rw grown_same (simp length-append (omega arith), get_or-append_seam (get_or H s₀ []) e [] no_entry)

pub loc_of_none : (ss : List Located) (x : ℕ) → marked x ss ≡ false → ((loc_of ss x).span ≡ 0) × ((loc_of ss x).pos ≡ 0)
unfolding loc_of marked
loc_of_none [] x h = (refl, refl)
loc_of_none (y ∷ ss) x h = go (bool_cases (eqb x y.at)) (λ k. loc_of_none ss x k)
  where
    go : (eqb x y.at ≡ true) ⊎ (eqb x y.at ≡ false) → (marked x ss ≡ false → ((loc_of ss x).span ≡ 0) × ((loc_of ss x).pos ≡ 0)) → ((loc_of (y ∷ ss) x).span ≡ 0)
        × ((loc_of (y ∷ ss) x).pos ≡ 0)
    go (inl e) r = absurd (false≢true (sym (rw e at h)))
    go (inr e) r = rw (e, loc_of) (r (rw e at h))

-- a span that holds something is one of the history's
pub in_range : (H : List (List Item)) (s q : ℕ) → q < len H s → s < length H
in_range [] s q h = absurd (omega arith)
in_range (l ∷ H) zero q h = omega arith
in_range (l ∷ H) (suc s) q h = omega (arith, in_range H s q h)

-- with an input, `after` is the greatest location
pub after_some : (ss : List Located) (i : ℕ) (l : List ℕ) → In i l → after ss l ≡ some (top ss l)
unfolding after
after_some ss i [] h = absurd (Memᴰ.not-nil h)
after_some ss i (x ∷ l) h = refl

-- H' is H with one item more, at (s₀, q₀), and perhaps with empty spans more
pub record Grown (H H' : List (List Item)) (s₀ q₀ : ℕ) (e : Item) : Type 0 where
  pub cases : (s q : ℕ) → q < len H' s → (q < len H s) ⊎ ((s ≡ s₀) × (q ≡ q₀))
  pub old : (s q : ℕ) → q < len H s → (q < len H' s) × (entry_at H' s q ≡ entry_at H s q)
  pub new : (q₀ < len H' s₀) × (entry_at H' s₀ q₀ ≡ e)

pub grown : (H : List (List Item)) (n s₀ : ℕ) (e : Item) → s₀ < length (H ++ replicate n []) → Grown H (grow (H ++ replicate n []) s₀ e) s₀ (len H s₀) e
grown H n s₀ e fits = record { cases = hist_cases H n s₀ e fits; old = hist_old H n s₀ e fits; new = hist_new H n s₀ e fits }

pub tracked_of : (k : Model) (i : ℕ) → In i k.sets ⊎ (marked i k.located ≡ true) → tracked k i ≡ true
unfolding tracked
tracked_of k i (inl h) = rw (in_member i k.sets h)
tracked_of k i (inr h) = rw (h, or-true)
