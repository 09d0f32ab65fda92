-- All spans from number 0 on, the released ones first, and the order as the entries of the released ones: where a span starts in the
-- order, which span an index lies in, and what stands there.
use Rattle.std.specs.Prelude.{◌≡◌, refl, List, [], ◌∷◌, ◌++◌, ◌⊎◌, ℕ, zero, suc, ◌+◌, ◌-◌, ◌≤◌, ◌<◌, length, get_or, ltb, Bool, true, false}
use Rattle.std.proofs.Common.{ap, ◌∙◌, inl, inr, arith, length-append, get_or-append-add, ltb-true, ltb-false, add-zero, add-suc, suc-add, zero-add, add_assoc}
use Rattle.std.proofs.Math.ListN.{get_or-append}
use Rattle.rules.specs.Guide.{Item, Entry, parallelism, annotate, released}

-- the length of span s, and where it starts in the order
abbrev pub len : List (List Item) → ℕ → ℕ
len H s = length (get_or H s [])

-- where span s starts in the order: the sum of the lengths before it
unfoldable pub start : List (List Item) → ℕ → ℕ
start [] s = 0
start (l ∷ H) zero = 0
start (l ∷ H) (suc s) = length l + start H s

pub start_zero : (H : List (List Item)) → start H 0 ≡ 0
unfolding start
start_zero [] = refl
start_zero (l ∷ H) = refl

pub start_suc : (H : List (List Item)) (s : ℕ) → start H (suc s) ≡ start H s + len H s
unfolding start
start_suc [] s = refl
start_suc (l ∷ H) zero = omega (arith, start_zero H)
start_suc (l ∷ H) (suc s) = omega (arith, start_suc H s)

pub start_mono : (H : List (List Item)) (s t : ℕ) → s ≤ t → start H s ≤ start H t
unfolding start
start_mono [] s t h = omega arith
start_mono (l ∷ H) zero t h = omega arith
start_mono (l ∷ H) (suc s) zero h = omega arith
start_mono (l ∷ H) (suc s) (suc t) h = omega (arith, start_mono H s t (omega arith))

pub lt_or_le : (a b : ℕ) → (a < b) ⊎ (b ≤ a)
lt_or_le a b = go (ltb a b) refl
  where
    go : (t : Bool) → ltb a b ≡ t → (a < b) ⊎ (b ≤ a)
    go true e = inl (ltb-true a b e)
    go false e = inr (ltb-false a b e)

-- an index of the order is a position in a released span
pub locate : (H : List (List Item)) (k j : ℕ) → j < start H k → (s : ℕ) × (q : ℕ) × (s < k) × (q < len H s) × (j ≡ start H s + q)
unfolding start
locate [] k j h = absurd (omega arith)
locate (l ∷ H) zero j h = absurd (omega arith)
locate (l ∷ H) (suc k) j h = go (λ i. locate H k (j - length l) i) (lt_or_le j (length l))
  where
    go : (j - length l < start H k → (s : ℕ) × (q : ℕ) × (s < k) × (q < len H s) × (j - length l ≡ start H s + q)) → (j < length l) ⊎ (length l ≤ j)
        → (s : ℕ) × (q : ℕ) × (s < suc k) × (q < len (l ∷ H) s) × (j ≡ start (l ∷ H) s + q)
    go rec (inl i) = (0, j, omega arith, i, omega arith)
    go rec (inr i) =
        let r = rec (omega arith) in
        (suc r.0, r.1, omega arith, r.3, omega arith)

pub annotate_length : (f : ℕ → ℕ) (q : ℕ) (l : List Item) → length (annotate f q l) ≡ length l
unfolding annotate
annotate_length f q [] = refl
annotate_length f q (e ∷ l) = ap suc (annotate_length f (suc q) l)

annotate_at : (f : ℕ → ℕ) (q i : ℕ) (l : List Item) (w : Entry) (e : Item) → i < length l → get_or (annotate f q l) i w ≡ record { item = get_or l i e; parallelism = f (q + i) }
unfolding annotate
annotate_at f q i [] w e h = absurd (omega arith)
annotate_at f q zero (x ∷ l) w e h = rw add-zero
annotate_at f q (suc i) (x ∷ l) w e h = rw (add-suc, ← suc-add) (annotate_at f (suc q) i l w e (omega arith))

-- the released spans are as long as where the next starts
pub released_length : (P k : ℕ) (H : List (List Item)) → k < length H → length (released P k H) ≡ start H k
unfolding released start
released_length P zero [] h = refl
released_length P zero (l ∷ H) h = refl
released_length P (suc k) [] h = absurd (omega arith)
released_length P (suc k) (l ∷ []) h = absurd (omega arith)
released_length P (suc k) (l ∷ (m ∷ H)) h = simp (length-append, annotate_length) (omega (arith, released_length P k (m ∷ H) (omega arith)))

getD_skip : (xs ys : List Entry) (n i : ℕ) (w : Entry) → length xs ≡ n → get_or (xs ++ ys) (n + i) w ≡ get_or ys i w
getD_skip xs ys n i w e = rw (← e) (get_or-append-add xs ys i w)

-- what stands at position q of span s
pub released_at : (P k : ℕ) (H : List (List Item)) (w : Entry) (e : Item) (s q : ℕ) → k < length H → s < k → q < len H s
    → get_or (released P k H) (start H s + q) w ≡ record { item = get_or (get_or H s []) q e; parallelism = parallelism P (len H s) (len H (suc s)) q }
unfolding released start
released_at P zero H w e s q h i j = absurd (omega arith)
released_at P (suc k) [] w e s q h i j = absurd (omega arith)
released_at P (suc k) (l ∷ []) w e s q h i j = absurd (omega arith)
released_at P (suc k) (l ∷ (m ∷ H)) w e zero q h i j =
    let r = annotate (parallelism P (length l) (length m)) 0 l in
    let lt : q < length r = rw (annotate_length (parallelism P (length l) (length m)) 0 l) j in
    rw zero-add (get_or-append r (released P k (m ∷ H)) w q lt ∙ (annotate_at (parallelism P (length l) (length m)) 0 q l w e j ∙ rw zero-add))
released_at P (suc k) (l ∷ (m ∷ H)) w e (suc s) q h i j =
    rw add_assoc (getD_skip (annotate (parallelism P (length l) (length m)) 0 l) (released P k (m ∷ H)) (length l) (start (m ∷ H) s + q) w (annotate_length (parallelism P (length l) (length m)) 0 l)
    ∙ released_at P k (m ∷ H) w e s q (omega arith) (omega arith) j)
