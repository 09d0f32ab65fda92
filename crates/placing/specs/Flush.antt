-- Two spans are released one after the other, and a flush is 32 releases of one span: for the last of them the next span is the new, empty
-- one, and there the rule for span 31 is the general rule. And what stays the same over them: the entries written and held. Assumes nothing.
use Rattle.std.specs.Prelude.{◌≡◌, refl, List, [], ◌∷◌, ◌++◌, ◌⊎◌, ℕ, zero, suc, ◌+◌, ◌≤◌, ◌<◌, length, drop, replicate}
use Rattle.std.proofs.Common.{sym, ap, ◌∙◌, append_assoc, append-nil, inl, inr, arith, add-zero, add-suc, suc-add, zero-add}
use Rattle.rules.specs.Guide.{Item, Guide, parallelism, last_parallelism, annotate, released, release, held}
use Rattle.laws.specs.Width.{width_flat, last_width_flat}
use Rattle.laws.specs.History.{len, lt_or_le}

-- entries whose parallelism is worked out by rules that agree on their positions
annotate_same : (f g : ℕ → ℕ) (q : ℕ) (l : List Item) → ((i : ℕ) → i < length l → f (q + i) ≡ g (q + i)) → annotate f q l ≡ annotate g q l
unfolding annotate
annotate_same f g q [] h = refl
annotate_same f g q (e ∷ l) h =
    let here : f q ≡ g q = rw add-zero at (h 0 (omega arith)) in
    let there = annotate_same f g (suc q) l (λ i k. rw (suc-add, ← add-suc) (h (suc i) (omega arith))) in
    rw (here, there)

-- span 31's rule is the general one with an empty span after it
last_annotate : (P : ℕ) (l : List Item) → 1 ≤ P → length l ≤ P → annotate (last_parallelism (length l)) 0 l ≡ annotate (parallelism P (length l) 0) 0 l
last_annotate P l hP h =
    annotate_same (last_parallelism (length l)) (parallelism P (length l) 0) 0 l
    (λ i k. rw zero-add (last_width_flat P (length l) i k h ∙ sym (width_flat P (length l) 0 i hP k (omega arith))))

released_more : (P n : ℕ) (ss zs : List (List Item)) → suc n < length ss → released P n ss ++ released P 1 (drop n ss ++ zs) ≡ released P (suc n) ss
unfolding released
released_more P n [] zs h = absurd (omega arith)
released_more P n (s ∷ []) zs h = absurd (omega arith)
released_more P zero (s ∷ (t ∷ ss)) zs h = refl
released_more P (suc n) (s ∷ (t ∷ ss)) zs h =
    append_assoc (annotate (parallelism P (length s) (length t)) 0 s) (released P n (t ∷ ss)) (released P 1 (drop n (t ∷ ss) ++ zs))
    ∙ ap (λ x. annotate (parallelism P (length s) (length t)) 0 s ++ x) (released_more P n (t ∷ ss) zs (omega arith))

released_last_span : (P n : ℕ) (ss zs : List (List Item)) → 1 ≤ P → suc n ≡ length ss → len ss n ≤ P → released P n ss ++ released P 1 (drop n ss ++ ([] ∷ zs)) ≡ released P (suc n) ss
unfolding released
released_last_span P n [] zs hp h k = absurd (omega arith)
released_last_span P zero (s ∷ []) zs hp h k = append-nil (annotate (parallelism P (length s) 0) 0 s) ∙ sym (last_annotate P s hp k)
released_last_span P (suc n) (s ∷ []) zs hp h k = absurd (omega arith)
released_last_span P zero (s ∷ (t ∷ ss)) zs hp h k = absurd (omega arith)
released_last_span P (suc n) (s ∷ (t ∷ ss)) zs hp h k =
    append_assoc (annotate (parallelism P (length s) (length t)) 0 s) (released P n (t ∷ ss)) (released P 1 (drop n (t ∷ ss) ++ ([] ∷ zs)))
    ∙ ap (λ x. annotate (parallelism P (length s) (length t)) 0 s ++ x) (released_last_span P n (t ∷ ss) zs hp (omega arith) k)

snoc_empty : (n : ℕ) → replicate {A = List Item} n [] ++ ([] ∷ []) ≡ replicate (suc n) []
snoc_empty zero = refl
snoc_empty (suc n) = ap (λ x. [] ∷ x) (snoc_empty n)

spans_more : (n m : ℕ) (ss : List (List Item)) → n < length ss → drop 1 (drop n ss ++ replicate m []) ++ ([] ∷ []) ≡ drop (suc n) ss ++ replicate (suc m) []
spans_more n m [] h = absurd (omega arith)
spans_more zero m (s ∷ ss) h = append_assoc ss (replicate m []) ([] ∷ []) ∙ ap (λ x. ss ++ x) (snoc_empty m)
spans_more (suc n) m (s ∷ ss) h = spans_more n m ss (omega arith)

-- no release, one release more, and the last of a flush
pub release_none : (P : ℕ) (g : Guide) → release P 0 g ≡ g
unfolding release released
release_none P g = rw (add-zero g.first, append-nil g.spans, append-nil g.order)

pub release_more : (P n : ℕ) (g : Guide) → suc n < length g.spans → release P 1 (release P n g) ≡ release P (suc n) g
unfolding release
release_more P n g h =
    let f : g.first + n + 1 ≡ g.first + suc n = omega arith in
    let s = spans_more n n g.spans (omega arith) in
    let o = append_assoc g.order (released P n g.spans) (released P 1 (drop n g.spans ++ replicate n [])) ∙ ap (λ x. g.order ++ x) (released_more P n g.spans (replicate n []) h) in
    cc

pub release_last : (P : ℕ) (g : Guide) → 1 ≤ P → length g.spans ≡ 32 → len g.spans 31 ≤ P → release P 1 (release P 31 g) ≡ release P 32 g
unfolding release
release_last P g hp h k =
    let f : g.first + 31 + 1 ≡ g.first + 32 = omega arith in
    let s = spans_more 31 31 g.spans (omega arith) in
    let o = append_assoc g.order (released P 31 g.spans) (released P 1 (drop 31 g.spans ++ replicate 31 []))
    ∙ ap (λ x. g.order ++ x) (released_last_span P 31 g.spans (replicate 30 []) hp (sym h) k) in
    cc

-- the next release on the way to a flush
pub release_next : (P n : ℕ) (g : Guide) → 1 ≤ P → length g.spans ≡ 32 → len g.spans 31 ≤ P → n < 32 → release P 1 (release P n g) ≡ release P (suc n) g
release_next P n g hp h k l = go (lt_or_le n 31)
  where
    go : (n < 31) ⊎ (31 ≤ n) → release P 1 (release P n g) ≡ release P (suc n) g
    go (inl x) = release_more P n g (omega arith)
    go (inr x) = let e : n ≡ 31 = omega arith in rw e (release_last P g hp h k)

-- span 0 is held no more after its release
held_snoc : (ss : List (List Item)) → held (ss ++ ([] ∷ [])) ≡ held ss
unfolding held
held_snoc [] = refl
held_snoc (s ∷ ss) = ap (λ x. length s + x) (held_snoc ss)

pub held_release : (P : ℕ) (g : Guide) → length g.spans ≡ 32 → len g.spans 0 + held (release P 1 g).spans ≡ held g.spans
unfolding release held
held_release P g h = go g.spans (omega arith)
  where
    go : (ss : List (List Item)) → 1 ≤ length ss → len ss 0 + held (drop 1 ss ++ ([] ∷ [])) ≡ held ss
    go [] h = absurd (omega arith)
    go (s ∷ ss) h = omega (arith, held_snoc ss)

-- what spans 0 and 1 hold is held
pub held_two : (ss : List (List Item)) → length ss ≡ 32 → len ss 0 + len ss 1 ≤ held ss
unfolding held
held_two [] h = absurd (omega arith)
held_two (s ∷ []) h = absurd (omega arith)
held_two (s ∷ (t ∷ ss)) h = omega arith
