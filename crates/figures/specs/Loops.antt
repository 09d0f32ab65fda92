-- Laws for the loops of this crate: the sum and the median by what remains of the tally, the low counts and the sums of thousands
-- by what the counts so far give at each index. Assumes nothing.
use Rattle.std.specs.Prelude.{◌≡◌, refl, List, [], ◌∷◌, ◌++◌, ℕ, zero, suc, ◌+◌, ◌-◌, ◌*◌, ◌/◌, ◌≤◌, ◌<◌, length, take, drop, get_or, set, replicate}
use Rattle.std.proofs.Common.{sym, ap, ◌∙◌, add-one, arith, length-append, length-drop, length-set, take-suc, drop-cons, take_all}
use Rattle.std.proofs.Common.{get_or-set_same, get_or-set_other, get_or-take, ext_get_or, length-take-le, le-leb}
use Rattle.std.proofs.Common.{zero-add, min, get_or-drop}
use Rattle.std.proofs.Math.ListN.{get_or-append}
use Rattle.std.proofs.Math.Seq.{get_or-append_right}
use Rattle.std.proofs.Math.Decide.{ℕ_discrete, dec_lt, dec_le}
use Rattle.std.proofs.lemmas.List.{length-replicate}
use Rattle.std.specs.List.{fold, sum as total}
use Rattle.std.proofs.lemmas.List.{drop-append-le, take-append-le}
use Rattle.std.proofs.lemmas.Bool.{lt-leb}
use Rattle.figures.specs.Small.{most_counts}
use Rattle.rules.specs.Limits.{low_counts, sums_of_thousands}
use Rattle.rules.specs.Summary.{sum, median, median_from, counts, thousands}
use Rattle.std.proofs.Common.{length-take}

-- the sum

pub sum_more : (t : List ℕ) (i : ℕ) → i < length t → sum (drop i t) ≡ get_or t i 0 + sum (drop (i + 1) t)
unfolding sum
sum_more t i h = rw (add-one, drop-cons t i 0)

drop_all : (t : List ℕ) (i : ℕ) → length t ≤ i → drop i t ≡ []
drop_all [] zero h = refl
drop_all [] (suc i) h = refl
drop_all (x ∷ t) zero h = absurd (omega arith)
drop_all (x ∷ t) (suc i) h = drop_all t i (omega arith)

pub sum_ends : (t : List ℕ) (i : ℕ) → length t ≤ i → sum (drop i t) ≡ 0
unfolding sum
sum_ends t i h = rw (drop_all t i h)

sum_append : (s t : List ℕ) → sum (s ++ t) ≡ sum s + sum t
unfolding sum
sum_append [] t = omega arith
sum_append (x ∷ s) t = omega (arith, sum_append s t)

sum_take : (n : ℕ) (t : List ℕ) → sum (take n t) ≤ sum t
unfolding sum
sum_take zero t = omega arith
sum_take (suc n) [] = omega arith
sum_take (suc n) (x ∷ t) = omega (arith, sum_take n t)

sum_drop : (n : ℕ) (t : List ℕ) → sum (drop n t) ≤ sum t
unfolding sum
sum_drop zero t = omega arith
sum_drop (suc n) [] = omega arith
sum_drop (suc n) (x ∷ t) = omega (arith, sum_drop n t)

-- std's word for it
sum_folds : (m : ℕ) (t : List ℕ) → fold (λ a x. a + x) m t ≡ m + sum t
unfolding sum
sum_folds m [] = omega arith
sum_folds m (x ∷ t) = omega (arith, sum_folds (m + x) t)

pub sum_is : (t : List ℕ) → total t ≡ sum t
sum_is t = sum_folds 0 t ∙ zero-add (sum t)

-- the median

pub median_begins : (all : ℕ) (t : List ℕ) → all ≡ sum t → median t ≡ median_from all 0 0 (drop 0 t)
unfolding median
median_begins all t e = ap (λ n. median_from n 0 0 t) (sym e)

pub median_stops : (all i so_far : ℕ) (t : List ℕ) → i < length t → all ≤ 2 * (so_far + get_or t i 0) → median_from all i so_far (drop i t) ≡ i
unfolding median_from
median_stops all i so_far t h k = rw (drop-cons t i 0) (rw (le-leb all (2 * (so_far + get_or t i 0)) k, median_from))

pub median_more : (all i so_far : ℕ) (t : List ℕ) → i < length t → 2 * (so_far + get_or t i 0) < all
    → median_from all i so_far (drop i t) ≡ median_from all (i + 1) (so_far + get_or t i 0) (drop (i + 1) t)
unfolding median_from
median_more all i so_far t h k = rw (add-one, drop-cons t i 0) (rw (lt-leb all (2 * (so_far + get_or t i 0)) k, median_from))

pub median_ends : (all i so_far : ℕ) (t : List ℕ) → length t ≤ i → median_from all i so_far (drop i t) ≡ 0
unfolding median_from
median_ends all i so_far t h = rw (drop_all t i h)

-- the low counts

pub counts_length : (n at : ℕ) (t : List ℕ) → length (counts n at t) ≡ n
unfolding counts
counts_length zero at t = refl
counts_length (suc n) at t = ap suc (counts_length n (suc at) t)

counts_at : (n at : ℕ) (t : List ℕ) (j : ℕ) → j < n → get_or (counts n at t) j 0 ≡ get_or t (at + j) 0
unfolding counts
counts_at zero at t j h = absurd (omega arith)
counts_at (suc n) at t zero h = ap (λ k. get_or t k 0) (omega arith)
counts_at (suc n) at t (suc j) h = counts_at n (suc at) t j (omega arith) ∙ ap (λ k. get_or t k 0) (omega arith)

-- the low counts agree at every index with the first i counts of the tally
abbrev pub Low : List ℕ → ℕ → List ℕ → Type 0
Low t i low = (length low ≡ low_counts) × ((j : ℕ) → get_or low j 0 ≡ get_or (take i t) j 0)

getD_nil : (j : ℕ) → get_or {A = ℕ} [] j 0 ≡ 0
getD_nil zero = refl
getD_nil (suc j) = refl

zeros_at : (n j : ℕ) → get_or {A = ℕ} (replicate n 0) j 0 ≡ 0
zeros_at zero j = getD_nil j
zeros_at (suc n) zero = refl
zeros_at (suc n) (suc j) = zeros_at n j

beyond : (t : List ℕ) (j : ℕ) → length t ≤ j → get_or t j 0 ≡ 0
beyond [] j h = getD_nil j
beyond (x ∷ t) zero h = absurd (omega arith)
beyond (x ∷ t) (suc j) h = beyond t j (omega arith)

-- the first i + 1 counts at an index: at i the count there, elsewhere what the first i say
take_more : (t : List ℕ) (i j : ℕ) → (j ≡ i → ⊥) → get_or (take (i + 1) t) j 0 ≡ get_or (take i t) j 0
take_more t i j n =
    elim (dec_lt j i) [
      | yes h ↦ get_or-take (i + 1) t j 0 (omega arith)
          ∙ sym (get_or-take i t j 0 h)
      | no h ↦ beyond (take (i + 1) t) j (omega (arith, length-take (i + 1) t))
          ∙ sym (beyond (take i t) j (omega (arith, length-take i t)))
    ]

pub low_begins : (t : List ℕ) → Low t 0 (replicate low_counts 0)
low_begins t = (refl, λ j. zeros_at low_counts j ∙ sym (getD_nil j))

pub low_more : (t : List ℕ) (i : ℕ) (low : List ℕ) → i < low_counts → Low t i low → Low t (i + 1) (set low i (get_or t i 0))
low_more t i low h k = (length-set low i (get_or t i 0) ∙ k.0, λ j. elim (ℕ_discrete j i) [ yes e ↦ same j e | no n ↦ get_or-set_other low i j (get_or t i 0) 0 n ∙ k.1 j ∙ sym (take_more t i j n) ])
  where
    same : (j : ℕ) → j ≡ i → get_or (set low i (get_or t i 0)) j 0 ≡ get_or (take (i + 1) t) j 0
    same j e = rw e (get_or-set_same low i (get_or t i 0) 0 (omega (arith, k.0)) ∙ sym (get_or-take (i + 1) t i 0 (omega arith)))

pub low_past : (t : List ℕ) (i : ℕ) (low : List ℕ) → length t ≤ i → Low t i low → Low t (i + 1) low
low_past t i low h k = (k.0, λ j. k.1 j ∙ ap (λ l. get_or l j 0) (take_all i t h ∙ sym (take_all (i + 1) t (omega arith))))

pub low_ends : (t : List ℕ) (i : ℕ) (low : List ℕ) → low_counts ≤ i → Low t i low → low ≡ counts low_counts 0 t
low_ends t i low h k =
    ext_get_or 0 low (counts low_counts 0 t) (k.0 ∙ sym (counts_length low_counts 0 t)) (λ j l.
    k.1 j ∙ get_or-take i t j 0 (omega (arith, k.0)) ∙ sym (counts_at low_counts 0 t j (omega (arith, k.0)) ∙ ap (λ n. get_or t n 0) (omega arith)))

-- the first counts copied over zeros
pub low_copied : (t : List ℕ) (n : ℕ) → n ≡ min (length t) low_counts → take n t ++ drop n (replicate low_counts 0) ≡ counts low_counts 0 t
low_copied t n e = ext_get_or 0 (take n t ++ drop n (replicate low_counts 0)) (counts low_counts 0 t) (long ∙ sym (counts_length low_counts 0 t)) (λ j h. at j (omega (arith, long)))
  where
    first : length (take n t) ≡ n
    first = length-take-le n t (omega arith)

    long : length (take n t ++ drop n (replicate low_counts 0)) ≡ low_counts
    long = length-append (take n t) (drop n (replicate low_counts 0)) ∙ omega (arith, first, length-drop n (replicate {A = ℕ} low_counts 0), length-replicate {A = ℕ} low_counts 0)

    here : (j : ℕ) → j < low_counts → get_or (take n t ++ drop n (replicate low_counts 0)) j 0 ≡ get_or t j 0
    here j h =
        elim (dec_lt j n) [
          | yes k ↦ get_or-append (take n t) (drop n (replicate low_counts 0)) 0 j (omega (arith, first)) ∙ get_or-take n t j 0 k
          | no k ↦ get_or-append_right (take n t) (drop n (replicate low_counts 0)) j 0 (omega (arith, first))
              ∙ get_or-drop n (replicate low_counts 0) (j - length (take n t)) 0 ∙ zeros_at low_counts (n + (j - length (take n t)))
              ∙ sym (beyond t j (omega arith))
        ]

    at : (j : ℕ) → j < low_counts → get_or (take n t ++ drop n (replicate low_counts 0)) j 0 ≡ get_or (counts low_counts 0 t) j 0
    at j h = here j h ∙ sym (counts_at low_counts 0 t j h ∙ ap (λ m. get_or t m 0) (omega arith))

-- the sums of thousands

-- the k-th thousand of the counts t, summed
abbrev pub thousand : ℕ → List ℕ → ℕ
thousand k t = sum (take 1000 (drop (1000 * k) t))

-- the sums are those of the first i counts of the tally
abbrev pub Thousands : List ℕ → ℕ → List ℕ → Type 0
Thousands t i sums = (length sums ≡ sums_of_thousands) × ((k : ℕ) → get_or sums k 0 ≡ thousand k (take i t))

pub thousands_length : (n at : ℕ) (t : List ℕ) → length (thousands n at t) ≡ n
unfolding thousands
thousands_length zero at t = refl
thousands_length (suc n) at t = ap suc (thousands_length n (suc at) t)

thousands_at : (n at : ℕ) (t : List ℕ) (k : ℕ) → k < n → get_or (thousands n at t) k 0 ≡ thousand (at + k) t
unfolding thousands
thousands_at zero at t k h = absurd (omega arith)
thousands_at (suc n) at t zero h = let e : at ≡ at + 0 = omega arith in ap (λ m. thousand m t) e
thousands_at (suc n) at t (suc k) h = let e : suc at + k ≡ at + suc k = omega arith in thousands_at n (suc at) t k (omega arith) ∙ ap (λ m. thousand m t) e

-- one count more at the end of a list of i: it counts for the thousand that i lies in, and for no other
thousand_here : (s : List ℕ) (x k : ℕ) → length s / 1000 ≡ k → thousand k (s ++ (x ∷ [])) ≡ thousand k s + x
unfolding sum
thousand_here s x k e =
    let d : length (drop (1000 * k) s) < 1000 = omega (arith, length-drop (1000 * k) s) in
    rw (drop-append-le (1000 * k) s (x ∷ []) (omega arith))
    (ap sum (take_all 1000 (drop (1000 * k) s ++ (x ∷ [])) (omega (arith, length-append (drop (1000 * k) s) (x ∷ []))))
    ∙ sum_append (drop (1000 * k) s) (x ∷ []) ∙ omega (arith, ap sum (take_all 1000 (drop (1000 * k) s) (omega arith))))

thousand_there : (s : List ℕ) (x k : ℕ) → (length s / 1000 ≡ k → ⊥) → thousand k (s ++ (x ∷ [])) ≡ thousand k s
thousand_there s x k n = elim (dec_le (1000 * k) (length s)) [ yes h ↦ full h | no h ↦ empty (omega arith) ]
  where
    full : 1000 * k ≤ length s → thousand k (s ++ (x ∷ [])) ≡ thousand k s
    full h = let d : 1000 ≤ length (drop (1000 * k) s) = omega (arith, length-drop (1000 * k) s) in
        rw (drop-append-le (1000 * k) s (x ∷ []) h) (ap sum (take-append-le 1000 (drop (1000 * k) s) (x ∷ []) d))

    none : (l : List ℕ) → length l ≤ 1000 * k → sum (take 1000 (drop (1000 * k) l)) ≡ 0
    none l h = let a = sum_take 1000 (drop (1000 * k) l) in let b = sum_ends l (1000 * k) h in omega arith

    empty : length s < 1000 * k → thousand k (s ++ (x ∷ [])) ≡ thousand k s
    empty h = none (s ++ (x ∷ [])) (omega (arith, length-append s (x ∷ []))) ∙ sym (none s (omega arith))

pub thousands_begin : (t : List ℕ) → Thousands t 0 (replicate sums_of_thousands 0)
unfolding sum
thousands_begin t = (refl, λ k. zeros_at sums_of_thousands k ∙ sym (let h = sum_take 1000 (drop (1000 * k) []) in let g = sum_drop (1000 * k) [] in omega arith))

take_one : (t : List ℕ) (i : ℕ) → i < length t → take (i + 1) t ≡ take i t ++ (get_or t i 0 ∷ [])
take_one t i h = rw (add-one) (take-suc t i 0 h)

pub thousands_more : (t : List ℕ) (i : ℕ) (sums : List ℕ) → i < length t → i < most_counts → Thousands t i sums
    → Thousands t (i + 1) (set sums (i / 1000) (get_or sums (i / 1000) 0 + get_or t i 0))
thousands_more t i sums h small z =
    (length-set sums (i / 1000) _ ∙ z.0, λ k. elim (ℕ_discrete k (i / 1000)) [ yes e ↦ same k e | no n ↦ other k n ])
  where
    long : length (take i t) ≡ i
    long = length-take-le i t (omega arith)

    same : (k : ℕ) → k ≡ i / 1000 → get_or (set sums (i / 1000) (get_or sums (i / 1000) 0 + get_or t i 0)) k 0 ≡ thousand k (take (i + 1) t)
    same k e =
        ap (λ m. get_or (set sums (i / 1000) (get_or sums (i / 1000) 0 + get_or t i 0)) m 0) e ∙ get_or-set_same sums (i / 1000) _ 0 (omega (arith, z.0))
        ∙ ap (λ m. m + get_or t i 0) (z.1 (i / 1000)) ∙ sym (rw (take_one t i h) (thousand_here (take i t) (get_or t i 0) k (omega (arith, long)) ∙ ap (λ m. thousand m (take i t) + get_or t i 0) e))

    other : (k : ℕ) → (k ≡ i / 1000 → ⊥) → get_or (set sums (i / 1000) (get_or sums (i / 1000) 0 + get_or t i 0)) k 0 ≡ thousand k (take (i + 1) t)
    other k n = get_or-set_other sums (i / 1000) k _ 0 n ∙ z.1 k ∙ sym (rw (take_one t i h) (thousand_there (take i t) (get_or t i 0) k (λ e. n (omega (arith, long)))))

-- no sum passes the tally's
pub thousands_fit : (t : List ℕ) (i : ℕ) (sums : List ℕ) → i < length t → i < most_counts → Thousands t i sums → get_or sums (i / 1000) 0 + get_or t i 0 ≤ sum t
thousands_fit t i sums h small z =
    let n = thousands_more t i sums h small z in
    let e = get_or-set_same sums (i / 1000) (get_or sums (i / 1000) 0 + get_or t i 0) 0 (omega (arith, z.0)) in
    let f = n.1 (i / 1000) in
    let a = sum_take 1000 (drop (1000 * (i / 1000)) (take (i + 1) t)) in
    let b = sum_drop (1000 * (i / 1000)) (take (i + 1) t) in
    let d = sum_take (i + 1) t in
    omega arith

pub thousands_end : (t : List ℕ) (i : ℕ) (sums : List ℕ) → length t ≤ i → Thousands t i sums → sums ≡ thousands sums_of_thousands 0 t
thousands_end t i sums h z =
    ext_get_or 0 sums (thousands sums_of_thousands 0 t) (z.0 ∙ sym (thousands_length sums_of_thousands 0 t)) (λ k l.
    z.1 k ∙ ap (λ s. thousand k s) (take_all i t h) ∙ sym (let e : 0 + k ≡ k = omega arith in thousands_at sums_of_thousands 0 t k (omega (arith, z.0)) ∙ ap (λ m. thousand m t) e))
