-- Laws of the spans in their rows: one entry more, and a rotation. Assumes nothing.
use Rattle.std.specs.Prelude.{◌≡◌, ◌≢◌, ◌⊎◌, ℕ, zero, suc, ◌+◌, ◌*◌, ◌≤◌, ◌<◌, length, get_or, set, drop}
use Rattle.std.proofs.Math.Path.{refl}
use Rattle.std.proofs.Common.{sym, ap, ◌∙◌, inl, inr, suc-mul, mul-le-mul_right, add-zero, arith}
use mathlib.Core.List.{List, [], ◌∷◌, ◌++◌, map}
use Rattle.std.proofs.lemmas.List.{length-map}
use Rattle.entries.specs.declared.Entry.{Entry}
use Rattle.entries.specs.Entries.{has_entry, with_entry, held_entry, row, item_of}
use Rattle.entries.specs.Stored.{row_other, row_suc, entry_same}
use Rattle.buffer.specs.View.{spans_of, Away, Distinct, Most, upto}

-- rows below r end where r begins
pub row_ends : (p row r : ℕ) → row < r → row * (p + 1) + (p + 1) ≤ r * (p + 1)
row_ends p row r h = omega (arith, suc-mul row (p + 1), mul-le-mul_right (p + 1) h)

-- slots of different rows differ
slots_apart : (p x y l m q : ℕ) → x ≢ y → m ≤ p + 1 → l ≤ p → x * (p + 1) ≤ q → q < x * (p + 1) + m → q ≢ y * (p + 1) + l
slots_apart p x y l m q n hm hl a b e = go (less x y n)
  where
    less : (x y : ℕ) → x ≢ y → (x < y) ⊎ (y < x)
    less zero zero n = absurd (n refl)
    less zero (suc y) n = inl (omega arith)
    less (suc x) zero n = inr (omega arith)
    less (suc x) (suc y) n = up (less x y (λ e. n (ap suc e)))
      where
        up : (x < y) ⊎ (y < x) → (suc x < suc y) ⊎ (suc y < suc x)
        up (inl h) = inl (omega arith)
        up (inr h) = inr (omega arith)

    go : (x < y) ⊎ (y < x) → ⊥
    go (inl h) = omega (arith, row_ends p x y h)
    go (inr h) = omega (arith, row_ends p y x h)

map_snoc : {A B : Type 0} (f : A → B) (l : List A) (x : A) → map f (l ++ (x ∷ [])) ≡ map f l ++ (f x ∷ [])
map_snoc f [] x = refl
map_snoc f (y ∷ l) x = ap (λ t. f y ∷ t) (map_snoc f l x)

away_at : (x : ℕ) (ys : List ℕ) (i : ℕ) → Away x ys → i < length ys → x ≢ get_or ys i 0
unfolding Away
away_at x [] i a h = absurd (omega arith)
away_at x (y ∷ ys) zero a h = λ e. a.0 (sym e)
away_at x (y ∷ ys) (suc i) a h = away_at x ys i a.1 (omega arith)

-- an entry held past the last of the row R that has l entries
module _ (p : ℕ) (s : List ℕ) (R l : ℕ) (e : Entry) (hl : l ≤ p) (room : has_entry s (R * (p + 1) + l)) where
  abbrev s' : List ℕ
  s' = with_entry s (R * (p + 1) + l) (held_entry e)

  elsewhere : (x m : ℕ) → x ≢ R → m ≤ p + 1 → row s' (x * (p + 1)) m ≡ row s (x * (p + 1)) m
  elsewhere x m n hm = row_other s (R * (p + 1) + l) (held_entry e) room (x * (p + 1)) m (λ q a b. slots_apart p x R l m q n hm hl a b)

  others : (rs ls : List ℕ) → Away R rs → Most (p + 1) ls → spans_of p s' rs ls ≡ spans_of p s rs ls
  unfolding spans_of Away Most
  others [] ls a b = refl
  others (x ∷ rs) [] a b = refl
  others (x ∷ rs) (m ∷ ls) a b = rw (elsewhere x m a.0 b.0, others rs ls a.1 b.1)

  here : map item_of (row s' (R * (p + 1)) (l + 1)) ≡ map item_of (row s (R * (p + 1)) l) ++ (item_of e ∷ [])
  unfolding item_of
  here =
      rw (row_suc s' (R * (p + 1)) l, entry_same s (R * (p + 1) + l) (held_entry e) room (omega arith), row_other s (R * (p + 1) + l) (held_entry e) room (R * (p + 1)) l (λ q a b. omega arith))
      (map_snoc item_of (row s (R * (p + 1)) l) (held_entry e))

-- one entry more in span i
pub spans_put : (p : ℕ) (s : List ℕ) (e : Entry) (rs ls : List ℕ) (i : ℕ) → Distinct rs → Most (p + 1) ls → length rs ≡ length ls → i < length rs → get_or ls i 0 ≤ p
    → has_entry s (get_or rs i 0 * (p + 1) + get_or ls i 0)
    → spans_of p (with_entry s (get_or rs i 0 * (p + 1) + get_or ls i 0) (held_entry e)) rs (set ls i (get_or ls i 0 + 1))
    ≡ set (spans_of p s rs ls) i (get_or (spans_of p s rs ls) i [] ++ (item_of e ∷ []))
unfolding spans_of Distinct Most
spans_put p s e [] ls i d m h k hl f = refl
spans_put p s e (r ∷ rs) [] i d m h k hl f = absurd (omega arith)
spans_put p s e (r ∷ rs) (l ∷ ls) zero d m h k hl f = rw (here p s r l e hl f, others p s r l e hl f rs ls d.0 m.1)
spans_put p s e (r ∷ rs) (l ∷ ls) (suc i) d m h k hl f =
    rw (elsewhere p s (get_or rs i 0) (get_or ls i 0) e hl f r l (away_at r rs i d.0 (omega arith)) m.0, spans_put p s e rs ls i d.1 m.1 (omega arith) (omega arith) hl f)

-- a rotation
spans_snoc : (p : ℕ) (s : List ℕ) (rs ls : List ℕ) (r : ℕ) → length rs ≡ length ls → spans_of p s (rs ++ (r ∷ [])) (ls ++ (0 ∷ [])) ≡ spans_of p s rs ls ++ ([] ∷ [])
unfolding spans_of
spans_snoc p s [] [] r h = refl
spans_snoc p s [] (l ∷ ls) r h = absurd (omega arith)
spans_snoc p s (x ∷ rs) [] r h = absurd (omega arith)
spans_snoc p s (x ∷ rs) (l ∷ ls) r h = rw (spans_snoc p s rs ls r (omega arith))

pub spans_rotated : (p : ℕ) (s : List ℕ) (rs ls : List ℕ) → length rs ≡ length ls
    → spans_of p s (drop 1 rs ++ (get_or rs 0 0 ∷ [])) (drop 1 ls ++ (0 ∷ [])) ≡ drop 1 (spans_of p s rs ls) ++ ([] ∷ [])
unfolding spans_of
spans_rotated p s [] [] h = refl
spans_rotated p s [] (l ∷ ls) h = absurd (omega arith)
spans_rotated p s (x ∷ rs) [] h = absurd (omega arith)
spans_rotated p s (x ∷ rs) (l ∷ ls) h = spans_snoc p s rs ls x (omega arith)

away_snoc : (x : ℕ) (ys : List ℕ) (y : ℕ) → Away x ys → y ≢ x → Away x (ys ++ (y ∷ []))
unfolding Away
away_snoc x [] y a n = (n, tt)
away_snoc x (z ∷ ys) y a n = (a.0, away_snoc x ys y a.1 n)

distinct_snoc : (xs : List ℕ) (y : ℕ) → Distinct xs → Away y xs → Distinct (xs ++ (y ∷ []))
unfolding Away Distinct
distinct_snoc [] y d a = (tt, tt)
distinct_snoc (x ∷ xs) y d a = (away_snoc x xs y d.0 (λ e. a.0 (sym e)), distinct_snoc xs y d.1 a.1)

pub distinct_rotated : (xs : List ℕ) → 1 ≤ length xs → Distinct xs → Distinct (drop 1 xs ++ (get_or xs 0 0 ∷ []))
unfolding Distinct
distinct_rotated [] h d = absurd (omega arith)
distinct_rotated (x ∷ xs) h d = distinct_snoc xs x d.1 d.0

most_snoc : (n : ℕ) (xs : List ℕ) (y : ℕ) → Most n xs → y ≤ n → Most n (xs ++ (y ∷ []))
unfolding Most
most_snoc n [] y m h = (h, tt)
most_snoc n (x ∷ xs) y m h = (m.0, most_snoc n xs y m.1 h)

pub most_rotated : (n : ℕ) (xs : List ℕ) (y : ℕ) → y ≤ n → Most n xs → Most n (drop 1 xs ++ (y ∷ []))
unfolding Most
most_rotated n [] y h m = (h, tt)
most_rotated n (x ∷ xs) y h m = most_snoc n xs y m.1 h

pub most_at : (n : ℕ) (xs : List ℕ) (i : ℕ) → Most n xs → get_or xs i 0 ≤ n
unfolding Most
most_at n [] i m = omega arith
most_at n (x ∷ xs) zero m = m.0
most_at n (x ∷ xs) (suc i) m = most_at n xs i m.1

pub most_set : (n : ℕ) (xs : List ℕ) (i y : ℕ) → y ≤ n → Most n xs → Most n (set xs i y)
unfolding Most
most_set n [] i y h m = tt
most_set n (x ∷ xs) zero y h m = (h, m.1)
most_set n (x ∷ xs) (suc i) y h m = (m.0, most_set n xs i y h m.1)

upto_snoc : (n m : ℕ) → upto n (suc m) ≡ upto n m ++ ((n + m) ∷ [])
unfolding upto
upto_snoc n zero = rw add-zero
upto_snoc n (suc m) = let e : n + suc m ≡ suc n + m = omega arith in rw e (ap (λ t. n ∷ t) (upto_snoc (suc n) m))

pub upto_at : (n m i : ℕ) → i < m → get_or (upto n m) i 0 ≡ n + i
unfolding upto
upto_at n zero i h = absurd (omega arith)
upto_at n (suc m) zero h = rw add-zero
upto_at n (suc m) (suc i) h = let e : n + suc i ≡ suc n + i = omega arith in rw e (upto_at (suc n) m i (omega arith))

pub upto_rotated : (n m : ℕ) → drop 1 (upto n (suc m)) ++ ((n + m + 1) ∷ []) ≡ upto (suc n) (suc m)
unfolding upto
upto_rotated n m = let e : n + m + 1 ≡ suc n + m = omega arith in rw e (sym (upto_snoc (suc n) m))

pub spans_at : (p : ℕ) (s : List ℕ) (rs ls : List ℕ) (i : ℕ) → length rs ≡ length ls → get_or (spans_of p s rs ls) i [] ≡ map item_of (row s (get_or rs i 0 * (p + 1)) (get_or ls i 0))
unfolding spans_of
spans_at p s [] [] i h = refl
spans_at p s [] (l ∷ ls) i h = absurd (omega arith)
spans_at p s (r ∷ rs) [] i h = absurd (omega arith)
spans_at p s (r ∷ rs) (l ∷ ls) zero h = refl
spans_at p s (r ∷ rs) (l ∷ ls) (suc i) h = spans_at p s rs ls i (omega arith)

pub row_length : (s : List ℕ) (k m : ℕ) → length (row s k m) ≡ m
row_length s k zero = refl
row_length s k (suc m) = ap suc (row_length s (suc k) m)

pub span_length : (p : ℕ) (s : List ℕ) (rs ls : List ℕ) (i : ℕ) → length rs ≡ length ls → length (get_or (spans_of p s rs ls) i []) ≡ get_or ls i 0
span_length p s rs ls i h = ap length (spans_at p s rs ls i h) ∙ length-map (row s (get_or rs i 0 * (p + 1)) (get_or ls i 0)) item_of ∙ row_length s (get_or rs i 0 * (p + 1)) (get_or ls i 0)

pub spans_length : (p : ℕ) (s : List ℕ) (rs ls : List ℕ) → length rs ≡ length ls → length (spans_of p s rs ls) ≡ length ls
unfolding spans_of
spans_length p s [] [] h = refl
spans_length p s [] (l ∷ ls) h = absurd (omega arith)
spans_length p s (r ∷ rs) [] h = absurd (omega arith)
spans_length p s (r ∷ rs) (l ∷ ls) h = ap suc (spans_length p s rs ls (omega arith))

-- the spans' lengths are the window's
pub spans_lengths : (p : ℕ) (s rs ls : List ℕ) → length rs ≡ length ls → map (λ x. length x) (spans_of p s rs ls) ≡ ls
unfolding spans_of
spans_lengths p s [] [] h = refl
spans_lengths p s [] (l ∷ ls) h = absurd (omega arith)
spans_lengths p s (r ∷ rs) [] h = absurd (omega arith)
spans_lengths p s (r ∷ rs) (l ∷ ls) h = rw (length-map (row s (r * (p + 1)) l) item_of, row_length s (r * (p + 1)) l, spans_lengths p s rs ls (omega arith))

pub upto_length : (n m : ℕ) → length (upto n m) ≡ m
unfolding upto
upto_length n zero = refl
upto_length n (suc m) = ap suc (upto_length (suc n) m)
