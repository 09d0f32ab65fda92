-- Laws of the pieces between separators: the first byte of a kind, and the lines and fields of rules/Job told by it, with no text carried
-- along. Assumes nothing.
use Rattle.std.specs.List.{position_or_len}
use Rattle.std.specs.Prelude.{Option as Answer, Some, None, position, List, [], ◌∷◌, ◌++◌, Bool, true, false, ◌⊎◌, ◌≡◌, refl, ℕ, suc, ◌+◌, ◌≤◌, ◌<◌, length, get_or, take, drop, eqb}
use Rattle.std.proofs.Common.{append_assoc, append-nil, inl, inr, sym, ap, ◌∙◌, zero-le, suc-le-suc, le_of_suc-le-suc, not-suc-le-zero}
use Rattle.std.proofs.Common.{add-one, arith, length-take, length-drop, take-append-drop, drop-cons, drop-drop, eq-eqb, ne_eqb, lt-ltb, le-ltb}
use Rattle.std.proofs.Math.Decide.{dec_lt}
use Rattle.std.proofs.lemmas.Bool.{false≢true, eqb-false}
use Rattle.rules.specs.Model.{member}
use Rattle.rules.specs.Job.{lines_from, ragged, fields_from}
use Rattle.jobtext.specs.Text.{before, GoesOn}

pub bool : (b : Bool) → (b ≡ true) ⊎ (b ≡ false)
bool true = inl refl
bool false = inr refl

pub before_le : (b : ℕ) (l : List ℕ) → before b l ≤ length l
unfolding before
before_le b [] = zero-le
before_le b (x ∷ l) = go (bool (eqb x b)) (before_le b l)
  where
    go : (eqb x b ≡ true) ⊎ (eqb x b ≡ false) → before b l ≤ length l → before b (x ∷ l) ≤ suc (length l)
    go (inl e) h = rw (before, e) zero-le
    go (inr e) h = rw (before, e) (suc-le-suc h)

-- so std's search finds it
counted : (b : ℕ) (l : List ℕ) → position_or_len (λ (x : ℕ). eqb x b) l ≡ before b l
unfolding before
counted b [] = refl
counted b (x ∷ l) = go (bool (eqb x b)) (counted b l)
  where
    go : (eqb x b ≡ true) ⊎ (eqb x b ≡ false) → position_or_len (λ (y : ℕ). eqb y b) l ≡ before b l → position_or_len (λ (y : ℕ). eqb y b) (x ∷ l) ≡ before b (x ∷ l)
    go (inl e) i = rw (before, e)
    go (inr e) i = rw (before, e) (omega (arith, i))

abbrev pub place_or : ℕ → Answer ℕ → ℕ
place_or n (Some k) = k
place_or n None = n

pub first_is : (b : ℕ) (l : List ℕ) → place_or (length l) (position (λ (x : ℕ). eqb x b) l) ≡ before b l
first_is b l = elim (dec_lt n (length l)) [ yes lt ↦ rw (lt-ltb n (length l) lt) (counted b l) | no ge ↦ rw (le-ltb n (length l) (omega arith)) (omega (arith, counted b l, before_le b l)) ]
  where
    n : ℕ
    n = position_or_len (λ (x : ℕ). eqb x b) l

-- a search through bytes before others: it ends among them, or there is no b and it goes on
before_within : (b : ℕ) (l r : List ℕ) → before b l < length l → before b (l ++ r) ≡ before b l
unfolding before
before_within b [] r h = absurd (not-suc-le-zero h)
before_within b (x ∷ l) r h = go (bool (eqb x b)) (before_within b l r)
  where
    go : (eqb x b ≡ true) ⊎ (eqb x b ≡ false) → (before b l < length l → before b (l ++ r) ≡ before b l) → before b (x ∷ (l ++ r)) ≡ before b (x ∷ l)
    go (inl e) k = rw (before, e)
    go (inr e) k = rw (before, e) (ap suc (k (le_of_suc-le-suc (rw (before, e) at h))))

before_past : (b : ℕ) (l r : List ℕ) → member b l ≡ false → before b (l ++ r) ≡ length l + before b r
unfolding before member
before_past b [] r e = omega arith
before_past b (x ∷ l) r e = go (bool (eqb b x)) (before_past b l r)
  where
    go : (eqb b x ≡ true) ⊎ (eqb b x ≡ false) → (member b l ≡ false → before b (l ++ r) ≡ length l + before b r)
        → before b (x ∷ (l ++ r)) ≡ suc (length l) + before b r
    go (inl f) k = absurd (false≢true (sym (rw f at e)))
    go (inr f) k = rw (before, ne_eqb x b (λ q. eqb-false b x f (sym q))) (omega (arith, k (rw f at e)))

none_among : (b : ℕ) (l : List ℕ) → length l ≤ before b l → member b l ≡ false
unfolding before member
none_among b [] h = refl
none_among b (x ∷ l) h = go (bool (eqb x b)) (none_among b l)
  where
    go : (eqb x b ≡ true) ⊎ (eqb x b ≡ false) → (length l ≤ before b l → member b l ≡ false) → member b (x ∷ l) ≡ false
    go (inl e) k = absurd (not-suc-le-zero (rw (before, e) at h))
    go (inr e) k = rw (member, ne_eqb b x (λ q. eqb-false x b e (sym q))) (k (le_of_suc-le-suc (rw (before, e) at h)))

pub goes_on_from : {s : List ℕ} {from i j : ℕ} → GoesOn s from i → GoesOn s i j → GoesOn s from j
goes_on_from a b = record { onward = omega (arith, a.onward, b.onward); within = b.within; same_end = a.same_end ∙ b.same_end }

-- a search for byte 10 that has come to i, and the next n bytes
module _ (s : List ℕ) (from i n : ℕ) (at_i : GoesOn s from i) (inside : i + n ≤ length s) where
  all_n : length (take n (drop i s)) ≡ n
  all_n = simp (length-take, length-drop) (omega arith)

  parts : take n (drop i s) ++ drop (i + n) s ≡ drop i s
  parts = ap (λ (r : List ℕ). take n (drop i s) ++ r) (sym (drop-drop n i s)) ∙ take-append-drop n (drop i s)

  pub ends_here : (k : ℕ) → k ≡ before 10 (take n (drop i s)) → k < n → i + k ≡ from + before 10 (drop from s)
  ends_here k e h =
      let found = before_within 10 (take n (drop i s)) (drop (i + n) s) (omega (arith, e, all_n)) in
      omega (arith, at_i.same_end, e, found, ap (before 10) parts)

  pub goes_past : member 10 (take n (drop i s)) ≡ false → GoesOn s from (i + n)
  goes_past e =
      let past = before_past 10 (take n (drop i s)) (drop (i + n) s) e in
      record { onward = omega (arith, at_i.onward); within = inside; same_end = omega (arith, at_i.same_end, past, all_n, ap (before 10) parts) }

  pub past_none : (k : ℕ) → k ≡ before 10 (take n (drop i s)) → n ≤ k → GoesOn s from (i + n)
  past_none k e h = goes_past (none_among 10 (take n (drop i s)) (omega (arith, e, all_n)))

-- a field, and the rest where a comma ends it
pub fields_more : (acc l : List ℕ) → before 44 l < length l → fields_from acc l ≡ (acc ++ take (before 44 l) l) ∷ fields_from [] (drop (suc (before 44 l)) l)
unfolding before fields_from
fields_more acc [] h = absurd (not-suc-le-zero h)
fields_more acc (x ∷ l) h = go (bool (eqb x 44)) (fields_more (acc ++ (x ∷ [])) l)
  where
    go : (eqb x 44 ≡ true) ⊎ (eqb x 44 ≡ false)
        → (before 44 l < length l → fields_from (acc ++ (x ∷ [])) l ≡ ((acc ++ (x ∷ [])) ++ take (before 44 l) l) ∷ fields_from [] (drop (suc (before 44 l)) l))
        → fields_from acc (x ∷ l) ≡ (acc ++ take (before 44 (x ∷ l)) (x ∷ l)) ∷ fields_from [] (drop (suc (before 44 (x ∷ l))) (x ∷ l))
    go (inl e) i = rw (before, fields_from, e, append-nil)
    go (inr e) i =
        let h' = rw (before, e) at h in
        rw (before, fields_from, e) (i (le_of_suc-le-suc h') ∙ rw append_assoc)

pub fields_last : (acc l : List ℕ) → length l ≤ before 44 l → fields_from acc l ≡ (acc ++ l) ∷ []
unfolding before fields_from
fields_last acc [] h = rw append-nil
fields_last acc (x ∷ l) h = go (bool (eqb x 44)) (fields_last (acc ++ (x ∷ [])) l)
  where
    go : (eqb x 44 ≡ true) ⊎ (eqb x 44 ≡ false)
        → (length l ≤ before 44 l → fields_from (acc ++ (x ∷ [])) l ≡ ((acc ++ (x ∷ [])) ++ l) ∷ [])
        → fields_from acc (x ∷ l) ≡ (acc ++ (x ∷ l)) ∷ []
    go (inl e) i = absurd (not-suc-le-zero (rw (before, e) at h))
    go (inr e) i =
        let h' = rw (before, e) at h in
        rw (fields_from, e) (i (le_of_suc-le-suc h') ∙ rw append_assoc)

-- the same for lines, of which the last is none where nothing ends it
pub lines_more : (acc l : List ℕ) → before 10 l < length l → lines_from acc l ≡ (acc ++ take (before 10 l) l) ∷ lines_from [] (drop (suc (before 10 l)) l)
unfolding before lines_from
lines_more acc [] h = absurd (not-suc-le-zero h)
lines_more acc (x ∷ l) h = go (bool (eqb x 10)) (lines_more (acc ++ (x ∷ [])) l)
  where
    go : (eqb x 10 ≡ true) ⊎ (eqb x 10 ≡ false)
        → (before 10 l < length l → lines_from (acc ++ (x ∷ [])) l ≡ ((acc ++ (x ∷ [])) ++ take (before 10 l) l) ∷ lines_from [] (drop (suc (before 10 l)) l))
        → lines_from acc (x ∷ l) ≡ (acc ++ take (before 10 (x ∷ l)) (x ∷ l)) ∷ lines_from [] (drop (suc (before 10 (x ∷ l))) (x ∷ l))
    go (inl e) i = rw (before, lines_from, e, append-nil)
    go (inr e) i =
        let h' = rw (before, e) at h in
        rw (before, lines_from, e) (i (le_of_suc-le-suc h') ∙ rw append_assoc)

pub lines_last : (acc l : List ℕ) → length l ≤ before 10 l → lines_from acc l ≡ []
unfolding before lines_from
lines_last acc [] h = refl
lines_last acc (x ∷ l) h = go (bool (eqb x 10)) (lines_last (acc ++ (x ∷ [])) l)
  where
    go : (eqb x 10 ≡ true) ⊎ (eqb x 10 ≡ false) → (length l ≤ before 10 l → lines_from (acc ++ (x ∷ [])) l ≡ []) → lines_from acc (x ∷ l) ≡ []
    go (inl e) i = absurd (not-suc-le-zero (rw (before, e) at h))
    go (inr e) i =
        let h' = rw (before, e) at h in
        rw (lines_from, e) (i (le_of_suc-le-suc h'))

-- whether the text ends without byte 10 is told by what follows its first line; with no line it does, unless there is no byte
pub ragged_more : (l : List ℕ) → before 10 l < length l → ragged l ≡ ragged (drop (suc (before 10 l)) l)
unfolding before ragged
ragged_more [] h = absurd (not-suc-le-zero h)
ragged_more (x ∷ l) h = go (bool (eqb x 10)) l h (ragged_more l)
  where
    go : (eqb x 10 ≡ true) ⊎ (eqb x 10 ≡ false) → (m : List ℕ) → before 10 (x ∷ m) < suc (length m)
        → (before 10 m < length m → ragged m ≡ ragged (drop (suc (before 10 m)) m)) → ragged (x ∷ m) ≡ ragged (drop (suc (before 10 (x ∷ m))) (x ∷ m))
    go (inl e) [] h i = rw (before, ragged, e)
    go (inl e) (y ∷ m) h i = rw (before, e)
    go (inr e) [] h i = absurd (not-suc-le-zero (le_of_suc-le-suc (rw (before, e) at h)))
    go (inr e) (y ∷ m) h i = rw (before, e) (i (le_of_suc-le-suc (rw (before, e) at h)))

pub ragged_last : (x : ℕ) (l : List ℕ) → suc (length l) ≤ before 10 (x ∷ l) → ragged (x ∷ l) ≡ true
unfolding before ragged
ragged_last x [] h = go (bool (eqb x 10))
  where
    go : (eqb x 10 ≡ true) ⊎ (eqb x 10 ≡ false) → ragged (x ∷ []) ≡ true
    go (inl e) = absurd (not-suc-le-zero (rw (before, e) at h))
    go (inr e) = rw (ragged, e)
ragged_last x (y ∷ l) h = go (bool (eqb x 10)) (ragged_last y l)
  where
    go : (eqb x 10 ≡ true) ⊎ (eqb x 10 ≡ false) → (suc (length l) ≤ before 10 (y ∷ l) → ragged (y ∷ l) ≡ true) → ragged (x ∷ (y ∷ l)) ≡ true
    go (inl e) i = absurd (not-suc-le-zero (rw (before, e) at h))
    go (inr e) i = i (le_of_suc-le-suc (rw (before, e) at h))

-- a search from i: at a b it ends, else it goes on
pub before_stop : (b : ℕ) (s : List ℕ) (i : ℕ) → i < length s → get_or s i 0 ≡ b → before b (drop i s) ≡ 0
unfolding before
before_stop b s i h e = rw (drop-cons s i 0 h, before, eq-eqb (get_or s i 0) b e)

pub before_on : (b : ℕ) (s : List ℕ) (i : ℕ) → i < length s → (get_or s i 0 ≡ b → ⊥) → before b (drop i s) ≡ suc (before b (drop (i + 1) s))
unfolding before
before_on b s i h n = rw (drop-cons s i 0 h, before, ne_eqb (get_or s i 0) b n, add-one)

pub before_end : (b : ℕ) → before b [] ≡ 0
unfolding before
before_end b = refl
