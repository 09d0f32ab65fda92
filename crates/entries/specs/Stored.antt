-- Laws of entries in a flat slice: a store, a row of entries, and an append to the order. Assumes nothing.
use Rattle.std.specs.Prelude.{◌≡◌, refl, Bool, true, false, List, [], ◌∷◌, ◌++◌, ℕ, zero, suc, ◌+◌, ◌≤◌, ◌<◌, leb, ltb, length, set, get_or, ◌≢◌, ◌⊎◌}
use Rattle.std.proofs.Common.{sym, ap, ◌∙◌, zero-add, add-zero, suc-add, div-mul-le_self, arith, length-set, get_or-set_same, get_or-set_other, inl, inr, ltb-false, leb-false}
use Rattle.std.proofs.lemmas.List.Edits.{sets-eq}
use Rattle.rules.specs.Limits.{most_parallelism}
use Rattle.rules.specs.Guide.{parallelism, parallelism_by}
use Rattle.entries.specs.Entries.{entry_size, extent, lane_radix, packed, parallelism_in, lane_in, Narrow, capacity, fits, has_entry, entry_at, over, with_entry, row, annotated, appended}
use Rattle.entries.specs.declared.Entry.{Entry}

pub capacity_fits : (s : List ℕ) (n : ℕ) → n ≤ capacity s → fits s n
capacity_fits s n h = omega (arith, div-mul-le_self (length s) entry_size)

-- what is packed is read back
module _ (w lane : ℕ) (narrow : w < lane_radix) where
  pub packed_parallelism : parallelism_in (packed w lane) ≡ w
  packed_parallelism = omega arith

  pub packed_lane : lane_in (packed w lane) ≡ lane
  packed_lane = omega arith

-- a parallelism that is worked out is at most P
pub parallelism_most : (p a b q : ℕ) → 1 ≤ p → parallelism p a b q ≤ p
unfolding parallelism parallelism_by
parallelism_most p a b q one = go (leb p a) refl (leb p b) (ltb q b) refl
  where
    go : (x : Bool) → leb p a ≡ x → (y z : Bool) → ltb q b ≡ z → parallelism_by p a b q x y z ≤ p
    go true e true z f = omega arith
    go true e false true f = omega arith
    go true e false false f = omega (arith, ltb-false q b f)
    go false e true z f = omega (arith, leb-false p a e)
    go false e false z f = omega (arith, leb-false p a e)

-- hence it can be packed with a lane
pub annotated_narrow : (p a b q : ℕ) (es : List Entry) → 1 ≤ p → p ≤ most_parallelism → Narrow (annotated p a b q es)
annotated_narrow p a b q [] one few = tt
annotated_narrow p a b q (e ∷ es) one few = (omega (arith, parallelism_most p a b q one), annotated_narrow p a b (suc q) es one few)

-- and so can each that is read
pub row_narrow : (s : List ℕ) (k m : ℕ) → Narrow (row s k m)
row_narrow s k zero = tt
row_narrow s k (suc m) = (omega arith, row_narrow s (suc k) m)

-- four stores in a row
pub stored : (s : List ℕ) (i v a c w : ℕ) → i + 4 ≤ length s → set (set (set (set s i v) (i + 1) a) (i + 2) c) (i + 3) w ≡ over s i (v ∷ a ∷ c ∷ w ∷ [])
stored s i v a c w h =
    let e1 : i + 1 ≡ suc i = omega arith in
    let e2 : i + 2 ≡ suc (suc i) = omega arith in
    let e3 : i + 3 ≡ suc (suc (suc i)) = omega arith in
    rw (e1, e2, e3) (sets-eq (v ∷ a ∷ c ∷ w ∷ []) s i h)

-- an entry stored at k: what lies elsewhere is as it was, and it is read back there
module _ (s : List ℕ) (k : ℕ) (e : Entry) (h : has_entry s k) where
  abbrev i : ℕ
  i = extent k

  abbrev last : ℕ
  last = packed e.parallelism e.lane

  abbrev s1 : List ℕ
  s1 = set s i e.value

  abbrev s2 : List ℕ
  s2 = set s1 (i + 1) e.added

  abbrev s3 : List ℕ
  s3 = set s2 (i + 2) e.accepted

  abbrev s4 : List ℕ
  s4 = set s3 (i + 3) last

  is4 : with_entry s k e ≡ s4
  is4 = sym (stored s i e.value e.added e.accepted last h)

  other : (j : ℕ) → j ≢ i → j ≢ i + 1 → j ≢ i + 2 → j ≢ i + 3 → get_or s4 j 0 ≡ get_or s j 0
  other j a b c d =
      get_or-set_other s3 (i + 3) j last 0 d
      ∙ get_or-set_other s2 (i + 2) j e.accepted 0 c
      ∙ get_or-set_other s1 (i + 1) j e.added 0 b
      ∙ get_or-set_other s i j e.value 0 a

  pub stored_length : length (with_entry s k e) ≡ length s
  stored_length = ap length is4 ∙ simp length-set

  pub entry_other : (j : ℕ) → j ≢ k → entry_at (with_entry s k e) j ≡ entry_at s j
  entry_other j n =
      let f0 = other (extent j) (omega arith) (omega arith) (omega arith) (omega arith) in
      let f1 = other (extent j + 1) (omega arith) (omega arith) (omega arith) (omega arith) in
      let f2 = other (extent j + 2) (omega arith) (omega arith) (omega arith) (omega arith) in
      let f3 = other (extent j + 3) (omega arith) (omega arith) (omega arith) (omega arith) in
      rw is4 (rw (f0, f1, f2, f3))

  pub entry_same : e.parallelism < lane_radix → entry_at (with_entry s k e) k ≡ e
  entry_same narrow =
      let f0 : get_or s4 i 0 ≡ e.value =
      get_or-set_other s3 (i + 3) i last 0 (omega arith)
      ∙ get_or-set_other s2 (i + 2) i e.accepted 0 (omega arith)
      ∙ get_or-set_other s1 (i + 1) i e.added 0 (omega arith)
      ∙ get_or-set_same s i e.value 0 (omega arith) in
      let f1 : get_or s4 (i + 1) 0 ≡ e.added =
      get_or-set_other s3 (i + 3) (i + 1) last 0 (omega arith)
      ∙ get_or-set_other s2 (i + 2) (i + 1) e.accepted 0 (omega arith)
      ∙ get_or-set_same s1 (i + 1) e.added 0 (simp length-set (omega arith)) in
      let f2 : get_or s4 (i + 2) 0 ≡ e.accepted =
      get_or-set_other s3 (i + 3) (i + 2) last 0 (omega arith) ∙ get_or-set_same s2 (i + 2) e.accepted 0 (simp length-set (omega arith)) in
      let f3 : get_or s4 (i + 3) 0 ≡ last = get_or-set_same s3 (i + 3) last 0 (simp length-set (omega arith)) in
      rw is4 (rw (f0, f1, f2, f3, packed_parallelism e.parallelism e.lane narrow, packed_lane e.parallelism e.lane narrow))

  -- a row that the store does not touch
  pub row_other : (base m : ℕ) → ((j : ℕ) → base ≤ j → j < base + m → j ≢ k) → row (with_entry s k e) base m ≡ row s base m
  row_other base zero n = refl
  row_other base (suc m) n = rw (entry_other base (n base (omega arith) (omega arith)), row_other (suc base) m (λ j a b. n j (omega arith) (omega arith)))

-- one entry more of a row
pub row_suc : (s : List ℕ) (base m : ℕ) → row s base (m + 1) ≡ row s base m ++ (entry_at s (base + m) ∷ [])
row_suc s base zero = rw (add-zero base)
row_suc s base (suc m) = let e : base + suc m ≡ suc base + m = omega arith in rw (e, suc-add m 1, row_suc s (suc base) m)

-- a store leaves alone what lies before and beyond the entry
pub stored_elsewhere : (s : List ℕ) (k : ℕ) (e : Entry) (j : ℕ) → has_entry s k → (j < extent k) ⊎ (extent k + entry_size ≤ j)
    → get_or (with_entry s k e) j 0 ≡ get_or s j 0
stored_elsewhere s k e j h (inl x) = rw (is4 s k e h) (other s k e h j (omega arith) (omega arith) (omega arith) (omega arith))
stored_elsewhere s k e j h (inr x) = rw (is4 s k e h) (other s k e h j (omega arith) (omega arith) (omega arith) (omega arith))

-- an append leaves alone what was written before, and what is not yet appended
pub appended_elsewhere : (o : List ℕ) (n : ℕ) (es : List Entry) (j : ℕ) → fits o (n + length es) → (j < extent n) ⊎ (extent (n + length es) ≤ j)
    → get_or (appended o n es) j 0 ≡ get_or o j 0
appended_elsewhere o n [] j h k = refl
appended_elsewhere o n (e ∷ es) j h (inl x) =
    let l = stored_length o n e (omega arith) in
    appended_elsewhere (with_entry o n e) (suc n) es j (omega arith) (inl (omega arith)) ∙ stored_elsewhere o n e j (omega arith) (inl x)
appended_elsewhere o n (e ∷ es) j h (inr x) =
    let l = stored_length o n e (omega arith) in
    appended_elsewhere (with_entry o n e) (suc n) es j (omega arith) (inr (omega arith)) ∙ stored_elsewhere o n e j (omega arith) (inr (omega arith))

-- a row in two parts
pub row_add : (s : List ℕ) (k m n : ℕ) → row s k (m + n) ≡ row s k m ++ row s (k + m) n
row_add s k zero n = rw (zero-add, add-zero)
row_add s k (suc m) n =
    let e : k + suc m ≡ suc k + m = omega arith in
    ap (λ t. row s k t) (suc-add m n) ∙ rw e (ap (λ t. entry_at s k ∷ t) (row_add s (suc k) m n))

-- rows of two lists that agree below their end
pub row_same : (s s' : List ℕ) (k m : ℕ) → ((j : ℕ) → j < extent (k + m) → get_or s' j 0 ≡ get_or s j 0) → row s' k m ≡ row s k m
row_same s s' k zero h = refl
row_same s s' k (suc m) h =
    let f0 = h (extent k) (omega arith) in
    let f1 = h (extent k + 1) (omega arith) in
    let f2 = h (extent k + 2) (omega arith) in
    let f3 = h (extent k + 3) (omega arith) in
    rw (f0, f1, f2, f3, row_same s s' (suc k) m (λ j x. h j (omega arith)))
