-- Laws for the loops of this crate, each by what remains to be done: the greatest location, the stamping, the run of tracked places.
-- Assumes nothing.
use Rattle.std.specs.Prelude.{◌≡◌, refl, List, ◌∷◌, Bool, true, false, ◌⊎◌, length, get_or, set}
use Rattle.std.proofs.Math.Path.{sym}
use Rattle.std.proofs.Common.{ap, ◌∙◌, inl, inr, add-zero, zero-add, eqb, ltb, cond, Some, None, take, drop, lt-ltb, le-ltb, ne_eqb}
use Rattle.std.proofs.Math.Decide.{dec_lt}
use Rattle.std.proofs.Math.Seq.{drop-cons}
use Rattle.std.proofs.lemmas.List.Sums.{prefix_len-le-length}
use Rattle.std.specs.List.{position_or_len}
use Rattle.std.specs.Option.{unwrap_or}
use Prim.Native.Nat.{ℕ, zero, suc, ◌+◌, ◌-◌, ◌≤◌, ◌<◌, max}
use Rattle.std.proofs.Math.Nat.{sub-zero}
use native.Mathlib.Omega.{arith}
use Rattle.std.proofs.Math.ListN.{length-set}
use Rattle.rules.specs.Model.{run_from}
use Rattle.lists.specs.Part.{part, part_step, part_end}
use Rattle.tracking.specs.Tracking.{peak, stamped, nz, tracked_in}
use Rattle.lists.specs.Part.{part_begin}

-- what is left to do from the j-th place on
abbrev pub to_peak : List ℕ → ℕ → ℕ → List ℕ → ℕ → ℕ → ℕ
to_peak pool at n l m j = max m (peak l (part pool (at + j) (n - j)))

abbrev to_stamp : List ℕ → ℕ → ℕ → ℕ → List ℕ → ℕ → List ℕ
to_stamp pool at n v l j = stamped l (part pool (at + j) (n - j)) v

module _ (pool : List ℕ) (at n : ℕ) (h : at + n ≤ length pool) where
  module _ (l : List ℕ) where
    pub peak_turn : (m j : ℕ) → j < n → to_peak pool at n l m j ≡ to_peak pool at n l (max m (get_or l (get_or pool (at + j) 0) 0)) (j + 1)
    unfolding peak
    peak_turn m j k = rw (part_step pool at n h j k) (three m (get_or l (get_or pool (at + j) 0) 0) (peak l (part pool (at + (j + 1)) (n - (j + 1)))))
      where
        three : (m x y : ℕ) → max m (max x y) ≡ max (max m x) y
        three m x y = omega arith

    pub peak_ends : (m j : ℕ) → n ≤ j → to_peak pool at n l m j ≡ m
    unfolding peak
    peak_ends m j k = rw (part_end pool at n h j k) (omega arith)

-- the loop of `stamp`, of one of its two slices, at j: the places from the j-th on are still to be stamped
pub record Stamping (pool : List ℕ) (at n v : ℕ) (l₀ l : List ℕ) (j : ℕ) : Type 0 where
  pub long : length l ≡ length l₀
  pub left : stamped l₀ (part pool at n) v ≡ to_stamp pool at n v l j

module _ {pool : List ℕ} {at n : ℕ} (h : at + n ≤ length pool) where
  module _ {v : ℕ} {l₀ l : List ℕ} {j : ℕ} (g : Stamping pool at n v l₀ l j) where
    pub stamp_next : {x : ℕ} → x ≡ get_or pool (at + j) 0 → j < n → Stamping pool at n v l₀ (set l x v) (j + 1)
    unfolding stamped
    stamp_next {x} e k = record { long = length-set l x v ∙ g.long; left = rw e (g.left ∙ rw (part_step pool at n h j k)) }

    pub stamp_end : n ≤ j → l ≡ stamped l₀ (part pool at n) v
    unfolding stamped
    stamp_end k = sym (g.left ∙ rw (part_end pool at n h j k))

-- the run of tracked places
module _ (t : ℕ → Bool) where
  bool : (b : Bool) → (b ≡ true) ⊎ (b ≡ false)
  bool true = inl refl
  bool false = inr refl

  run_skip : (n f m : ℕ) → m + n ≤ run_from t f m → run_from t f m ≡ run_from t (f - n) (m + n)
  unfolding run_from
  run_skip zero f m h = rw (sub-zero, add-zero)
  run_skip (suc n) zero m h = absurd (omega arith)
  run_skip (suc n) (suc f) m h = go (bool (t m)) (λ k. run_skip n f (suc m) k)
    where
      go : (t m ≡ true) ⊎ (t m ≡ false) → (suc m + n ≤ run_from t f (suc m) → run_from t f (suc m) ≡ run_from t (f - n) (suc m + n)) → run_from t (suc f) m ≡ run_from t (suc f - suc n) (m + suc n)
      go (inl e) r =
          let h' = rw (run_from, e) at h in
          let x : suc f - suc n ≡ f - n = omega arith in
          let y : m + suc n ≡ suc m + n = omega arith in
          rw (x, y) (rw (run_from, e) (r (omega arith)))
      go (inr e) r = let h' = rw (run_from, e) at h in absurd (omega arith)

  pub run_begins : (v from : ℕ) → from ≤ run_from t v 0 → run_from t v 0 ≡ run_from t (v - from) from
  run_begins v from h = run_skip from v 0 (omega arith) ∙ ap (λ x. run_from t (v - from) x) (zero-add from)

  run_le : (f m : ℕ) → run_from t f m ≤ m + f
  unfolding run_from
  run_le zero m = omega arith
  run_le (suc f) m = go (bool (t m)) (run_le f (suc m))
    where
      go : (t m ≡ true) ⊎ (t m ≡ false) → run_from t f (suc m) ≤ suc m + f → run_from t (suc f) m ≤ m + suc f
      go (inl e) r = rw (run_from, e) (omega arith)
      go (inr e) r = rw (run_from, e) (omega arith)

  pub run_most : (v : ℕ) → run_from t v 0 ≤ v
  run_most v = omega (arith, run_le v 0)

  pub run_more : (v i : ℕ) → i < v → t i ≡ true → run_from t (v - i) i ≡ run_from t (v - (i + 1)) (i + 1)
  unfolding run_from
  run_more v i h e =
      let x : v - i ≡ suc (v - (i + 1)) = omega arith in
      let y : i + 1 ≡ suc i = omega arith in
      rw (x, y) (rw (run_from, e))

  pub run_stops : (v i : ℕ) → i < v → t i ≡ false → run_from t (v - i) i ≡ i
  unfolding run_from
  run_stops v i h e = let x : v - i ≡ suc (v - (i + 1)) = omega arith in rw x (rw (run_from, e))

  pub run_ends : (v i : ℕ) → v ≤ i → run_from t (v - i) i ≡ i
  unfolding run_from
  run_ends v i h = let x : v - i ≡ 0 = omega arith in rw x

pub nz_no : (x : ℕ) → x ≡ 0 → nz x ≡ false
unfolding nz
nz_no zero e = refl
nz_no (suc n) e = absurd (omega arith)

pub nz_yes : (x : ℕ) → (x ≡ 0 → ⊥) → nz x ≡ true
unfolding nz
nz_yes zero e = absurd (e refl)
nz_yes (suc n) e = refl

-- the run from m on, among the f marks there, ends at the first one that is 0
run_first : (marks : List ℕ) (f m : ℕ) → m + f ≤ length marks → run_from (tracked_in marks) f m ≡ m + position_or_len (λ x. eqb x 0) (take f (drop m marks))
unfolding run_from tracked_in nz
run_first marks zero m h = omega arith
run_first marks (suc f) m h = rw (drop-cons marks m 0 (omega arith)) (go (get_or marks m 0) (run_first marks f (suc m) (omega arith)))
  where
    one : (p : ℕ) → suc m + p ≡ m + (1 + p)
    one p = omega arith

    go : (x : ℕ) → run_from (tracked_in marks) f (suc m) ≡ suc m + position_or_len (λ x. eqb x 0) (take f (drop (suc m) marks))
        → elim (nz x) [ true ↦ run_from (tracked_in marks) f (suc m) | false ↦ m ] ≡ m + position_or_len (λ x. eqb x 0) (x ∷ take f (drop (suc m) marks))
    go zero r = omega arith
    go (suc x) r = let n : eqb (suc x) 0 ≡ false = ne_eqb (suc x) 0 (λ e. omega arith) in rw n (r ∙ one (position_or_len (λ y. eqb y 0) (take f (drop (suc m) marks))))

-- what `position` found, or else the count of marks looked at
unwrap_found : (p n : ℕ) → p ≤ n → unwrap_or (cond (ltb p n) (Some p) None) n ≡ p
unwrap_found p n h = elim (dec_lt p n) [ yes k ↦ rw (lt-ltb p n k) | no k ↦ rw (le-ltb p n (omega arith)) (omega arith) ]

-- the watermark by std's `position`, of the v marks from `from` on
pub run_found : (marks : List ℕ) (v from : ℕ) → v ≤ length marks → from ≤ run_from (tracked_in marks) v 0 → (xs : List ℕ) → xs ≡ take (v - from) (drop from marks)
    → from + unwrap_or (cond (ltb (position_or_len (λ x. eqb x 0) xs) (length xs)) (Some (position_or_len (λ x. eqb x 0) xs)) None) (length xs) ≡ run_from (tracked_in marks) v 0
run_found marks v from h k xs e =
    let t = tracked_in marks in
    let r : run_from t v 0 ≡ from + position_or_len (λ x. eqb x 0) xs =
    run_begins t v from k ∙ run_first marks (v - from) from (omega (arith, run_most t v)) ∙ ap (λ l. from + position_or_len (λ x. eqb x 0) l) (sym e) in
    ap (λ n. from + n) (unwrap_found _ (length xs) (prefix_len-le-length _ xs)) ∙ sym r

module _ (pool : List ℕ) (at n : ℕ) (h : at + n ≤ length pool) where
  module _ (l : List ℕ) where
    pub peak_begins : peak l (part pool at n) ≡ to_peak pool at n l 0 0
    peak_begins = ap (λ x. peak l x) (part_begin pool at n h) ∙ sym (zero_max (peak l (part pool (at + 0) (n - 0))))
      where
        zero_max : (x : ℕ) → max 0 x ≡ x
        zero_max x = omega arith

    pub peak_less : (m j : ℕ) → j < n → get_or l (get_or pool (at + j) 0) 0 ≤ m → to_peak pool at n l m j ≡ to_peak pool at n l m (j + 1)
    unfolding peak
    peak_less m j k q = rw (part_step pool at n h j k) (three m (get_or l (get_or pool (at + j) 0) 0) (peak l (part pool (at + (j + 1)) (n - (j + 1)))) q)
      where
        three : (m x y : ℕ) → x ≤ m → max m (max x y) ≡ max m y
        three m x y q = omega arith

    pub peak_more : (m j : ℕ) → j < n → m ≤ get_or l (get_or pool (at + j) 0) 0 → to_peak pool at n l m j ≡ to_peak pool at n l (get_or l (get_or pool (at + j) 0) 0) (j + 1)
    unfolding peak
    peak_more m j k q = rw (part_step pool at n h j k) (three m (get_or l (get_or pool (at + j) 0) 0) (peak l (part pool (at + (j + 1)) (n - (j + 1)))) q)
      where
        three : (m x y : ℕ) → m ≤ x → max m (max x y) ≡ max x y
        three m x y q = omega arith

module _ {pool : List ℕ} {at n : ℕ} (h : at + n ≤ length pool) where
  pub stamp_start : (v : ℕ) (l : List ℕ) → Stamping pool at n v l l 0
  stamp_start v l = record { long = refl; left = ap (λ x. stamped l x v) (part_begin pool at n h) }
