-- Places that follow each other, stamped at once; and the greatest location of places as that of a list of locations. Assumes nothing.
use Rattle.std.specs.Prelude.{◌≡◌, refl, List, [], ◌∷◌, ℕ, zero, suc, ◌+◌, ◌≤◌, length, get_or, set, take, drop, map, max, replicate}
use Rattle.std.proofs.Common.{sym, ap, ◌∙◌, arith, length-drop, length-take-le}
use Rattle.std.proofs.Math.Seq.{paste, paste-zero, paste-suc}
use Rattle.std.proofs.lemmas.List.{get_or-replicate, length-replicate}
use Rattle.std.proofs.lemmas.Slice.{put_mid-paste}
use borrow.Rule.Slice.PartMut.{put_mid}
use Rattle.rules.specs.Model.{greatest}
use Rattle.tracking.specs.Tracking.{peak, stamped}
use Rattle.ascending.specs.Claims.{places_from}
use Rattle.std.proofs.Common.{zero-add, take_all}
use Rattle.lists.specs.Part.{part}
use Rattle.tracking.specs.Loops.{Stamping, stamp_start, stamp_next, stamp_end}
use Rattle.std.specs.Prelude.{◌<◌}

-- the greatest location of the places
pub peak_is : (l xs : List ℕ) → greatest (map (λ x. get_or l x 0) xs) ≡ peak l xs
unfolding greatest peak
peak_is l [] = refl
peak_is l (x ∷ xs) = ap (max (get_or l x 0)) (peak_is l xs)

-- the n places from m on, filled with v
module _ (l : List ℕ) (m n v : ℕ) (h : m + n ≤ length l) where
  abbrev vs : List ℕ
  vs = replicate n v

  -- the first j are stamped, the others still to be
  left : (j k : ℕ) → j + k ≡ n → stamped (paste l m vs j) (places_from (m + j) k) v ≡ paste l m vs n
  unfolding stamped places_from
  left j zero e = let d : j ≡ n = omega arith in ap (paste l m vs) d
  left j (suc k) e =
      let here : set (paste l m vs j) (m + j) v ≡ paste l m vs (suc j) =
      ap (set (paste l m vs j) (m + j)) (sym (get_or-replicate n j v 0 (omega arith))) ∙ paste-suc l m vs j 0 (omega arith) (omega (arith, length-replicate n v)) in
      let d : suc (m + j) ≡ m + suc j = omega arith in
      ap (λ x. stamped x (places_from (suc (m + j)) k) v) here ∙ ap (λ i. stamped (paste l m vs (suc j)) (places_from i k) v) d ∙ left (suc j) k (omega arith)

  pub run_filled : (k : ℕ) (ys : List ℕ) → k ≡ n → ys ≡ replicate (length (take k (drop m l))) v → put_mid m k l ys ≡ stamped l (places_from m n) v
  run_filled k ys d e =
      let z : m + 0 ≡ m = omega arith in
      let i : length (take k (drop m l)) ≡ n = omega (arith, length-take-le k (drop m l) (omega (arith, length-drop m l))) in
      put_mid-paste m k l ys vs n (e ∙ ap (λ j. replicate j v) i) (sym d) (sym (length-replicate n v))
      ∙ sym (left 0 n (omega arith))
      ∙ ap (λ j. stamped (paste l m vs 0) (places_from j n) v) z
      ∙ ap (λ x. stamped x (places_from m n) v) (sym (paste-zero l m vs))

-- the part that is the whole list
pub part_whole : (xs : List ℕ) (n : ℕ) → length xs ≤ n → part xs 0 n ≡ xs
unfolding part
part_whole xs n h = take_all n xs h

pub places_length : (m n : ℕ) → length (places_from m n) ≡ n
unfolding places_from
places_length m zero = refl
places_length m (suc n) = ap suc (places_length (suc m) n)

pub places_at : (m n j : ℕ) → j < n → get_or (places_from m n) j 0 ≡ m + j
unfolding places_from
places_at m zero j h = absurd (omega arith)
places_at m (suc n) zero h = omega arith
places_at m (suc n) (suc j) h = let e : get_or (places_from (suc m) n) j 0 ≡ suc m + j = places_at (suc m) n j (omega arith) in omega (arith, e)

-- the loop of `stamp_run`, of one of its two slices, at j: the places from the j-th on are still to be stamped
abbrev pub Running : ℕ → ℕ → ℕ → List ℕ → List ℕ → ℕ → Type 0
Running m n v l₀ l j = Stamping (places_from m n) 0 n v l₀ l j

module _ (m n : ℕ) where
  inside : 0 + n ≤ length (places_from m n)
  inside = omega (arith, places_length m n)

  pub run_start : (v : ℕ) (l : List ℕ) → Running m n v l l 0
  run_start v l = stamp_start inside v l

  module _ {v : ℕ} {l₀ l : List ℕ} {j : ℕ} (g : Running m n v l₀ l j) where
    pub run_next : j < n → Running m n v l₀ (set l (m + j) v) (j + 1)
    run_next h = stamp_next inside g (omega (arith, places_at m n j h, ap (λ (i : ℕ). get_or (places_from m n) i 0) (zero-add j))) h

    pub run_end : n ≤ j → l ≡ stamped l₀ (places_from m n) v
    run_end h = stamp_end inside g h ∙ ap (λ (xs : List ℕ). stamped l₀ xs v) (part_whole (places_from m n) n (omega (arith, places_length m n)))
