-- Laws of `tallied` of `rules`: it goes entry by entry, it counts at most one an entry, and the counts beyond P stay. Assumes nothing.
use Rattle.std.specs.Prelude.{◌≡◌, refl, List, [], ◌∷◌, ◌++◌, ℕ, ◌+◌, ◌≤◌, ◌<◌, length, get_or, set, take}
use Rattle.std.proofs.Common.{sym, ap, ◌∙◌, arith, length-set, get_or-set_other, get_or-take}
use Rattle.std.proofs.Math.Seq.{take-set-lt}
use Rattle.rules.specs.Guide.{Entry as OrderEntry, tallied}
use Rattle.tally.specs.Counting.{counted_one}

-- every entry's parallelism is at most p
unfoldable pub Within : ℕ → List OrderEntry → Type 0
Within p [] = Unit {0}
Within p (x ∷ l) = (x.parallelism ≤ p) × Within p l

pub tallied_append : (t : List ℕ) (l m : List OrderEntry) → tallied t (l ++ m) ≡ tallied (tallied t l) m
unfolding tallied
tallied_append t [] m = refl
tallied_append t (x ∷ l) m = tallied_append (set t x.parallelism (get_or t x.parallelism 0 + 1)) l m

pub tallied_length : (t : List ℕ) (l : List OrderEntry) → length (tallied t l) ≡ length t
unfolding tallied
tallied_length t [] = refl
tallied_length t (x ∷ l) = tallied_length (set t x.parallelism (get_or t x.parallelism 0 + 1)) l ∙ length-set t x.parallelism (get_or t x.parallelism 0 + 1)

-- no count grows by more than the entries
pub tallied_le : (x : ℕ) (t : List ℕ) (l : List OrderEntry) → get_or (tallied t l) x 0 ≤ get_or t x 0 + length l
unfolding tallied
tallied_le x t [] = omega arith
tallied_le x t (y ∷ l) =
    let w = y.parallelism in
    omega (arith, tallied_le x (set t w (get_or t w 0 + 1)) l, counted_one t w x)

-- the counts beyond p stay
pub tallied_beyond : (p x : ℕ) (t : List ℕ) (l : List OrderEntry) → Within p l → p < x → get_or (tallied t l) x 0 ≡ get_or t x 0
unfolding tallied Within
tallied_beyond p x t [] k h = refl
tallied_beyond p x t (y ∷ l) k h =
    let w = y.parallelism in
    tallied_beyond p x (set t w (get_or t w 0 + 1)) l k.1 h ∙ get_or-set_other t w x (get_or t w 0 + 1) 0 (omega (arith, k.0))

-- and the first p + 1 counts are those of their own
pub tallied_front : (p : ℕ) (t : List ℕ) (l : List OrderEntry) → Within p l → take (p + 1) (tallied t l) ≡ tallied (take (p + 1) t) l
unfolding tallied Within
tallied_front p t [] k = refl
tallied_front p t (y ∷ l) k =
    let w = y.parallelism in
    let h : w < p + 1 = omega (arith, k.0) in
    tallied_front p (set t w (get_or t w 0 + 1)) l k.1
    ∙ ap (λ z. tallied z l) (take-set-lt (p + 1) t w (get_or t w 0 + 1) h ∙ ap (λ z. set (take (p + 1) t) w (z + 1)) (sym (get_or-take (p + 1) t w 0 h)))
