-- The definition of a line's end in words: the first byte 10 at or after a start, or truly none, and nothing else is that. Assumes nothing.
use Rattle.std.specs.Prelude.{true, false, List, [], ◌∷◌, map, ◌⊎◌, ◌≡◌, refl, ℕ, zero, suc, ◌+◌, ◌-◌, ◌≤◌, ◌<◌, leb, eqb, length, drop, get_or}
use Rattle.std.proofs.Common.{inl, inr, sym, ap, ◌∙◌, arith, length-drop, get_or-drop, leb-true, leb-false, le-leb, eqb-true}
use Rattle.std.proofs.Math.Decide.{dec_lt}
use Rattle.std.proofs.lemmas.Bool.{lt-leb, eqb-false}
use Rattle.rules.specs.Text.{newline}
use Rattle.rules.specs.Listings.{job_1}
use Rattle.jobtext.specs.Text.{before, line_end}
use Rattle.jobtext.specs.Pieces.{bool, before_le}

-- worked out by hand: J1 from where each of its lines starts; from within a line, from a byte 10, from the end and from past it
pub ends_of_j1 : map (line_end job_1) (0 ∷ 14 ∷ 23 ∷ 29 ∷ 34 ∷ 40 ∷ 45 ∷ 51 ∷ 56 ∷ 62 ∷ 66 ∷ 72 ∷ []) ≡ 13 ∷ 22 ∷ 28 ∷ 33 ∷ 39 ∷ 44 ∷ 50 ∷ 55 ∷ 61 ∷ 65 ∷ 71 ∷ 79 ∷ []
unfolding line_end before
ends_of_j1 = refl

pub other_starts : map (line_end job_1) (5 ∷ 13 ∷ 80 ∷ 81 ∷ 1000 ∷ []) ≡ 13 ∷ 13 ∷ 80 ∷ 80 ∷ 80 ∷ []
unfolding line_end before
other_starts = refl

-- the two cases of its definition
pub end_within : (s : List ℕ) (from : ℕ) → from ≤ length s → from + before newline (drop from s) ≡ line_end s from
unfolding line_end
end_within s from h = rw (line_end, le-leb from (length s) h)

pub end_past : (s : List ℕ) (from : ℕ) → length s < from → length s ≡ line_end s from
unfolding line_end
end_past s from h = rw (line_end, lt-leb from (length s) h)

-- e is the place of the first byte 10 of s at or after `from`, or the length, and then there is none
pub record FirstEnd (s : List ℕ) (from e : ℕ) : Type 0 where
  pub within : e ≤ length s
  pub there : e < length s → (from ≤ e) × (get_or s e 0 ≡ newline)
  pub none_before : (i : ℕ) → from ≤ i → i < e → get_or s i 0 ≡ newline → ⊥

-- the byte that a search ends at, and those that it passes
found_at : (b : ℕ) (l : List ℕ) → before b l < length l → get_or l (before b l) 0 ≡ b
unfolding before
found_at b [] h = absurd (omega arith)
found_at b (x ∷ l) h = go (bool (eqb x b)) (found_at b l)
  where
    go : (eqb x b ≡ true) ⊎ (eqb x b ≡ false) → (before b l < length l → get_or l (before b l) 0 ≡ b) → get_or (x ∷ l) (before b (x ∷ l)) 0 ≡ b
    go (inl e) k = rw (before, e) (eqb-true x b e)
    go (inr e) k = rw (before, e) (k (omega (arith, rw (before, e) at h)))

passed : (b : ℕ) (l : List ℕ) (i : ℕ) → i < before b l → get_or l i 0 ≡ b → ⊥
unfolding before
passed b [] i h = absurd (omega arith)
passed b (x ∷ l) i h = go (bool (eqb x b)) i h (passed b l)
  where
    go : (eqb x b ≡ true) ⊎ (eqb x b ≡ false) → (i : ℕ) → i < before b (x ∷ l) → ((j : ℕ) → j < before b l → get_or l j 0 ≡ b → ⊥) → get_or (x ∷ l) i 0 ≡ b → ⊥
    go (inl e) i h k = absurd (omega (arith, rw (before, e) at h))
    go (inr e) zero h k = eqb-false x b e
    go (inr e) (suc i) h k = k i (omega (arith, rw (before, e) at h))

pub line_end_first : (s : List ℕ) (from : ℕ) → FirstEnd s from (line_end s from)
unfolding line_end
line_end_first s from = go (bool (leb from (length s)))
  where
    from_rest : (i : ℕ) → from ≤ i → from + (i - from) ≡ i
    from_rest i le = omega arith

    inside : from ≤ length s → FirstEnd s from (from + before newline (drop from s))
    inside h =
        record {
          within = omega (arith, simp length-drop at (before_le newline (drop from s)));
          there = λ lt. (omega arith, sym (get_or-drop from s (before newline (drop from s)) 0) ∙ found_at newline (drop from s) (rw (length-drop from s) (omega arith)));
          none_before = λ i le lt e. passed newline (drop from s) (i - from) (omega arith) (get_or-drop from s (i - from) 0 ∙ ap (λ (j : ℕ). get_or s j 0) (from_rest i le) ∙ e);
        }

    go : (leb from (length s) ≡ true) ⊎ (leb from (length s) ≡ false) → FirstEnd s from (line_end s from)
    go (inl e) = rw (line_end, e) (inside (leb-true from (length s) e))
    go (inr e) = rw (line_end, e) (record { within = omega arith; there = λ lt. absurd (omega arith); none_before = λ i le lt. absurd (omega (arith, leb-false from (length s) e)) })

pub first_end_only : (s : List ℕ) (from e : ℕ) → FirstEnd s from e → e ≡ line_end s from
first_end_only s from e h = elim (dec_lt e r) [ yes lt ↦ absurd (earlier lt) | no n ↦ elim (dec_lt r e) [ yes lt ↦ absurd (later lt) | no m ↦ omega arith ] ]
  where
    r : ℕ
    r = line_end s from

    first : FirstEnd s from r
    first = line_end_first s from

    earlier : e < r → ⊥
    earlier lt = let at_e = h.there (omega (arith, first.within)) in first.none_before e at_e.0 lt at_e.1

    later : r < e → ⊥
    later lt = let at_r = first.there (omega (arith, h.within)) in h.none_before r at_r.0 lt at_r.1
