-- The tally: each appended entry adds 1 at its parallelism, so each count is that of the entries with it, and their sum is written.
use Rattle.std.specs.Prelude.{◌≡◌, refl, List, [], ◌∷◌, ◌⊎◌, ◌≢◌, ℕ, zero, suc, ◌+◌, ◌≤◌, ◌<◌, length, get_or, set, replicate}
use Rattle.std.proofs.Common.{ap, inl, inr, arith, length-set, get_or-set_same, get_or-set_other}
use Rattle.std.proofs.lemmas.List.{length-replicate}
use Rattle.rules.specs.Guide.{Entry, tallied, tally}
use Rattle.rules.specs.Summary.{sum}
use Rattle.laws.specs.GuideInv.{eq_or_ne}
use Rattle.laws.specs.Once.{one_of, one_same, one_other}
use Rattle.laws.specs.Order.{no_written}

-- how many entries have parallelism p
unfoldable pub having : ℕ → List Entry → ℕ
having p [] = 0
having p (x ∷ l) = one_of p x.parallelism + having p l

abbrev AtMost : ℕ → List Entry → Type 0
AtMost P l = (j : ℕ) → j < length l → (get_or l j no_written).parallelism ≤ P

sum_set : (t : List ℕ) (i : ℕ) → i < length t → sum (set t i (get_or t i 0 + 1)) ≡ sum t + 1
unfolding sum
sum_set [] i h = absurd (omega arith)
sum_set (n ∷ t) zero h = omega arith
sum_set (n ∷ t) (suc i) h = omega (arith, sum_set t i (omega arith))

sum_zeros : (n : ℕ) → sum (replicate n 0) ≡ 0
unfolding sum
sum_zeros zero = refl
sum_zeros (suc n) = omega (arith, sum_zeros n)

zero_at : (n i : ℕ) → get_or {A = ℕ} (replicate n 0) i 0 ≡ 0
zero_at zero i = refl
zero_at (suc n) zero = refl
zero_at (suc n) (suc i) = zero_at n i

count_sum : (P : ℕ) (l : List Entry) (t : List ℕ) → length t ≡ P + 1 → AtMost P l → sum (tallied t l) ≡ sum t + length l
unfolding tallied
count_sum P [] t h f = omega arith
count_sum P (x ∷ l) t h f =
    omega (
      arith,
      count_sum P l (set t x.parallelism (get_or t x.parallelism 0 + 1)) (rw length-set h) (λ j i. f (suc j) (omega arith)),
      sum_set t x.parallelism
          (omega (arith, f 0 (omega arith))),
    )

count_each : (P p : ℕ) (l : List Entry) (t : List ℕ) → length t ≡ P + 1 → AtMost P l → get_or (tallied t l) p 0 ≡ get_or t p 0 + having p l
unfolding tallied having
count_each P p [] t h f = omega arith
count_each P p (x ∷ l) t h f =
    omega (arith, count_each P p l (set t x.parallelism (get_or t x.parallelism 0 + 1)) (rw length-set h) (λ j i. f (suc j) (omega arith)), one (eq_or_ne p x.parallelism))
  where
    one : (p ≡ x.parallelism) ⊎ (p ≢ x.parallelism) → get_or (set t x.parallelism (get_or t x.parallelism 0 + 1)) p 0 ≡ get_or t p 0 + one_of p x.parallelism
    one (inl e) = rw (one_same p x.parallelism e, ap (λ i. get_or t i 0) e, ap (λ i. get_or (set t x.parallelism (get_or t x.parallelism 0 + 1)) i 0) e)
        (get_or-set_same t x.parallelism _ 0 (omega (arith, f 0 (omega arith))))
    one (inr e) = omega (arith, one_other p x.parallelism e, get_or-set_other t x.parallelism p (get_or t x.parallelism 0 + 1) 0 e)

module _ (P : ℕ) (l : List Entry) (f : AtMost P l) where
  pub tally_sum : sum (tally P l) ≡ length l
  unfolding tally
  tally_sum = omega (arith, count_sum P l (replicate (P + 1) 0) (length-replicate (P + 1) 0) f, sum_zeros (P + 1))

  pub tally_each : (p : ℕ) → get_or (tally P l) p 0 ≡ having p l
  unfolding tally
  tally_each p = omega (arith, count_each P p l (replicate (P + 1) 0) (length-replicate (P + 1) 0) f, zero_at (P + 1) p)
