-- Of a history of spans: index plus parallelism never falls (`frontier`), and what lies behind a position lies at least its parallelism
-- away (`distance`). Running together follows from the two.
use Rattle.std.specs.Prelude.{◌≡◌, List, ◌⊎◌, ℕ, suc, ◌+◌, ◌≤◌, ◌<◌}
use Rattle.std.proofs.Common.{ap, inl, inr, arith}
use Rattle.rules.specs.Guide.{Item, parallelism}
use Rattle.laws.specs.Width.{flat, width_flat, reach_mono, reach_low, reach_high, reach_next}
use Rattle.laws.specs.History.{len, start, start_suc, start_mono, lt_or_le}

-- a reader placed after (s, q) stands in the next span at that position or later, or beyond the next span
abbrev pub Behind : ℕ → ℕ → ℕ → ℕ → Type 0
Behind s q s' q' = (s + 2 ≤ s') ⊎ ((s' ≡ s + 1) × (q ≤ q'))

module _ (P : ℕ) (H : List (List Item)) (hP : 1 ≤ P) (cap : (s : ℕ) → len H s ≤ P + 1) where
  -- the parallelism at position q of span s
  unfoldable pub wide : ℕ → ℕ → ℕ
  wide s q = parallelism P (len H s) (len H (suc s)) q

  wide_flat : (s q : ℕ) → q < len H s → wide s q ≡ flat P (len H s) (len H (suc s)) q
  unfolding wide
  wide_flat s q h = width_flat P (len H s) (len H (suc s)) q hP h (cap s)

  -- index plus parallelism never falls
  pub frontier : (s q t r : ℕ) → q < len H s → r < len H t → start H s + q ≤ start H t + r → start H s + q + wide s q ≤ start H t + r + wide t r
  frontier s q t r hq hr h = rw (wide_flat s q hq, wide_flat t r hr) (go (lt_or_le s t) (lt_or_le t s))
    where
      go : (s < t) ⊎ (t ≤ s) → (t < s) ⊎ (s ≤ t)
          → start H s + q + flat P (len H s) (len H (suc s)) q ≤ start H t + r + flat P (len H t) (len H (suc t)) r
      go (inl i) j = past (lt_or_le (suc s) t)
        where
          past : (suc s < t) ⊎ (t ≤ suc s) → start H s + q + flat P (len H s) (len H (suc s)) q ≤ start H t + r + flat P (len H t) (len H (suc t)) r
          past (inl k) = omega (
            arith,
            start_suc H s,
            start_suc H (suc s),
            start_mono H (suc (suc s)) t k,
            reach_high P (len H s) (len H (suc s)) q hP hq,
            reach_low P (len H t)
                (len H (suc t)) r hP hr,
          )
          past (inr k) =
              let e : suc s ≡ t = omega arith in
              let l = reach_low P (len H t) (len H (suc t)) r hP hr in
              omega (arith, start_suc H s, reach_high P (len H s) (len H (suc s)) q hP hq, ap (start H) e, ap (len H) e)
      go (inr i) (inl j) = absurd (omega (arith, start_suc H t, start_mono H (suc t) s j))
      go (inr i) (inr j) =
          let e : t ≡ s = omega arith in
          let g = rw e at h in
          rw e (omega (arith, reach_mono P (len H s) (len H (suc s)) q hP hq r (omega arith)))

  -- the distance
  pub distance : (s q t r : ℕ) → q < len H s → r < len H t → Behind s q t r → start H s + q + wide s q ≤ start H t + r
  distance s q t r hq hr (inl b) =
      rw (wide_flat s q hq) (omega (arith, start_suc H s, start_suc H (suc s), start_mono H (suc (suc s)) t (omega arith), reach_high P (len H s) (len H (suc s)) q hP hq))
  distance s q t r hq hr (inr b) =
      let e : t ≡ suc s = omega arith in
      let k = rw e at hr in
      rw (wide_flat s q hq) (omega (arith, start_suc H s, ap (start H) e, reach_next P (len H s) (len H (suc s)) q hP hq r b.1 k))
