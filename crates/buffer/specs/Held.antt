-- How many entries the window holds, the sum of its lengths: with one entry more, after the release of span 0, and how many they are at
-- most. Assumes nothing.
use Rattle.std.specs.Prelude.{◌≡◌, refl, List, [], ◌∷◌, ◌++◌, ℕ, zero, suc, ◌+◌, ◌*◌, ◌≤◌, ◌<◌, length, get_or, set, drop}
use Rattle.std.proofs.Common.{ap, ◌∙◌, suc-mul, add_comm, arith}
use Rattle.rules.specs.Summary.{sum}
use Rattle.buffer.specs.declared.Guide.{Guide}
use Rattle.buffer.specs.View.{length_of, Most, Laid}

-- one entry more in span i
pub sum_longer : (ls : List ℕ) (i : ℕ) → i < length ls → sum (set ls i (get_or ls i 0 + 1)) ≡ sum ls + 1
unfolding sum
sum_longer [] i h = absurd (omega arith)
sum_longer (l ∷ ls) zero h = omega arith
sum_longer (l ∷ ls) (suc i) h = omega (arith, sum_longer ls i (omega arith))

-- span 0 gone, and an empty span behind the others
sum_snoc : (ls : List ℕ) → sum (ls ++ (0 ∷ [])) ≡ sum ls
unfolding sum
sum_snoc [] = refl
sum_snoc (l ∷ ls) = ap (λ n. l + n) (sum_snoc ls)

pub sum_rotated : (ls : List ℕ) → 1 ≤ length ls → get_or ls 0 0 + sum (drop 1 ls ++ (0 ∷ [])) ≡ sum ls
unfolding sum
sum_rotated [] h = absurd (omega arith)
sum_rotated (l ∷ ls) h = ap (λ n. l + n) (sum_snoc ls)

sum_most : (n : ℕ) (ls : List ℕ) → Most n ls → sum ls ≤ length ls * n
unfolding sum Most
sum_most n [] h = omega arith
sum_most n (l ∷ ls) h =
    let step : suc (length ls) * n ≡ n + length ls * n = suc-mul (length ls) n ∙ add_comm (length ls * n) n in
    rw step (omega (arith, h.0, sum_most n ls h.1))

module _ (g : Guide) (s : List ℕ) (k : Laid g s) where
  -- they fit 32 bits by themselves
  pub held_few : g.held ≤ 32 * (g.p + 1)
  held_few = omega (arith, k.held_is, rw k.lens_many at (sum_most (g.p + 1) g.window.lens k.short))

  -- span 0's are among them
  pub first_held : length_of g 0 ≤ g.held
  first_held = omega (arith, k.held_is, sum_rotated g.window.lens (omega (arith, k.lens_many)))
