-- Where lists start in the pool: since no place is written twice, all outputs together are at most V, and an accepted registration has at most
-- 65,535 inputs; so the lists of one more start below 2^40. Assumes nothing.
use mathlib.Core.List.Memᴰ
use mathlib.Core.List.{List, [], ◌∷◌}
use Rattle.std.specs.Prelude.{true, false, ◌⊎◌, ◌≢◌, ◌≡◌, refl, ℕ, zero, suc, ◌+◌, ◌*◌, ◌^◌, ◌≤◌, ◌<◌, length, get_or, eqb}
use Rattle.std.proofs.lemmas.Bool.{false≢true}
use Rattle.std.proofs.Common.{inl, inr, sym, ap, ◌∙◌, eq-eqb}
use native.Mathlib.Omega.{arith}
use Rattle.rules.specs.Limits.{most_places, most_in_a_list}
use Rattle.rules.specs.Model.{Reg, Model, member, reg_of}
use Rattle.rules.specs.Checks.{repeats, pooled}
use Rattle.laws.specs.ModelBase.{In, bool_cases, member_in}
use Rattle.laws.specs.Accepted.{or_false}
use Rattle.laws.specs.GuideInv.{eq_or_ne}
use Rattle.laws.specs.Balance.{below}
use Rattle.laws.specs.Once.{one_of, one_other, one_le, below_one}
use Rattle.laws.specs.Limits.{AllBelow}
use Rattle.laws.specs.Sound.{Sound}

abbrev no_lists : Reg
no_lists = record { lane = 0; ins = []; outs = [] }

abbrev nth : List Reg → ℕ → Reg
nth as' r = get_or as' r no_lists

-- how often x stands in a list, and among the outputs of registrations
unfoldable times_in : ℕ → List ℕ → ℕ
times_in x [] = 0
times_in x (y ∷ l) = one_of y x + times_in x l

unfoldable times_out : ℕ → List Reg → ℕ
times_out x [] = 0
times_out x (a ∷ as') = times_in x a.outs + times_out x as'

unfoldable outs_of : List Reg → ℕ
outs_of [] = 0
outs_of (a ∷ as') = length a.outs + outs_of as'

below_add : (f g : ℕ → ℕ) (n : ℕ) → below (λ x. f x + g x) n ≡ below f n + below g n
unfolding below
below_add f g zero = refl
below_add f g (suc n) = omega (arith, below_add f g n)

below_few : (f : ℕ → ℕ) (n : ℕ) → ((x : ℕ) → f x ≤ 1) → below f n ≤ n
unfolding below
below_few f zero h = omega arith
below_few f (suc n) h = omega (arith, below_few f n h, h n)

below_zero : (n : ℕ) → below (λ x. 0) n ≡ 0
unfolding below
below_zero zero = refl
below_zero (suc n) = omega (arith, below_zero n)

module _ (N : ℕ) where
  list_sum : (l : List ℕ) → AllBelow N l → below (λ x. times_in x l) N ≡ length l
  unfolding times_in
  list_sum [] h = below_zero N
  list_sum (y ∷ l) h = omega (arith, below_add (one_of y) (λ x. times_in x l) N, below_one y N (h y (Memᴰ.head refl)), list_sum l (λ i z. h i (Memᴰ.tail z)))

  outs_sum : (as' : List Reg) → ((r : ℕ) → AllBelow N (nth as' r).outs) → below (λ x. times_out x as') N ≡ outs_of as'
  unfolding times_out outs_of
  outs_sum [] h = below_zero N
  outs_sum (a ∷ as') h = omega (arith, below_add (λ x. times_in x a.outs) (λ x. times_out x as') N, list_sum a.outs (h 0), outs_sum as' (λ r. h (suc r)))

not_in : (x : ℕ) (l : List ℕ) → member x l ≡ false → times_in x l ≡ 0
unfolding times_in member
not_in x [] h = refl
not_in x (y ∷ l) h = let z = or_false (eqb x y) (member x l) h in omega (arith, one_other y x (λ e. false≢true (sym z.0 ∙ eq-eqb x y (sym e))), not_in x l z.1)

once_in : (x : ℕ) (l : List ℕ) → repeats l ≡ false → times_in x l ≤ 1
unfolding times_in repeats
once_in x [] h = omega arith
once_in x (y ∷ l) h = let z = or_false (member y l) (repeats l) h in go (eq_or_ne y x) z (once_in x l z.1)
  where
    go : (y ≡ x) ⊎ (y ≢ x) → (member y l ≡ false) × (repeats l ≡ false) → times_in x l ≤ 1 → one_of y x + times_in x l ≤ 1
    go (inl e) z r = omega (arith, one_le y x, not_in x l (ap (λ (w : ℕ). member w l) (sym e) ∙ z.0))
    go (inr e) z r = omega (arith, one_other y x e)

none_out : (x : ℕ) (as' : List Reg) → ((r : ℕ) → In x (nth as' r).outs → ⊥) → times_out x as' ≡ 0
unfolding times_out
none_out x [] f = refl
none_out x (a ∷ as') f = omega (arith, here (bool_cases (member x a.outs)), none_out x as' (λ r y. f (suc r) y))
  where
    here : (member x a.outs ≡ true) ⊎ (member x a.outs ≡ false) → times_in x a.outs ≡ 0
    here (inl e) = absurd (f 0 (member_in x a.outs e))
    here (inr e) = not_in x a.outs e

once_out : (x : ℕ) (as' : List Reg) → ((r : ℕ) → repeats (nth as' r).outs ≡ false) → ((r t : ℕ) → In x (nth as' r).outs → In x (nth as' t).outs → r ≡ t) → times_out x as' ≤ 1
unfolding times_out
once_out x [] h f = omega arith
once_out x (a ∷ as') h f = go (bool_cases (member x a.outs)) (once_out x as' (λ r. h (suc r)) (λ r t y z. down (f (suc r) (suc t) y z)))
  where
    down : {r t : ℕ} → suc r ≡ suc t → r ≡ t
    down e = omega arith

    apart : {r : ℕ} → 0 ≡ suc r → ⊥
    apart e = omega arith

    go : (member x a.outs ≡ true) ⊎ (member x a.outs ≡ false) → times_out x as' ≤ 1 → times_in x a.outs + times_out x as' ≤ 1
    go (inl e) r = omega (arith, once_in x a.outs (h 0), none_out x as' (λ t y. apart (f 0 (suc t) (member_in x a.outs e) y)))
    go (inr e) r = omega (arith, not_in x a.outs e)

pooled_few : (as' : List Reg) → ((r : ℕ) → length (nth as' r).ins ≤ most_in_a_list) → pooled as' ≤ most_in_a_list * length as' + outs_of as'
unfolding pooled outs_of
pooled_few [] h = omega arith
pooled_few (a ∷ as') h = omega (arith, pooled_few as' (λ r. h (suc r)), h 0)

-- all outputs together are at most V, and the lists take at most 65,535 numbers for each registration and V besides
module _ (P N W : ℕ) (k : Model) (st : List ℕ) (s : Sound P N W k st) where
  outputs_few : outs_of k.adds ≤ N
  unfolding reg_of
  outputs_few =
      omega (
        arith,
        outs_sum N k.adds (λ r. (s.inside.lists r).outs_below),
        below_few (λ x. times_out x k.adds) N (λ x. once_out x k.adds (λ r. (s.inside.lists r).outs_once) (λ r t y z. s.apart.outs_apart x r t y z)),
      )

  numbers_few : pooled k.adds ≤ most_in_a_list * length k.adds + N
  unfolding reg_of
  numbers_few = omega (arith, outputs_few, pooled_few k.adds (λ r. (s.inside.lists r).ins_few))

  -- where the lists of one more registration start: below 2^40
  pub start_few : N ≤ most_places → length k.adds < N → pooled k.adds < 2 ^ 40
  start_few h g = omega (arith, numbers_few)
