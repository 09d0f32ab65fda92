-- The laws by which the proofs of add's first checks go, which look at its lane and lists alone, one for each way out. Assumes nothing.
use Rattle.std.specs.Prelude.{◌≡◌, List, [], ◌∷◌, ◌++◌, Bool, ◌||◌, ◌⊎◌, ◌≢◌, ℕ, ◌≤◌, ◌<◌, length, ltb}
use Rattle.std.proofs.Math.Path.{refl}
use Rattle.std.proofs.Common.{◌∙◌, inl, inr, arith}
use mathlib.Core.List.Memᴰ
use Rattle.std.proofs.Math.Bool.{true, false, cond}
use Rattle.std.proofs.Math.Dec.{leb}
use borrow.Author.Tests.{leb-false, ltb-false, lt-ltb, le-ltb}
use Rattle.rules.specs.Limits.{most_lane, most_in_a_list, least_flagged}
use Rattle.rules.specs.Refusals as refusal
use Rattle.rules.specs.Checks.{Check, verdict, any, check_places}
use Rattle.laws.specs.ModelBase.{In, bool_cases}
use Rattle.laws.specs.Accepted.{verdict_head, any_false, or_false}
use Rattle.lists.specs.Part.{Below, below_at, at_below}
use Rattle.lists.specs.Arguments.{any_below, below_any}
use Rattle.lists.specs.Scan.{any_append}
use Rattle.checking.specs.Parts.{place_number, list_checks}

-- one has bit 62 or 63, or a place is N or more
abbrev any_flagged : List ℕ → Bool
any_flagged xs = any (λ x. leb least_flagged x) xs

abbrev any_unknown : ℕ → List ℕ → Bool
any_unknown N xs = any (λ x. leb N x) xs

-- there are more of them than a registration may have
abbrev pub many : List ℕ → List ℕ → Bool
many ins outs = ltb most_in_a_list (length ins) || ltb most_in_a_list (length outs)

-- the verdict by the five tests
lists_verdict : (closed : Bool) (N lane : ℕ) (ins outs : List ℕ) (a b c d : Bool) → ltb most_lane lane ≡ a → many ins outs ≡ b → any_flagged (ins ++ outs) ≡ c → any_unknown N (ins ++ outs) ≡ d
    → verdict
    (record { fails = closed; number = refusal.closed }
    ∷ (record { fails = a; number = refusal.unknown_lane }
    ∷ (record { fails = b; number = refusal.too_many_numbers } ∷ (record { fails = c; number = refusal.flagged_place } ∷ (record { fails = d; number = refusal.unknown_place } ∷ [])))))
    ≡ verdict (list_checks closed N lane ins outs)
unfolding list_checks check_places
lists_verdict closed N lane ins outs a b c d u x y z = rw (u, x, y, z)

-- the number of check-places
module _ (ins outs : List ℕ) where
  pub flagged_ins : any_flagged ins ≡ true → refusal.flagged_place ≡ place_number ins outs
  unfolding place_number
  flagged_ins h = rw (any_append (λ y. leb least_flagged y) ins outs, h)

  module _ (c : any_flagged ins ≡ false) where
    pub flagged_outs : any_flagged outs ≡ true → refusal.flagged_place ≡ place_number ins outs
    unfolding place_number
    flagged_outs h = rw (any_append (λ y. leb least_flagged y) ins outs, c, h)

    pub flagged_none : any_flagged outs ≡ false → refusal.unknown_place ≡ place_number ins outs
    unfolding place_number
    flagged_none h = rw (any_append (λ y. leb least_flagged y) ins outs, c, h)

-- places below N are below a greater bound
near : (N M : ℕ) (xs : List ℕ) → N ≤ M → any_unknown N xs ≡ false → any_unknown M xs ≡ false
near N M xs h e = below_any M xs (at_below M xs (λ j k. omega (arith, below_at N xs (any_below N xs e) j k)))

module _ (N lane : ℕ) (ins outs : List ℕ) {closed : Bool} where
  pub lists_closed : closed ≡ true → refusal.closed ≡ verdict (list_checks closed N lane ins outs)
  unfolding list_checks verdict
  lists_closed e = rw e refl

  pub lists_lane : closed ≡ false → most_lane < lane → refusal.unknown_lane ≡ verdict (list_checks closed N lane ins outs)
  unfolding list_checks verdict
  lists_lane e h = rw (e, lt-ltb most_lane lane h)

  module _ (e : closed ≡ false) (low : lane ≤ most_lane) where
    pub lists_many : many ins outs ≡ true → refusal.too_many_numbers ≡ verdict (list_checks closed N lane ins outs)
    unfolding list_checks verdict
    lists_many h = rw (e, le-ltb most_lane lane low, h)

    module _ (few : many ins outs ≡ false) where
      outside : any_unknown N (ins ++ outs) ≡ true → place_number ins outs ≡ verdict (list_checks closed N lane ins outs)
      unfolding verdict place_number
      outside h = rw e (two (any_flagged (ins ++ outs)) ∙ lists_verdict false N lane ins outs false false _ true (le-ltb most_lane lane low) few refl h)
        where
          two : (f : Bool) → cond {A = ℕ} f refusal.flagged_place refusal.unknown_place
              ≡ verdict (record { fails = f; number = refusal.flagged_place } ∷ (record { fails = true; number = refusal.unknown_place } ∷ []))
          two true = refl
          two false = refl

      pub outside_ins : any_unknown N ins ≡ true → (n : ℕ) → n ≡ place_number ins outs → n ≡ verdict (list_checks closed N lane ins outs)
      outside_ins h n q = q ∙ outside (any_append (λ y. leb N y) ins outs ∙ rw h)

      module _ (f : any_unknown N ins ≡ false) where
        pub outside_outs : any_unknown N outs ≡ true → (n : ℕ) → n ≡ place_number ins outs → n ≡ verdict (list_checks closed N lane ins outs)
        outside_outs h n q = q ∙ outside (any_append (λ y. leb N y) ins outs ∙ rw (f, h))

        pub lists_good : any_unknown N outs ≡ false → N ≤ least_flagged → 0 ≡ verdict (list_checks closed N lane ins outs)
        unfolding verdict
        lists_good h m =
            rw e
            (lists_verdict false N lane ins outs false false false false (le-ltb most_lane lane low) few
            (any_append (λ y. leb least_flagged y) ins outs ∙ rw (near N least_flagged ins m f, near N least_flagged outs m h))
            (any_append (λ y. leb N y) ins outs ∙ rw (f, h)))

-- no check has the number 0
abbrev Numbered : List Check → Type 0
Numbered [] = Unit {0}
Numbered (c ∷ cs) = (c.number ≢ 0) × Numbered cs

-- a list of checks after one that passes
pub verdict_rest : (xs ys : List Check) → Numbered xs → verdict xs ≡ 0 → verdict (xs ++ ys) ≡ verdict ys
unfolding verdict
verdict_rest [] ys n h = refl
verdict_rest (c ∷ xs) ys n h = go (bool_cases c.fails) (λ z. verdict_rest xs ys n.1 z)
  where
    go : (c.fails ≡ true) ⊎ (c.fails ≡ false) → (verdict xs ≡ 0 → verdict (xs ++ ys) ≡ verdict ys) → verdict ((c ∷ xs) ++ ys) ≡ verdict ys
    go (inl e) r = absurd (n.0 (rw (e, verdict) at h))
    go (inr e) r = rw (e, verdict) (r (rw (e, verdict) at h))

pub lists_numbered : (closed : Bool) (N lane : ℕ) (ins outs : List ℕ) → Numbered (list_checks closed N lane ins outs)
unfolding list_checks check_places
lists_numbered closed N lane ins outs = (omega arith, (omega arith, (omega arith, (omega arith, (omega arith, tt)))))

-- lists that pass their checks are short and of places below N
pub lists_passed : (closed : Bool) (N lane : ℕ) (ins outs : List ℕ) → verdict (list_checks closed N lane ins outs) ≡ 0 → (length ins ≤ most_in_a_list) × Below N outs
unfolding list_checks check_places Below
lists_passed closed N lane ins outs h =
    let a = verdict_head _ _ h (omega arith) in
    let l = verdict_head _ _ a.1 (omega arith) in
    let b = verdict_head _ _ l.1 (omega arith) in
    let c = verdict_head _ _ b.1 (omega arith) in
    let d = verdict_head _ _ c.1 (omega arith) in
    (ltb-false most_in_a_list (length ins) (or_false _ _ b.0).0, below outs (λ i y. leb-false N i (any_false (λ z. leb N z) (ins ++ outs) i d.0 (Memᴰ.append_right ins y))))
  where
    below : (xs : List ℕ) → ((i : ℕ) → In i xs → i < N) → Below N xs
    below [] z = tt
    below (x ∷ xs) z = (z x (Memᴰ.head refl), below xs (λ i y. z i (Memᴰ.tail y)))
