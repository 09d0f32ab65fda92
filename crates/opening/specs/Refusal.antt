-- The checks of opening by layers: first those of the guide alone, then the lengths of what there is for each place, then that of the waiting
-- storage, which the ascending profile does not ask for. Assumes nothing.
use Rattle.std.specs.Prelude.{◌≡◌, refl, List, [], ◌∷◌, Bool, true, false, cond, ◌||◌, ℕ, ◌≤◌, ◌<◌, ltb}
use Rattle.std.proofs.Common.{sym, ◌∙◌, ap, arith}
use borrow.Author.Tests.{lt-ltb, le-ltb, ltb-false}
use Rattle.laws.specs.Accepted.{verdict_head, or_false}
use Rattle.rules.specs.Limits.{most_parallelism, most_places}
use Rattle.rules.specs.Refusals as refusal
use Rattle.rules.specs.Checks.{Check, verdict, any, Sizes, spans_needed, waiting_needed, tally_needed, check_range, too_short, check_open}
use Rattle.rules.specs.Alone.{check_alone}
use Rattle.rules.specs.Ascending.{check_open as check_lean}

-- the number, where x and y say that P and V are outside their ranges, and b that a length is too short
abbrev checks : Bool → Bool → Bool → List Check
checks x y b = record { fails = x; number = refusal.out_of_range } ∷ (record { fails = y; number = refusal.out_of_range } ∷ (record { fails = b; number = refusal.too_short } ∷ []))

-- lengths more are looked at: c beside b
refused_before : (x y b c : Bool) → (verdict (checks x y b) ≡ 0 → ⊥) → verdict (checks x y b) ≡ verdict (checks x y (b || c))
unfolding verdict
refused_before true y b c h = refl
refused_before false true b c h = refl
refused_before false false true c h = refl
refused_before false false false c h = absurd (h refl)

looked_at : (x y b c : Bool) → 0 ≡ verdict (checks x y b) → cond {A = ℕ} c refusal.too_short 0 ≡ verdict (checks x y (b || c))
unfolding verdict
looked_at true y b c e = absurd (omega (arith, e))
looked_at false true b c e = absurd (omega (arith, e))
looked_at false false true c e = absurd (omega (arith, e))
looked_at false false false true e = refl
looked_at false false false false e = refl

-- the tests of lengths in another order
of_places : (s o r m l t : Bool) → (s || (o || (r || (m || (l || (t || false)))))) ≡ ((s || (o || (t || false))) || (r || (m || l)))
of_places true o r m l t = refl
of_places false true r m l t = refl
of_places false false true m l true = refl
of_places false false true m l false = refl
of_places false false false true l true = refl
of_places false false false true l false = refl
of_places false false false false true true = refl
of_places false false false false true false = refl
of_places false false false false false true = refl
of_places false false false false false false = refl

of_waiting : (s o r m l w t : Bool) → (s || (o || (r || (m || (l || (w || (t || false))))))) ≡ ((s || (o || (r || (m || (l || (t || false)))))) || w)
of_waiting true o r m l w t = refl
of_waiting false true r m l w t = refl
of_waiting false false true m l w t = refl
of_waiting false false false true l w t = refl
of_waiting false false false false true w t = refl
of_waiting false false false false false true true = refl
of_waiting false false false false false true false = refl
of_waiting false false false false false false true = refl
of_waiting false false false false false false false = refl

-- the lengths with no waiting storage
abbrev dry : Sizes → Sizes
dry s = record { spans = s.spans; order = s.order; rows = s.rows; marks = s.marks; locations = s.locations; waiting = 0; tally = s.tally }

module _ (P N : ℕ) (s : Sizes) where
  abbrev bad_p : Bool
  bad_p = ltb P 1 || ltb most_parallelism P

  abbrev bad_v : Bool
  bad_v = ltb N 1 || ltb most_places N

  abbrev short_guide : Bool
  short_guide = ltb s.spans (spans_needed P) || (ltb s.order N || (ltb s.tally (tally_needed P) || false))

  abbrev short_places : Bool
  short_places = ltb s.rows N || (ltb s.marks N || ltb s.locations N)

  abbrev short_lean : Bool
  short_lean = ltb s.spans (spans_needed P) || (ltb s.order N || (ltb s.rows N || (ltb s.marks N || (ltb s.locations N || (ltb s.tally (tally_needed P) || false)))))

  -- the checks without waiting storage, after those of the guide alone
  lean_is : verdict (checks bad_p bad_v (short_guide || short_places)) ≡ verdict (check_lean P N s)
  unfolding check_lean check_range any
  lean_is =
      ap (λ (b : Bool). verdict (checks bad_p bad_v b))
      (sym (of_places (ltb s.spans (spans_needed P)) (ltb s.order N) (ltb s.rows N) (ltb s.marks N) (ltb s.locations N) (ltb s.tally (tally_needed P))))

  pub guide_refuses : {n : ℕ} → n ≡ verdict (check_alone P N s.spans s.order s.tally) → (n ≡ 0 → ⊥) → n ≡ verdict (check_lean P N s)
  unfolding check_alone check_range any
  guide_refuses e h = e ∙ refused_before bad_p bad_v short_guide short_places (λ z. h (e ∙ z)) ∙ lean_is

  places_tell : 0 ≡ verdict (check_alone P N s.spans s.order s.tally) → {b : Bool} → short_places ≡ b → cond {A = ℕ} b refusal.too_short 0 ≡ verdict (check_lean P N s)
  unfolding check_alone check_range any
  places_tell e q = ap (λ (b : Bool). cond {A = ℕ} b refusal.too_short 0) (sym q) ∙ looked_at bad_p bad_v short_guide short_places e ∙ lean_is

  module _ (e : 0 ≡ verdict (check_alone P N s.spans s.order s.tally)) where
    pub short_rows : s.rows < N → refusal.too_short ≡ verdict (check_lean P N s)
    short_rows h = places_tell e {b = true} (rw (lt-ltb s.rows N h))

    module _ (a : N ≤ s.rows) where
      pub short_marks : s.marks < N → refusal.too_short ≡ verdict (check_lean P N s)
      short_marks h = places_tell e {b = true} (rw (le-ltb s.rows N a, lt-ltb s.marks N h))

      module _ (b : N ≤ s.marks) where
        pub short_locations : s.locations < N → refusal.too_short ≡ verdict (check_lean P N s)
        short_locations h = places_tell e {b = true} (rw (le-ltb s.rows N a, le-ltb s.marks N b, lt-ltb s.locations N h))

        pub places_suffice : N ≤ s.locations → 0 ≡ verdict (check_lean P N s)
        places_suffice h = places_tell e {b = false} (rw (le-ltb s.rows N a, le-ltb s.marks N b, le-ltb s.locations N h))

  -- all the checks, after those
  open_is : verdict (checks bad_p bad_v (short_lean || ltb s.waiting (waiting_needed N))) ≡ verdict (check_open P N s)
  unfolding check_open check_range too_short any
  open_is =
      ap (λ (b : Bool). verdict (checks bad_p bad_v b))
      (sym (of_waiting (ltb s.spans (spans_needed P)) (ltb s.order N) (ltb s.rows N) (ltb s.marks N) (ltb s.locations N) (ltb s.waiting (waiting_needed N)) (ltb s.tally (tally_needed P))))

  pub lean_refuses : {n : ℕ} → n ≡ verdict (check_lean P N (dry s)) → (n ≡ 0 → ⊥) → n ≡ verdict (check_open P N s)
  unfolding check_lean check_range any
  lean_refuses e h = e ∙ refused_before bad_p bad_v short_lean (ltb s.waiting (waiting_needed N)) (λ z. h (e ∙ z)) ∙ open_is

  waiting_tells : 0 ≡ verdict (check_lean P N (dry s)) → {b : Bool} → ltb s.waiting (waiting_needed N) ≡ b → cond {A = ℕ} b refusal.too_short 0 ≡ verdict (check_open P N s)
  unfolding check_lean check_range any
  waiting_tells e q = ap (λ (b : Bool). cond {A = ℕ} b refusal.too_short 0) (sym q) ∙ looked_at bad_p bad_v short_lean (ltb s.waiting (waiting_needed N)) e ∙ open_is

  module _ (e : 0 ≡ verdict (check_lean P N (dry s))) where
    pub short_waiting : s.waiting < waiting_needed N → refusal.too_short ≡ verdict (check_open P N s)
    short_waiting h = waiting_tells e (lt-ltb s.waiting (waiting_needed N) h)

    pub waiting_suffices : waiting_needed N ≤ s.waiting → 0 ≡ verdict (check_open P N s)
    waiting_suffices h = waiting_tells e (le-ltb s.waiting (waiting_needed N) h)

    -- what is multiplied is small
    pub few_places : N ≤ most_places
    unfolding check_lean check_range
    few_places =
        let a = verdict_head _ _ (sym e) (omega arith) in
        let b = verdict_head _ _ a.1 (omega arith) in
        ltb-false most_places N (or_false (ltb N 1) (ltb most_places N) b.0).1
