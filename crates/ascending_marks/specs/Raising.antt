-- Looking for a repeated place: marks are raised place by place, and lowered again, so that they are as they were; and the marks of a
-- session are even. Assumes nothing.
use Rattle.std.specs.Prelude.{◌≡◌, refl, ◌⊎◌, List, [], ◌∷◌, ◌++◌, Bool, true, false, cond, ◌||◌, ℕ, ◌+◌, ◌-◌, ◌%◌, ◌≤◌, ◌<◌, eqb, length, get_or, set, take}
use Rattle.std.proofs.Common.{ap, ◌∙◌, inl, inr, arith, length-set, get_or-set_same, get_or-set_other, set-set, eq-eqb, ne_eqb}
use Rattle.std.proofs.lemmas.List.{set-get_or}
use Rattle.rules.specs.Model.{Located, member, marked}
use Rattle.rules.specs.Record.{mark_by}
use Rattle.rules.specs.Checks.{repeats}
use Rattle.laws.specs.ModelBase.{bool_cases}
use Rattle.laws.specs.Accepted.{or_false as or_split}
use Rattle.laws.specs.GuideInv.{eq_or_ne}
use Rattle.lists.specs.Part.{Below, below_at}
use Rattle.tracking.specs.Places.{Places}
use Rattle.taken.specs.Repeats.{take_next, take_last, repeats_snoc, repeats_met, repeats_last, below_first}
use Rattle.ascending_marks.specs.Raised.{Unraised, raised, Raises}
use Rattle.std.specs.Prelude.{ltb}
use Rattle.std.proofs.Common.{sym, take_all, ltb-true, ltb-false}

-- a mark is 0, that of a written place or that of a set one
pub even_marks : (N : ℕ) (sets : List ℕ) (ls : List Located) (marks locations : List ℕ) → Places N sets ls marks locations
    → (x : ℕ) → x < N → get_or marks x 0 % 2 ≡ 0
unfolding mark_by
even_marks N sets ls marks locations p x h = ap (λ (n : ℕ). n % 2) (p.at x h) ∙ each (member x sets) (marked x ls)
  where
    each : (a b : Bool) → mark_by a b % 2 ≡ 0
    each true b = refl
    each false true = refl
    each false false = refl

raised_snoc : (marks xs : List ℕ) (x : ℕ) → raised marks (xs ++ (x ∷ [])) ≡ set (raised marks xs) x (get_or (raised marks xs) x 0 + 1)
unfolding raised
raised_snoc marks [] x = refl
raised_snoc marks (y ∷ xs) x = raised_snoc (set marks y (get_or marks y 0 + 1)) xs x

raised_length : (marks xs : List ℕ) → length (raised marks xs) ≡ length marks
unfolding raised
raised_length marks [] = refl
raised_length marks (x ∷ xs) = raised_length (set marks x (get_or marks x 0 + 1)) xs ∙ length-set marks x (get_or marks x 0 + 1)

-- the mark of a place once those of xs, which has none twice, are raised
raised_mark : (marks : List ℕ) (v : ℕ) (xs : List ℕ) → v ≤ length marks → Below v xs → repeats xs ≡ false → (x : ℕ)
    → get_or (raised marks xs) x 0 ≡ get_or marks x 0 + cond {A = ℕ} (member x xs) 1 0
unfolding raised repeats member Below
raised_mark marks v [] long b e x = omega arith
raised_mark marks v (y ∷ xs) long b e x = raised_mark marks₁ v xs (omega (arith, length-set marks y n)) b.1 new.1 x ∙ go (eq_or_ne x y)
  where
    n : ℕ
    n = get_or marks y 0 + 1

    marks₁ : List ℕ
    marks₁ = set marks y n

    new : (member y xs ≡ false) × (repeats xs ≡ false)
    new = or_split (member y xs) (repeats xs) e

    go : (x ≡ y) ⊎ (x ≡ y → ⊥) → get_or marks₁ x 0 + cond {A = ℕ} (member x xs) 1 0 ≡ get_or marks x 0 + cond {A = ℕ} (eqb x y || member x xs) 1 0
    go (inl q) = rw (eq-eqb x y q) (rw (q, new.0, get_or-set_same marks y n 0 (omega (arith, b.0))) (omega arith))
    go (inr q) = rw (ne_eqb x y q, get_or-set_other marks y x n 0 q)

-- the loops at i: the first i are raised and do not repeat
pub record Raising (marks outs : List ℕ) (i : ℕ) (marks' : List ℕ) : Type 0 where
  pub most : i ≤ length outs
  pub single : repeats (take i outs) ≡ false
  pub is : marks' ≡ raised marks (take i outs)

pub raise_start : (marks outs : List ℕ) → Raising marks outs 0 marks
unfolding repeats raised
raise_start marks outs = record { most = omega arith; single = refl; is = refl }

pub raise_length : {marks outs : List ℕ} {i : ℕ} {marks' : List ℕ} → Raising marks outs i marks' → length marks' ≡ length marks
raise_length {marks} {outs} {i} g = ap length g.is ∙ raised_length marks (take i outs)

module _ {marks outs : List ℕ} (f : Unraised marks outs) {i : ℕ} {marks' : List ℕ} (g : Raising marks outs i marks') where
  found : (x : ℕ) → get_or marks' x 0 ≡ get_or marks x 0 + cond {A = ℕ} (member x (take i outs)) 1 0
  found x =
      ap (λ (l : List ℕ). get_or l x 0) g.is ∙ raised_mark marks f.v (take i outs) f.long (below_first f.v outs f.below i) g.single x

  -- the place reached has its mark
  pub raise_in : i < length outs → get_or outs i 0 < length marks'
  raise_in h = omega (arith, below_at f.v outs f.below i h, f.long, raise_length g)

  even_at : i < length outs → get_or marks (get_or outs i 0) 0 % 2 ≡ 0
  even_at h = f.even (get_or outs i 0) (below_at f.v outs f.below i h)

  pub raise_met : i < length outs → (get_or marks' (get_or outs i 0) 0 % 2 ≡ 0 → ⊥) → Raises marks outs i marks'
  raise_met h k = record { most = g.most; single = g.single; again = λ n. repeats_met outs i h (go (bool_cases (member (get_or outs i 0) (take i outs)))); is = g.is }
    where
      go : (member (get_or outs i 0) (take i outs) ≡ true) ⊎ (member (get_or outs i 0) (take i outs) ≡ false) → member (get_or outs i 0) (take i outs) ≡ true
      go (inl m) = m
      go (inr m) = absurd (k (omega (arith, rw m at (found (get_or outs i 0)), even_at h)))

  pub raise_next : i < length outs → get_or marks' (get_or outs i 0) 0 % 2 ≡ 0 → Raising marks outs (i + 1) (set marks' (get_or outs i 0) (get_or marks' (get_or outs i 0) 0 + 1))
  raise_next h k =
      record {
        most = omega arith;
        single = ap repeats (take_next outs i h) ∙ repeats_snoc (take i outs) (get_or outs i 0) ∙ rw (g.single, new (bool_cases (member (get_or outs i 0) (take i outs))));
        is = rw (take_next outs i h, raised_snoc marks (take i outs) (get_or outs i 0), g.is);
      }
    where
      new : (member (get_or outs i 0) (take i outs) ≡ true) ⊎ (member (get_or outs i 0) (take i outs) ≡ false) → member (get_or outs i 0) (take i outs) ≡ false
      new (inr m) = m
      new (inl m) = absurd (omega (arith, rw m at (found (get_or outs i 0)), even_at h))

  -- the last of those raised
  module _ (some : 0 < i) where
    abbrev x : ℕ
    x = get_or outs (i - 1) 0

    abbrev before : List ℕ
    before = raised marks (take (i - 1) outs)

    low : x < length before
    low = omega (arith, below_at f.v outs f.below (i - 1) (omega (arith, g.most)), f.long, raised_length marks (take (i - 1) outs))

    up : marks' ≡ set before x (get_or before x 0 + 1)
    up = g.is ∙ ap (raised marks) (take_last outs i some g.most) ∙ raised_snoc marks (take (i - 1) outs) x

    mark : get_or marks' x 0 ≡ get_or before x 0 + 1
    mark = ap (λ (l : List ℕ). get_or l x 0) up ∙ get_or-set_same before x (get_or before x 0 + 1) 0 low

    pub lower_in : (i - 1 < length outs) × (get_or outs (i - 1) 0 < length marks') × (1 ≤ get_or marks' (get_or outs (i - 1) 0) 0)
    lower_in = (omega (arith, g.most), omega (arith, low, raised_length marks (take (i - 1) outs), raise_length g), omega (arith, mark))

    pub lower_next : Raising marks outs (i - 1) (set marks' (get_or outs (i - 1) 0) (get_or marks' (get_or outs (i - 1) 0) 0 - 1))
    lower_next = record { most = omega (arith, g.most); single = (repeats_last outs i some g.most g.single).0; is = back }
      where
        down : get_or marks' x 0 - 1 ≡ get_or before x 0
        down = omega (arith, mark)

        back : set marks' x (get_or marks' x 0 - 1) ≡ before
        back =
            ap (set marks' x) down ∙ ap (λ (l : List ℕ). set l x (get_or before x 0)) up
            ∙ set-set before x (get_or before x 0 + 1) (get_or before x 0) ∙ set-get_or before x 0

pub lower_end : {marks outs : List ℕ} {i : ℕ} {marks' : List ℕ} → Raising marks outs i marks' → i ≤ 0 → marks' ≡ marks
unfolding raised
lower_end {marks} {outs} {i} g z = let e : i ≡ 0 = omega arith in g.is ∙ ap (λ (n : ℕ). raised marks (take n outs)) e

module _ {marks outs : List ℕ} (f : Unraised marks outs) {i : ℕ} {marks' : List ℕ} (g : Raising marks outs i marks') where
  pub raise_end : length outs ≤ i → Raises marks outs i marks'
  raise_end h = record { most = g.most; single = g.single; again = λ k. absurd (omega arith); is = g.is }

pub lower_start : {marks outs : List ℕ} {n : ℕ} {marks' : List ℕ} → Raises marks outs n marks' → Raising marks outs n marks'
lower_start r = record { most = r.most; single = r.single; is = r.is }

-- the answer: more than n of them, exactly where they repeat
pub repeats_is : {marks outs : List ℕ} {n : ℕ} {marks' : List ℕ} → Raises marks outs n marks' → ltb n (length outs) ≡ repeats outs
repeats_is {marks} {outs} {n} r = go (bool_cases (ltb n (length outs)))
  where
    go : (ltb n (length outs) ≡ true) ⊎ (ltb n (length outs) ≡ false) → ltb n (length outs) ≡ repeats outs
    go (inl e) = e ∙ sym (r.again (ltb-true n (length outs) e))
    go (inr e) = e ∙ sym r.single ∙ ap repeats (take_all n outs (ltb-false n (length outs) e))
