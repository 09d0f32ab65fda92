-- Looking for a repeated place: flags are raised place by place, and lowered again, so that storage is as it was. Assumes nothing.
use Rattle.std.specs.Prelude.{◌≡◌, refl, ◌⊎◌, List, [], ◌∷◌, ◌++◌, true, false, cond, ◌||◌, ℕ, ◌+◌, ◌-◌, ◌≤◌, ◌<◌, eqb, length, get_or, take}
use Rattle.std.proofs.Common.{ap, ◌∙◌, inl, inr, arith, eq-eqb, ne_eqb}
use Rattle.rules.specs.Model.{member}
use Rattle.rules.specs.Checks.{repeats, waiting_needed}
use Rattle.laws.specs.ModelBase.{bool_cases}
use Rattle.laws.specs.Accepted.{or_false as or_split}
use Rattle.laws.specs.GuideInv.{eq_or_ne}
use Rattle.lists.specs.Part.{Below, below_at}
use Rattle.taken.specs.Flag.{flag_at, with_flag, flag_length, flag_same, flag_other, flag_twice, flag_own}
use Rattle.taken.specs.Flags.{raised, Flagged, Raises}
use Rattle.taken.specs.Repeats.{take_next, take_last, repeats_snoc, repeats_met, repeats_last, below_first}
use Rattle.std.specs.Prelude.{ltb}
use Rattle.std.proofs.Common.{sym, take_all, ltb-true, ltb-false}

raised_snoc : (w : List ℕ) (v : ℕ) (xs : List ℕ) (x : ℕ) → raised w v (xs ++ (x ∷ [])) ≡ with_flag (raised w v xs) v x (flag_at (raised w v xs) v x + 2)
unfolding raised
raised_snoc w v [] x = refl
raised_snoc w v (y ∷ xs) x = raised_snoc (with_flag w v y (flag_at w v y + 2)) v xs x

raised_length : (w : List ℕ) (v : ℕ) (xs : List ℕ) → length (raised w v xs) ≡ length w
unfolding raised
raised_length w v [] = refl
raised_length w v (x ∷ xs) = raised_length (with_flag w v x (flag_at w v x + 2)) v xs ∙ flag_length w v x (flag_at w v x + 2)

-- the flag of a place once those of xs, which has none twice, are raised
raised_flag : (w : List ℕ) (v : ℕ) (xs : List ℕ) → waiting_needed v ≤ length w → Below v xs → repeats xs ≡ false → (x : ℕ)
    → flag_at (raised w v xs) v x ≡ flag_at w v x + cond {A = ℕ} (member x xs) 2 0
unfolding raised repeats member Below
raised_flag w v [] long b e x = omega arith
raised_flag w v (y ∷ xs) long b e x = raised_flag w₁ v xs (omega (arith, flag_length w v y n)) b.1 new.1 x ∙ go (eq_or_ne x y)
  where
    n : ℕ
    n = flag_at w v y + 2

    w₁ : List ℕ
    w₁ = with_flag w v y n

    new : (member y xs ≡ false) × (repeats xs ≡ false)
    new = or_split (member y xs) (repeats xs) e

    go : (x ≡ y) ⊎ (x ≡ y → ⊥) → flag_at w₁ v x + cond {A = ℕ} (member x xs) 2 0 ≡ flag_at w v x + cond {A = ℕ} (eqb x y || member x xs) 2 0
    go (inl q) = rw (eq-eqb x y q) (rw (q, new.0, flag_same w v y n b.0 long) (omega arith))
    go (inr q) = rw (ne_eqb x y q, flag_other w v y n x q)

-- the loops at i: the first i are raised and do not repeat
pub record Raising (w : List ℕ) (v : ℕ) (xs : List ℕ) (i : ℕ) (w' : List ℕ) : Type 0 where
  pub most : i ≤ length xs
  pub single : repeats (take i xs) ≡ false
  pub is : w' ≡ raised w v (take i xs)

pub raise_start : (w : List ℕ) (v : ℕ) (xs : List ℕ) → Raising w v xs 0 w
unfolding repeats raised
raise_start w v xs = record { most = omega arith; single = refl; is = refl }

pub raise_length : {w : List ℕ} {v : ℕ} {xs : List ℕ} {i : ℕ} {w' : List ℕ} → Raising w v xs i w' → length w' ≡ length w
raise_length {w} {v} {xs} {i} g = ap length g.is ∙ raised_length w v (take i xs)

module _ {w : List ℕ} {v : ℕ} {xs : List ℕ} (f : Flagged w v xs) {i : ℕ} {w' : List ℕ} (g : Raising w v xs i w') where
  found : (x : ℕ) → flag_at w' v x ≡ flag_at w v x + cond {A = ℕ} (member x (take i xs)) 2 0
  found x = ap (λ (l : List ℕ). flag_at l v x) g.is ∙ raised_flag w v (take i xs) f.flags.long (below_first v xs f.below i) g.single x

  -- the place reached has its flag in storage
  pub raise_in : i < length xs → (get_or xs i 0 < v) × (waiting_needed v ≤ length w')
  raise_in h = (below_at v xs f.below i h, omega (arith, f.flags.long, raise_length g))

  pub raise_met : i < length xs → 1 < flag_at w' v (get_or xs i 0) → Raises w v xs i w'
  raise_met h k = record { most = g.most; single = g.single; again = λ n. repeats_met xs i h (go (bool_cases (member (get_or xs i 0) (take i xs)))); is = g.is }
    where
      go : (member (get_or xs i 0) (take i xs) ≡ true) ⊎ (member (get_or xs i 0) (take i xs) ≡ false) → member (get_or xs i 0) (take i xs) ≡ true
      go (inl m) = m
      go (inr m) = absurd (omega (arith, rw m at (found (get_or xs i 0)), f.flags.plain (get_or xs i 0) (below_at v xs f.below i h)))

  pub raise_next : i < length xs → flag_at w' v (get_or xs i 0) ≤ 1 → Raising w v xs (i + 1) (with_flag w' v (get_or xs i 0) (flag_at w' v (get_or xs i 0) + 2))
  raise_next h k =
      record {
        most = omega arith;
        single = ap repeats (take_next xs i h) ∙ repeats_snoc (take i xs) (get_or xs i 0) ∙ rw (g.single, new (bool_cases (member (get_or xs i 0) (take i xs))));
        is = rw (take_next xs i h, raised_snoc w v (take i xs) (get_or xs i 0), g.is);
      }
    where
      new : (member (get_or xs i 0) (take i xs) ≡ true) ⊎ (member (get_or xs i 0) (take i xs) ≡ false) → member (get_or xs i 0) (take i xs) ≡ false
      new (inr m) = m
      new (inl m) = absurd (omega (arith, rw m at (found (get_or xs i 0))))

  -- the last of those raised
  module _ (some : 0 < i) where
    abbrev x : ℕ
    x = get_or xs (i - 1) 0

    low : x < v
    low = below_at v xs f.below (i - 1) (omega (arith, g.most))

    single : repeats (take (i - 1) xs) ≡ false
    single = (repeats_last xs i some g.most g.single).0

    abbrev before : List ℕ
    before = raised w v (take (i - 1) xs)

    long : waiting_needed v ≤ length before
    long = omega (arith, f.flags.long, raised_length w v (take (i - 1) xs))

    up : w' ≡ with_flag before v x (flag_at before v x + 2)
    up = g.is ∙ ap (raised w v) (take_last xs i some g.most) ∙ raised_snoc w v (take (i - 1) xs) x

    flag : flag_at w' v x ≡ flag_at before v x + 2
    flag = ap (λ (l : List ℕ). flag_at l v x) up ∙ flag_same before v x (flag_at before v x + 2) low long

    pub lower_in : (i - 1 < length xs) × (get_or xs (i - 1) 0 < v) × (waiting_needed v ≤ length w') × (2 ≤ flag_at w' v (get_or xs (i - 1) 0))
    lower_in = (omega (arith, g.most), low, omega (arith, f.flags.long, raise_length g), omega (arith, flag))

    pub lower_next : Raising w v xs (i - 1) (with_flag w' v (get_or xs (i - 1) 0) (flag_at w' v (get_or xs (i - 1) 0) - 2))
    lower_next = record { most = omega (arith, g.most); single = single; is = back }
      where
        down : flag_at w' v x - 2 ≡ flag_at before v x
        down = omega (arith, flag)

        back : with_flag w' v x (flag_at w' v x - 2) ≡ before
        back =
            ap (with_flag w' v x) down ∙ ap (λ (l : List ℕ). with_flag l v x (flag_at before v x)) up
            ∙ flag_twice before v x (flag_at before v x + 2) (flag_at before v x) ∙ flag_own before v x

pub lower_end : {w : List ℕ} {v : ℕ} {xs : List ℕ} {i : ℕ} {w' : List ℕ} → Raising w v xs i w' → i ≤ 0 → w' ≡ w
unfolding raised
lower_end {w} {v} {xs} {i} g z = let e : i ≡ 0 = omega arith in g.is ∙ ap (λ (n : ℕ). raised w v (take n xs)) e

module _ {w : List ℕ} {v : ℕ} {xs : List ℕ} (f : Flagged w v xs) {i : ℕ} {w' : List ℕ} (g : Raising w v xs i w') where
  pub raise_end : length xs ≤ i → Raises w v xs i w'
  raise_end h = record { most = g.most; single = g.single; again = λ k. absurd (omega arith); is = g.is }

pub lower_start : {w : List ℕ} {v : ℕ} {xs : List ℕ} {n : ℕ} {w' : List ℕ} → Raises w v xs n w' → Raising w v xs n w'
lower_start r = record { most = r.most; single = r.single; is = r.is }

-- the answer: more than n of them, exactly where they repeat
pub repeats_is : {w : List ℕ} {v : ℕ} {xs : List ℕ} {n : ℕ} {w' : List ℕ} → Raises w v xs n w' → ltb n (length xs) ≡ repeats xs
repeats_is {w} {v} {xs} {n} r = go (bool_cases (ltb n (length xs)))
  where
    go : (ltb n (length xs) ≡ true) ⊎ (ltb n (length xs) ≡ false) → ltb n (length xs) ≡ repeats xs
    go (inl e) = e ∙ sym (r.again (ltb-true n (length xs) e))
    go (inr e) = e ∙ sym r.single ∙ ap repeats (take_all n xs (ltb-false n (length xs) e))
