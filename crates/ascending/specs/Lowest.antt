-- Under the profile the taken places are those below the lowest one, which moves by one with a set and by the count of its outputs with an
-- add. The idea: each of the two tracks and takes the next n places (`Grown`) and nothing else. Assumes nothing.
use Rattle.std.specs.Prelude.{◌≡◌, refl, List, [], ◌∷◌, ◌++◌, ◌⊎◌, ◌≢◌, true, false, ℕ, zero, suc, ◌+◌, ◌≤◌, ◌<◌, length, eqb}
use Rattle.std.proofs.Common.{sym, ◌∙◌, arith, eqb-true}
use mathlib.Core.List.Memᴰ
use Rattle.std.proofs.Math.Logic.{inl, inr}
use Rattle.std.proofs.lemmas.Bool.{false≢true, not-false}
use Rattle.std.proofs.Math.Bool.{or-true, or-false}
use Rattle.rules.specs.Model.{Reg, Model, tracked, member, marked, place_one, with_set, with_add}
use Rattle.rules.specs.Checks.{written_by, taken, check_closed, check_places}
use Rattle.rules.specs.Calls.{set, add}
use Rattle.rules.specs.Ascending.{lowest, set_breach, check_set, checks, answer}
use Rattle.laws.specs.History.{lt_or_le}
use Rattle.laws.specs.GuideInv.{eq_or_ne}
use Rattle.laws.specs.ModelBase.{In, bool_cases, or_cases, member_in, in_member, watermark_le, watermark_stops, watermark_tracked, tracked_cases, tracked_of, marked_append, spotted_marked}
use Rattle.laws.specs.CallInv.{reg_of_new}
use Rattle.laws.specs.Apart.{written_append, free_out}
use Rattle.laws.specs.Accepted.{verdict_head, set_passed}
use Rattle.laws.specs.Accepted as laws
use Rattle.laws.specs.Promised.{not_true, held_down}
use Rattle.laws.specs.Sound.{Sound}
use Rattle.ascending.specs.Claims.{places_from, Packed, Reached}
use Rattle.ascending.specs.Same.{accepted_by_all, add_passed}

-- a set is of the lowest place
pub set_at : (m x : ℕ) → set_breach m x ≡ false → x ≡ m
unfolding set_breach
set_at m x e = eqb-true x m (not-false (eqb x m) e)

pub set_lowest : (N W x : ℕ) (k : Model) → answer N W (set x) k ≡ 0 → x ≡ lowest N k
unfolding answer checks check_set check_closed check_places
set_lowest N W x k h =
    let a = verdict_head _ _ h (omega arith) in
    let b = verdict_head _ _ a.1 (omega arith) in
    let c = verdict_head _ _ b.1 (omega arith) in
    let d = verdict_head _ _ c.1 (omega arith) in
    set_at (lowest N k) x d.0

-- from the lowest place on nothing is taken
pub free_from : (N : ℕ) (k : Model) (x : ℕ) → Packed N k → lowest N k ≤ x → taken k x ≡ false
free_from N k x p h = not_true (taken k x) (λ e. omega (arith, p x e))

-- what is tracked is taken
pub tracked_taken : {P N W : ℕ} {st : List ℕ} (k : Model) → Sound P N W k st → (i : ℕ) → tracked k i ≡ true → taken k i ≡ true
unfolding taken
tracked_taken k s i h = go (bool_cases (taken k i)) (tracked_cases k i h)
  where
    go : (taken k i ≡ true) ⊎ (taken k i ≡ false) → In i k.sets ⊎ (marked i k.located ≡ true) → taken k i ≡ true
    go (inl e) y = e
    go (inr e) (inl y) = rw (in_member i k.sets y)
    go (inr e) (inr y) = absurd (free_out k i _ e (s.inv.located_ok i y).1)

-- ---- the next n places

-- i is one of the n places from m on
abbrev pub Among : ℕ → ℕ → ℕ → Type 0
Among m n i = (m ≤ i) × (i < m + n)

-- j tracks, and takes, what k does and the n places from its lowest on
record Grown (N n : ℕ) (k j : Model) : Type 0 where
  fits : lowest N k + n ≤ N
  tracks : (i : ℕ) → (tracked k i ≡ true) ⊎ Among (lowest N k) n i → tracked j i ≡ true
  tracks_only : (i : ℕ) → tracked j i ≡ true → (tracked k i ≡ true) ⊎ Among (lowest N k) n i
  takes_only : (i : ℕ) → taken j i ≡ true → (taken k i ≡ true) ⊎ Among (lowest N k) n i

-- the lowest place, by what is tracked below it and at it
lowest_is : (N m : ℕ) (k : Model) → m ≤ N → ((i : ℕ) → i < m → tracked k i ≡ true) → tracked k m ≡ false → lowest N k ≡ m
lowest_is N m k h below at = omega (arith, held_down N m k at, reaches (lt_or_le (lowest N k) m))
  where
    reaches : (lowest N k < m) ⊎ (m ≤ lowest N k) → m ≤ lowest N k
    reaches (inl l) = absurd (false≢true (sym (watermark_stops N k (omega arith)) ∙ below (lowest N k) l))
    reaches (inr l) = l

module _ {P N W n : ℕ} {k j : Model} (r : Reached P N W k) (g : Grown N n k j) where
  lowest_grown : lowest N j ≡ lowest N k + n
  lowest_grown =
      let m = lowest N k + n in
      lowest_is N m j g.fits (λ i h. g.tracks i (low i h (lt_or_le i (lowest N k)))) (not_true (tracked j m) (λ e. beyond (g.tracks_only m e)))
    where
      low : (i : ℕ) → i < lowest N k + n → (i < lowest N k) ⊎ (lowest N k ≤ i) → (tracked k i ≡ true) ⊎ Among (lowest N k) n i
      low i h (inl l) = inl (watermark_tracked N i k l)
      low i h (inr l) = inr (l, h)

      beyond : (tracked k (lowest N k + n) ≡ true) ⊎ Among (lowest N k) n (lowest N k + n) → ⊥
      beyond (inl e) = omega (arith, r.packed (lowest N k + n) (tracked_taken k r.between.sound (lowest N k + n) e))
      beyond (inr e) = omega (arith, e.1)

  packed_grown : Packed N j
  packed_grown x e = go (g.takes_only x e)
    where
      go : (taken k x ≡ true) ⊎ Among (lowest N k) n x → x < lowest N j
      go (inl y) = omega (arith, r.packed x y, lowest_grown)
      go (inr y) = omega (arith, y.1, lowest_grown)

-- ---- a set

set_grown : (N W x : ℕ) (k : Model) → answer N W (set x) k ≡ 0 → Grown N 1 k (with_set x k)
unfolding with_set taken
set_grown N W x k h =
    record {
      fits = omega (arith, l, (set_passed N W x k (accepted_by_all N W (set x) k h)).inside);
      tracks = λ i t. tracked_of (with_set x k) i (there i t);
      tracks_only = λ i e. back i (tracked_cases (with_set x k) i e);
      takes_only = λ i e. took i (or_cases (member i (x ∷ k.sets)) (written_by i k.adds) e);
    }
  where
    l : x ≡ lowest N k
    l = set_lowest N W x k h

    there : (i : ℕ) → (tracked k i ≡ true) ⊎ Among (lowest N k) 1 i → In i (x ∷ k.sets) ⊎ (marked i k.located ≡ true)
    there i (inr y) = let e : i ≡ x = omega (arith, l, y.0, y.1) in inl (Memᴰ.head e)
    there i (inl y) = old (tracked_cases k i y)
      where
        old : In i k.sets ⊎ (marked i k.located ≡ true) → In i (x ∷ k.sets) ⊎ (marked i k.located ≡ true)
        old (inl z) = inl (Memᴰ.tail z)
        old (inr z) = inr z

    -- x is the one place from the lowest on
    one : (i : ℕ) {A : Type 0} → (In i k.sets → A) → In i (x ∷ k.sets) → A ⊎ Among (lowest N k) 1 i
    one i {A} f y = go (Memᴰ.cases_cons y)
      where
        go : (i ≡ x) ⊎ In i k.sets → A ⊎ Among (lowest N k) 1 i
        go (inl e) = inr (omega (arith, l), omega (arith, l))
        go (inr e) = inl (f e)

    back : (i : ℕ) → In i (x ∷ k.sets) ⊎ (marked i k.located ≡ true) → (tracked k i ≡ true) ⊎ Among (lowest N k) 1 i
    back i (inl y) = one i (λ z. tracked_of k i (inl z)) y
    back i (inr y) = inl (tracked_of k i (inr y))

    took : (i : ℕ) → (member i (x ∷ k.sets) ≡ true) ⊎ (written_by i k.adds ≡ true) → (taken k i ≡ true) ⊎ Among (lowest N k) 1 i
    took i (inl y) = one i (λ z. rw (in_member i k.sets z)) (member_in i (x ∷ k.sets) y)
    took i (inr y) = inl (rw (y, or-true))

-- moves the lowest place by one
pub lowest_set : {P : ℕ} (N W x : ℕ) (k : Model) → Reached P N W k → answer N W (set x) k ≡ 0 → lowest N (with_set x k) ≡ lowest N k + 1
lowest_set N W x k r h = lowest_grown r (set_grown N W x k h)

pub packed_set : {P : ℕ} (N W x : ℕ) (k : Model) → Reached P N W k → answer N W (set x) k ≡ 0 → Packed N (with_set x k)
packed_set N W x k r h = packed_grown r (set_grown N W x k h)

-- ---- an add

pub places_in : (m n y : ℕ) → In y (places_from m n) → Among m n y
unfolding places_from
places_in m zero y h = absurd (Memᴰ.not-nil h)
places_in m (suc n) y h = go (Memᴰ.cases_cons h) (places_in (suc m) n y)
  where
    go : (y ≡ m) ⊎ In y (places_from (suc m) n) → (In y (places_from (suc m) n) → Among (suc m) n y) → Among m (suc n) y
    go (inl e) f = (omega arith, omega arith)
    go (inr e) f = let z = f e in (omega (arith, z.0), omega (arith, z.1))

in_places : (m n y : ℕ) → Among m n y → In y (places_from m n)
unfolding places_from
in_places m zero y h = absurd (omega (arith, h.0, h.1))
in_places m (suc n) y h = go (eq_or_ne y m) (in_places (suc m) n y)
  where
    go : (y ≡ m) ⊎ (y ≢ m) → (Among (suc m) n y → In y (places_from (suc m) n)) → In y (m ∷ places_from (suc m) n)
    go (inl e) f = Memᴰ.head e
    go (inr e) f = Memᴰ.tail (f (omega (arith, h.0), omega (arith, h.1)))

module _ (P N W lane : ℕ) (ins outs : List ℕ) (k : Model) (h : answer N W (add lane ins outs) k ≡ 0) where
  abbrev a : Reg
  a = record { lane = lane; ins = ins; outs = outs }

  -- k with the add, placed
  abbrev placed : Model
  placed = place_one P (length k.adds) (length k.adds) (with_add a k)

  outs_among : (i : ℕ) → In i outs → Among (lowest N k) (length outs) i
  outs_among i y = places_in (lowest N k) (length outs) i (rw (add_passed N W lane ins outs k h).outs_are at y)

  among_outs : (i : ℕ) → Among (lowest N k) (length outs) i → In i outs
  among_outs i y = rw (add_passed N W lane ins outs k h).outs_are (in_places (lowest N k) (length outs) i y)

  fits : lowest N k + length outs ≤ N
  fits = go (length outs) refl
    where
      inside : (i : ℕ) → In i outs → i < N
      inside = (laws.add_passed N W lane ins outs k (accepted_by_all N W (add lane ins outs) k h)).outs_inside

      go : (n : ℕ) → n ≡ length outs → lowest N k + length outs ≤ N
      go zero e = omega (arith, e, watermark_le N k)
      go (suc n) e = omega (arith, e, inside (lowest N k + n) (among_outs (lowest N k + n) (omega arith, omega (arith, e))))

  add_grown : Grown N (length outs) k placed
  unfolding place_one with_add taken written_by
  add_grown =
      record {
        fits = fits;
        tracks = λ i t. tracked_of placed i (there i t);
        tracks_only = λ i e. back i (tracked_cases placed i e);
        takes_only = λ i e. took i (or_cases (member i k.sets) (written_by i (k.adds ++ (a ∷ []))) e);
      }
    where
      there : (i : ℕ) → (tracked k i ≡ true) ⊎ Among (lowest N k) (length outs) i → In i k.sets ⊎ (marked i placed.located ≡ true)
      there i (inr y) = inr (rw (reg_of_new a k, marked_append k.located, spotted_marked _ outs i, in_member i outs (among_outs i y), or-true))
      there i (inl y) = old (tracked_cases k i y)
        where
          old : In i k.sets ⊎ (marked i k.located ≡ true) → In i k.sets ⊎ (marked i placed.located ≡ true)
          old (inl z) = inl z
          old (inr z) = inr (rw (marked_append k.located, z))

      back : (i : ℕ) → In i k.sets ⊎ (marked i placed.located ≡ true) → (tracked k i ≡ true) ⊎ Among (lowest N k) (length outs) i
      back i (inl y) = inl (tracked_of k i (inl y))
      back i (inr y) = new (or_cases (marked i k.located) (member i outs) (rw (reg_of_new a k, marked_append k.located, spotted_marked _ outs i) at y))
        where
          new : (marked i k.located ≡ true) ⊎ (member i outs ≡ true) → (tracked k i ≡ true) ⊎ Among (lowest N k) (length outs) i
          new (inl z) = inl (tracked_of k i (inr z))
          new (inr z) = inr (outs_among i (member_in i outs z))

      took : (i : ℕ) → (member i k.sets ≡ true) ⊎ (written_by i (k.adds ++ (a ∷ [])) ≡ true) → (taken k i ≡ true) ⊎ Among (lowest N k) (length outs) i
      took i (inl y) = inl (rw y)
      took i (inr y) = new (or_cases (written_by i k.adds) (member i outs) (rw (written_append i k.adds (a ∷ []), or-false (member i outs)) at y))
        where
          new : (written_by i k.adds ≡ true) ⊎ (member i outs ≡ true) → (taken k i ≡ true) ⊎ Among (lowest N k) (length outs) i
          new (inl z) = inl (rw (z, or-true))
          new (inr z) = inr (outs_among i (member_in i outs z))

-- moves it by the count of its outputs
pub lowest_add : (P N W lane : ℕ) (ins outs : List ℕ) (k : Model) → Reached P N W k → answer N W (add lane ins outs) k ≡ 0
    → lowest N (place_one P (length k.adds) (length k.adds) (with_add (record { lane = lane; ins = ins; outs = outs }) k)) ≡ lowest N k + length outs
lowest_add P N W lane ins outs k r h = lowest_grown r (add_grown P N W lane ins outs k h)

pub packed_add : (P N W lane : ℕ) (ins outs : List ℕ) (k : Model) → Reached P N W k → answer N W (add lane ins outs) k ≡ 0
    → Packed N (place_one P (length k.adds) (length k.adds) (with_add (record { lane = lane; ins = ins; outs = outs }) k))
packed_add P N W lane ins outs k r h = packed_grown r (add_grown P N W lane ins outs k h)
