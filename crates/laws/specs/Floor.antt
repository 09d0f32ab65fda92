-- The floor of an order (document 02, M-103). The entries whose index plus P is at most the order's length are its first length + 1 - P,
-- at most all of them (`first_ones`). The floor is the parallelism of one of them, and none of them has a smaller one; where there is none
-- it is 0 (`floor_is`), and no other number is so (`floor_only`). After every list of calls it is 0 where the order has fewer than P
-- entries, else from 1 to P (`floor_of_calls`).
-- Assumes nothing.
use Rattle.std.specs.Prelude.{◌≡◌, refl, Bool, true, false, ◌⊎◌, ℕ, zero, suc, ◌+◌, ◌-◌, ◌≤◌, ◌<◌, take, get_or, leb}
use Rattle.std.proofs.Math.Path.{sym, ap}
use Rattle.std.proofs.Common.{◌∙◌, arith, length-take, get_or-take, leb-true, leb-false}
use mathlib.Core.List.{List, [], ◌∷◌}
use Rattle.std.proofs.Math.Logic.{inl, inr}
use Rattle.std.proofs.Math.ListN.{length}
use Rattle.std.proofs.Math.Seq.{take-nil}
use Rattle.rules.specs.Guide.{Entry}
use Rattle.rules.specs.Model.{Model, initial}
use Rattle.rules.specs.Calls.{Call, run}
use Rattle.rules.specs.Listing.{least, before_run_out, floor}
use Rattle.laws.specs.History.{lt_or_le}
use Rattle.laws.specs.Order.{no_written, written}
use Rattle.laws.specs.DemandProof.{demand_3}

none_after : (P n i : ℕ) (es : List Entry) → n < i + P → before_run_out P n i es ≡ []
unfolding before_run_out
none_after P n i [] h = refl
none_after P n i (e ∷ es) h = go (leb (i + P) n) refl (none_after P n (suc i) es (omega arith))
  where
    go : (t : Bool) → leb (i + P) n ≡ t → before_run_out P n (suc i) es ≡ [] → before_run_out P n i (e ∷ es) ≡ []
    go true f r = absurd (omega (arith, leb-true (i + P) n f))
    go false f r = rw (before_run_out, f) r

first_from : (P n i : ℕ) (es : List Entry) → before_run_out P n i es ≡ take (n + 1 - P - i) es
unfolding before_run_out
first_from P n i [] = sym (take-nil (n + 1 - P - i))
first_from P n i (e ∷ es) = go (leb (i + P) n) refl (first_from P n (suc i) es)
  where
    go : (t : Bool) → leb (i + P) n ≡ t → before_run_out P n (suc i) es ≡ take (n + 1 - P - suc i) es → before_run_out P n i (e ∷ es) ≡ take (n + 1 - P - i) (e ∷ es)
    go true f r =
        let k : n + 1 - P - i ≡ suc (n + 1 - P - suc i) = omega (arith, leb-true (i + P) n f) in
        rw (before_run_out, f, k) (ap (λ (l : List Entry). e ∷ l) r)
    go false f r =
        let late = leb-false (i + P) n f in
        let k : n + 1 - P - i ≡ 0 = omega (arith, late) in
        rw (before_run_out, f, k) (none_after P n (suc i) es (omega (arith, late)))

-- the entries that count are the first ones
pub first_ones : (P : ℕ) (order : List Entry) → before_run_out P (length order) 0 order ≡ take (length order + 1 - P) order
first_ones P order =
    let e : length order + 1 - P - 0 ≡ length order + 1 - P = omega arith in
    first_from P (length order) 0 order ∙ ap (λ (m : ℕ). take m order) e

-- the parallelism at an index
abbrev pub parallelism_at : List Entry → ℕ → ℕ
parallelism_at order j = (get_or order j no_written).parallelism

-- the smallest of some entries: none is smaller, and one has it
least_below : (es : List Entry) (j : ℕ) → j < length es → least es ≤ parallelism_at es j
unfolding least
least_below [] j h = absurd (omega arith)
least_below (e ∷ []) zero h = omega arith
least_below (e ∷ []) (suc j) h = absurd (omega arith)
least_below (e ∷ (f ∷ es)) zero h = omega arith
least_below (e ∷ (f ∷ es)) (suc j) h = omega (arith, least_below (f ∷ es) j (omega arith))

least_one : (e : Entry) (es : List Entry) → (j : ℕ) × ((j < length (e ∷ es)) × (least (e ∷ es) ≡ parallelism_at (e ∷ es) j))
unfolding least
least_one e [] = (0, (omega arith, refl))
least_one e (f ∷ es) = go (lt_or_le (least (f ∷ es)) e.parallelism) (least_one f es)
  where
    go : (least (f ∷ es) < e.parallelism) ⊎ (e.parallelism ≤ least (f ∷ es))
        → (j : ℕ) × ((j < length (f ∷ es)) × (least (f ∷ es) ≡ parallelism_at (f ∷ es) j))
        → (j : ℕ) × ((j < length (e ∷ (f ∷ es))) × (least (e ∷ (f ∷ es)) ≡ parallelism_at (e ∷ (f ∷ es)) j))
    go (inl lt) (j, (h, q)) = (suc j, (omega (arith, h), omega (arith, lt, q)))
    go (inr le) r = (0, (omega arith, omega (arith, le)))

-- entry j is one of those whose index plus P is at most the order's length
abbrev pub Counts : ℕ → List Entry → ℕ → Type 0
Counts P order j = (j < length order) × (j + P ≤ length order)

-- f is the parallelism of one of these, or there is none and f is 0
abbrev pub HasOne : ℕ → List Entry → ℕ → Type 0
HasOne P order f = ((j : ℕ) × (Counts P order j × (f ≡ parallelism_at order j))) ⊎ (((j : ℕ) → Counts P order j → ⊥) × (f ≡ 0))

-- f is the smallest parallelism among these, and 0 where there is none
pub record IsFloor (P : ℕ) (order : List Entry) (f : ℕ) : Type 0 where
  pub below : (j : ℕ) → Counts P order j → f ≤ parallelism_at order j
  pub one : HasOne P order f

module _ (P : ℕ) (order : List Entry) where
  -- so many from the first on count, or all where there are fewer
  abbrev counted : ℕ
  counted = length order + 1 - P

  abbrev firsts : List Entry
  firsts = take counted order

  counts_in : (j : ℕ) → Counts P order j → j < length firsts
  counts_in j c = omega (arith, length-take counted order, c.0, c.1)

  in_counts : (j : ℕ) → j < length firsts → Counts P order j
  in_counts j h = (omega (arith, length-take counted order), omega (arith, length-take counted order))

  same_at : (j : ℕ) → j < length firsts → parallelism_at firsts j ≡ parallelism_at order j
  same_at j h = ap (λ (e : Entry). e.parallelism) (get_or-take counted order j no_written (omega (arith, length-take counted order)))

  least_is : (l : List Entry) → firsts ≡ l → IsFloor P order (least l)
  unfolding least
  least_is [] e = let none : (j : ℕ) → Counts P order j → ⊥ = λ j c. omega (arith, counts_in j c, ap length e) in record { below = λ j c. absurd (none j c); one = inr (none, refl) }
  least_is (x ∷ l) e =
      record {
        below = λ j c.
            let h = counts_in j c in
            omega (arith, least_below (x ∷ l) j (omega (arith, h, ap length e)), ap (λ (y : List Entry). parallelism_at y j) e, same_at j h);
        one = inl (go (least_one x l));
      }
    where
      go : (j : ℕ) × ((j < length (x ∷ l)) × (least (x ∷ l) ≡ parallelism_at (x ∷ l) j)) → (j : ℕ) × (Counts P order j × (least (x ∷ l) ≡ parallelism_at order j))
      go (j, (h, q)) =
          let i : j < length firsts = omega (arith, h, ap length e) in
          (j, (in_counts j i, q ∙ sym (ap (λ (y : List Entry). parallelism_at y j) e) ∙ same_at j i))

  pub floor_is : IsFloor P order (floor P order)
  unfolding floor
  floor_is = rw (first_ones P order) (least_is firsts refl)

  -- two numbers that are it are the same
  same_floor : {f g : ℕ} → IsFloor P order f → IsFloor P order g → f ≡ g
  same_floor {f} {g} x y = go x.one y.one
    where
      go : HasOne P order f → HasOne P order g → f ≡ g
      go (inl (i, (c, p))) (inl (j, (d, q))) = omega (arith, p, q, x.below j d, y.below i c)
      go (inl (i, (c, p))) (inr (empty, q)) = absurd (empty i c)
      go (inr (empty, p)) (inl (j, (d, q))) = absurd (empty j d)
      go (inr (empty, p)) (inr (nothing, q)) = p ∙ sym q

  pub floor_only : {f : ℕ} → IsFloor P order f → f ≡ floor P order
  floor_only x = same_floor x floor_is

module _ (P N W : ℕ) (hP : 1 ≤ P) (calls : List Call) where
  abbrev k : Model
  k = run P N W calls initial

  abbrev f : ℕ
  f = floor P k.guide.order

  -- after every list of calls: 0 where the order has fewer than P entries, else from 1 to P
  pub floor_of_calls : ((written k < P) × (f ≡ 0)) ⊎ ((P ≤ written k) × ((1 ≤ f) × (f ≤ P)))
  floor_of_calls = go (lt_or_le (written k) P) (floor_is P k.guide.order).one
    where
      go : (written k < P) ⊎ (P ≤ written k) → HasOne P k.guide.order f → ((written k < P) × (f ≡ 0)) ⊎ ((P ≤ written k) × ((1 ≤ f) × (f ≤ P)))
      go (inl lt) (inl (j, (c, q))) = absurd (omega (arith, lt, c.1))
      go (inl lt) (inr (empty, q)) = inl (lt, q)
      go (inr le) (inl (j, (c, q))) = let b = (demand_3 P N W hP calls).parallelisms j c.0 in inr (le, (omega (arith, q, b.0), omega (arith, q, b.1)))
      go (inr le) (inr (empty, q)) = absurd (empty 0 (omega (arith, hP, le), omega (arith, le)))
