-- The lists of checks of rules/Ascending, over what the code holds: whether closed, the count of places, the lowest one that is neither set
-- nor written, the arguments, a test for taken places, and counts; and what the functions ask and promise. That the lists are those of a
-- model is said in Laws. Definitions only. Assumes nothing.
use Rattle.std.specs.Prelude.{◌≡◌, List, [], ◌∷◌, ◌++◌, Bool, true, false, not, ◌&&◌, ◌==◌, ℕ, ◌+◌, ◌%◌, ◌≤◌, ◌<◌, length, get_or, leb, ltb}
use Rattle.std.specs.List.{list_all, enumerate_from}
use Rattle.rules.specs.Limits.{most_places}
use Rattle.rules.specs.Refusals as refusal
use Rattle.rules.specs.Checks.{Check, verdict, any, repeats, check_places}
use Rattle.rules.specs.Ascending.{set_breach, add_breach}
use Rattle.checking.specs.Parts.{list_checks}
use Rattle.add_checks.specs.Promises.{fits}

-- set: 7, 4, 5, 21, 8
unfoldable pub set_checks : Bool → ℕ → ℕ → ℕ → (ℕ → Bool) → List Check
set_checks closed N m x t =
    record { fails = closed; number = refusal.closed }
    ∷ (check_places N (x ∷ [])
    ++ (record { fails = set_breach m x; number = refusal.profile_breach } ∷ (record { fails = t x; number = refusal.taken_place } ∷ [])))

-- the checks of add that come after those of every session's lists: 6, 21, 8, 9, 10
unfoldable pub late_checks : ℕ → ℕ → (ℕ → Bool) → List ℕ → List ℕ → ℕ → ℕ → ℕ → List Check
late_checks N m t ins outs added used W =
    record { fails = repeats outs; number = refusal.repeated_output }
    ∷ (record { fails = add_breach m ins outs; number = refusal.profile_breach }
    ∷ (record { fails = any t outs; number = refusal.taken_place }
    ∷ (record { fails = leb N added; number = refusal.too_many_registrations }
    ∷ (record { fails = ltb W (used + length ins + length outs); number = refusal.full_pool } ∷ []))))

-- all of add's
abbrev pub add_checks : Bool → ℕ → ℕ → ℕ → List ℕ → List ℕ → (ℕ → Bool) → ℕ → ℕ → ℕ → List Check
add_checks closed N m lane ins outs t added used W = list_checks closed N lane ins outs ++ late_checks N m t ins outs added used W

-- a test for taken places that are all below m
abbrev pub Under : ℕ → (ℕ → Bool) → Type 0
Under m t = (x : ℕ) → m ≤ x → t x ≡ false

-- `check_set`: whatever such test it is, the number is that of the checks with this test
pub record ChecksSet (closed : Bool) (v m x n : ℕ) : Type 0 where
  pub is : (t : ℕ → Bool) → Under m t → n ≡ verdict (set_checks closed v m x t)

-- `passes`
pub record MayPass (v m used room : ℕ) : Type 0 where
  pub low : m ≤ v
  pub small : v ≤ most_places
  pub fits : used ≤ room

-- each place is m and its index more: that they ascend, by Ascend
abbrev pub ascends : ℕ → List ℕ → Bool
ascends m xs = list_all (λ (p : ℕ × ℕ). p.1 == (m + p.0)) (enumerate_from 0 xs)

-- what is looked at: what fits, outputs that end inside, inputs below m, and outputs that ascend
abbrev pub passes : Bool → ℕ → List ℕ → List ℕ → ℕ → ℕ → ℕ → ℕ → Bool
passes closed lane ins outs v m added left = fits closed lane ins outs v added left && (leb (m + length outs) v && (not (any (λ i. leb m i) ins) && ascends m outs))

-- true exactly where add passes its checks
pub record Passes (lane : ℕ) (ins outs : List ℕ) (closed : Bool) (v m added used room : ℕ) (r : Bool) : Type 0 where
  pub passes : r ≡ true → (t : ℕ → Bool) → Under m t → verdict (add_checks closed v m lane ins outs t added used room) ≡ 0
  pub fails : r ≡ false → (t : ℕ → Bool) → verdict (add_checks closed v m lane ins outs t added used room) ≡ 0 → ⊥

-- `check_add`: the same of the checks of add, and the marks are as they were
pub record MayAdd (marks : List ℕ) (v m used room : ℕ) : Type 0 where
  pub long : v ≤ length marks
  pub even : (x : ℕ) → x < v → get_or marks x 0 % 2 ≡ 0
  pub low : m ≤ v
  pub small : v ≤ most_places
  pub fits : used ≤ room

pub record ChecksAdd (marks : List ℕ) (lane : ℕ) (ins outs : List ℕ) (closed : Bool) (v m added used room n : ℕ) (marks' : List ℕ) : Type 0 where
  pub is : (t : ℕ → Bool) → Under m t → n ≡ verdict (add_checks closed v m lane ins outs t added used room)
  pub same : marks' ≡ marks
