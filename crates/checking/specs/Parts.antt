-- The lists of checks of `rules`, over what the code holds: whether closed, the count of places, the arguments, a test for taken places,
-- and counts. That they are those of a model is said in Laws. Definitions only. Assumes nothing.
use Rattle.std.specs.Prelude.{◌≡◌, List, [], ◌∷◌, ◌++◌, Bool, cond, ◌||◌, ℕ, ◌+◌, length, leb, ltb}
use Rattle.rules.specs.Limits.{most_lane, most_in_a_list, most_flushes, least_flagged}
use Rattle.rules.specs.Refusals as refusal
use Rattle.rules.specs.Checks.{Check, verdict, any, repeats, check_places}
use Rattle.taken.specs.Flags.{Flags}

unfoldable pub set_checks : Bool → ℕ → ℕ → (ℕ → Bool) → List Check
set_checks closed N x t = record { fails = closed; number = refusal.closed } ∷ (check_places N (x ∷ []) ++ (record { fails = t x; number = refusal.taken_place } ∷ []))

-- the number of check-places where a place is N or more
unfoldable pub place_number : List ℕ → List ℕ → ℕ
place_number ins outs = cond {A = ℕ} (any (λ x. leb least_flagged x) (ins ++ outs)) refusal.flagged_place refusal.unknown_place

-- the first checks of add, which look at its lane and lists alone, and the later ones
unfoldable pub list_checks : Bool → ℕ → ℕ → List ℕ → List ℕ → List Check
list_checks closed N lane ins outs =
    record { fails = closed; number = refusal.closed }
    ∷ (record { fails = ltb most_lane lane; number = refusal.unknown_lane }
    ∷ (record { fails = ltb most_in_a_list (length ins) || ltb most_in_a_list (length outs); number = refusal.too_many_numbers }
    ∷ check_places N (ins ++ outs)))

unfoldable pub state_checks : ℕ → (ℕ → Bool) → List ℕ → ℕ → ℕ → ℕ → ℕ → List Check
state_checks N t outs added used inputs W =
    record { fails = repeats outs; number = refusal.repeated_output }
    ∷ (record { fails = any t outs; number = refusal.taken_place }
    ∷ (record { fails = leb N added; number = refusal.too_many_registrations } ∷ (record { fails = ltb W (used + inputs + length outs); number = refusal.full_pool } ∷ [])))

-- all of add's
abbrev pub add_checks : Bool → ℕ → ℕ → List ℕ → List ℕ → (ℕ → Bool) → ℕ → ℕ → ℕ → List Check
add_checks closed N lane ins outs t added used W = list_checks closed N lane ins outs ++ state_checks N t outs added used (length ins) W

unfoldable pub flush_checks : Bool → ℕ → List Check
flush_checks closed flushes = record { fails = closed; number = refusal.closed } ∷ (record { fails = leb most_flushes flushes; number = refusal.too_many_flushes } ∷ [])

unfoldable pub final_checks : Bool → ℕ → List Check
final_checks closed delayed = record { fails = closed; number = refusal.closed } ∷ (record { fails = ltb 0 delayed; number = refusal.still_waiting } ∷ [])

-- `check_set`: whatever test the flags are those of, the number is that of the checks with this test
pub record ChecksSet (w : List ℕ) (closed : Bool) (v x n : ℕ) : Type 0 where
  pub is : (t : ℕ → Bool) → Flags v t w → n ≡ verdict (set_checks closed v x t)
