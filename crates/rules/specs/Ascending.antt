-- Document 02, M-106, the ascending profile: "each set or written place is the lowest one not yet set or written, outputs of one
-- registration ascend by one, and all inputs lie below the first output or, with no outputs, below that lowest place". Calls are those of
-- every session, and an accepted one does what it does there; only the checks are others: "21, a breach of the profile, after 6 and before
-- 8". No list is kept, so W is told at opening, and no waiting storage is asked for. Assumes nothing.
use Rattle.std.specs.Prelude.{List, [], ◌∷◌, ◌++◌, Bool, true, not, ◌||◌, ◌&&◌, ℕ, suc, ◌+◌, length, leb, ltb, eqb}
use Rattle.rules.specs.Limits.{most_lane, most_in_a_list}
use Rattle.rules.specs.Refusals as refusal
use Rattle.rules.specs.Model.{Reg, Model, watermark}
use Rattle.rules.specs.Checks.{Check, Sizes, verdict, any, short, repeats, taken, pooled, spans_needed, tally_needed, check_range, check_closed, check_places, check_flush, check_final}
use Rattle.rules.specs.Calls.{Call, set, add, flush, final, apply_call, unless_refused}

-- m, "that lowest place": the first from 0 on that is neither set nor written, V where there is none
abbrev pub lowest : ℕ → Model → ℕ
lowest N k = watermark N k

-- whether the places are m, m + 1 and so on
unfoldable pub ascend : ℕ → List ℕ → Bool
ascend m [] = true
ascend m (x ∷ xs) = eqb x m && ascend (suc m) xs

-- the first output, or m where there is none
unfoldable pub first_or : ℕ → List ℕ → ℕ
first_or m [] = m
first_or m (x ∷ xs) = x

-- 21, m being the lowest place: a breach by a set of place x, and by an add
unfoldable pub set_breach : ℕ → ℕ → Bool
set_breach m x = not (eqb x m)

unfoldable pub add_breach : ℕ → List ℕ → List ℕ → Bool
add_breach m ins outs = not (ascend m outs) || any (λ i. leb (first_or m outs) i) ins

-- "The waiting storage may be lent empty": the other lent lengths, each with the one that is needed
abbrev pub lengths : ℕ → ℕ → Sizes → List (ℕ × ℕ)
lengths P N s = (s.spans, spans_needed P) ∷ (s.order, N) ∷ (s.rows, N) ∷ (s.marks, N) ∷ (s.locations, N) ∷ (s.tally, tally_needed P) ∷ []

-- opening: 1, 2
unfoldable pub check_open : ℕ → ℕ → Sizes → List Check
check_open P N s = check_range P N ++ (record { fails = any short (lengths P N s); number = refusal.too_short } ∷ [])

-- set: 7, 4, 5, 21, 8
unfoldable pub check_set : ℕ → ℕ → Model → List Check
check_set N x k =
    check_closed k
    ∷ (check_places N (x ∷ [])
    ++ (record { fails = set_breach (lowest N k) x; number = refusal.profile_breach } ∷ (record { fails = taken k x; number = refusal.taken_place } ∷ [])))

-- add: 7, 18, 3, 4, 5, 6, 21, 8, 9, 10
unfoldable pub check_add : ℕ → ℕ → Reg → Model → List Check
check_add N W a k =
    check_closed k
    ∷ (record { fails = ltb most_lane a.lane; number = refusal.unknown_lane }
    ∷ (record { fails = ltb most_in_a_list (length a.ins) || ltb most_in_a_list (length a.outs); number = refusal.too_many_numbers }
    ∷ (check_places N (a.ins ++ a.outs)
    ++ (record { fails = repeats a.outs; number = refusal.repeated_output }
    ∷ (record { fails = add_breach (lowest N k) a.ins a.outs; number = refusal.profile_breach }
    ∷ (record { fails = any (taken k) a.outs; number = refusal.taken_place }
    ∷ (record { fails = leb N (length k.adds); number = refusal.too_many_registrations }
    ∷ (record { fails = ltb W (pooled k.adds + length a.ins + length a.outs); number = refusal.full_pool } ∷ []))))))))

unfoldable pub checks : ℕ → ℕ → Call → Model → List Check
checks N W (set x) k = check_set N x k
checks N W (add lane ins outs) k = check_add N W (record { lane = lane; ins = ins; outs = outs }) k
checks N W flush k = check_flush k
checks N W final k = check_final k

-- a call's number, 0 if accepted
unfoldable pub answer : ℕ → ℕ → Call → Model → ℕ
answer N W c k = verdict (checks N W c k)

unfoldable pub step : ℕ → ℕ → ℕ → Call → Model → Model
step P N W c k = unless_refused (answer N W c k) k (apply_call P N c k)

unfoldable pub run : ℕ → ℕ → ℕ → List Call → Model → Model
run P N W [] k = k
run P N W (c ∷ cs) k = run P N W cs (step P N W c k)

unfoldable pub answers : ℕ → ℕ → ℕ → List Call → Model → List ℕ
answers P N W [] k = []
answers P N W (c ∷ cs) k = answer N W c k ∷ answers P N W cs (step P N W c k)

-- "the calls that it accepts": those of a list
unfoldable pub accepted : ℕ → ℕ → ℕ → List Call → Model → List Call
accepted P N W [] k = []
accepted P N W (c ∷ cs) k = unless_refused (answer N W c k) (accepted P N W cs (step P N W c k)) (c ∷ accepted P N W cs (step P N W c k))
