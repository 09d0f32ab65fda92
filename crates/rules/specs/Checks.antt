-- Document 01, "Refused by the input, refused by the state": the checks of opening and of the four calls, each list in the paper's
-- order, with 18 where document 02, M-104, puts it. A call's code is the number of its first failing check, or 0. Assumes nothing.
use Rattle.std.specs.Prelude.{List, [], ◌∷◌, ◌++◌, Bool, true, false, ◌||◌, ℕ, ◌+◌, ◌*◌, length, leb, ltb}
use Rattle.rules.specs.Limits.{most_parallelism, most_places, most_lane, most_in_a_list, most_flushes, least_flagged}
use Rattle.rules.specs.Refusals as refusal
use Rattle.rules.specs.Model.{Reg, Model, member}

pub record Check : Type 0 where
  pub fails : Bool
  pub number : ℕ

-- the number of the first check that fails, or 0
unfoldable pub verdict : List Check → ℕ
verdict [] = 0
verdict (c ∷ cs) = elim c.fails [ true ↦ c.number | false ↦ verdict cs ]

unfoldable pub any : {A : Type 0} → (A → Bool) → List A → Bool
any t [] = false
any t (x ∷ xs) = t x || any t xs

unfoldable pub repeats : List ℕ → Bool
repeats [] = false
repeats (x ∷ xs) = member x xs || repeats xs

unfoldable pub written_by : ℕ → List Reg → Bool
written_by x [] = false
written_by x (a ∷ as') = member x a.outs || written_by x as'

-- already set, written or promised by a waiting registration
unfoldable pub taken : Model → ℕ → Bool
taken k x = member x k.sets || written_by x k.adds

-- the list numbers of registrations
unfoldable pub pooled : List Reg → ℕ
pooled [] = 0
pooled (a ∷ as') = length a.ins + length a.outs + pooled as'

-- 1: P or V outside its range
unfoldable pub check_range : ℕ → ℕ → List Check
check_range P N =
    record { fails = ltb P 1 || ltb most_parallelism P; number = refusal.out_of_range }
    ∷ (record { fails = ltb N 1 || ltb most_places N; number = refusal.out_of_range } ∷ [])

-- the lengths of lent storage: spans, order and rows in entries, places with a mark and a location each, numbers of waiting storage,
-- counts of the tally
pub record Sizes : Type 0 where
  pub spans : ℕ
  pub order : ℕ
  pub rows : ℕ
  pub marks : ℕ
  pub locations : ℕ
  pub waiting : ℕ
  pub tally : ℕ

-- "Lent storage: spans 32·(P+1) entries, order V, rows V, places V, waiting 4V numbers, tally P+1 counts". A span has room for P + 1:
-- one that is full when it becomes span 1 takes one entry more, where nothing is named to come after, before span 0 is released
abbrev pub spans_needed : ℕ → ℕ
spans_needed P = 32 * (P + 1)

abbrev pub waiting_needed : ℕ → ℕ
waiting_needed N = 4 * N

abbrev pub tally_needed : ℕ → ℕ
tally_needed P = P + 1

-- of a lent length and the one that is needed: it is too short
abbrev pub short : ℕ × ℕ → Bool
short l = ltb l.0 l.1

-- the lent lengths, each with the one that is needed
abbrev pub lengths : ℕ → ℕ → Sizes → List (ℕ × ℕ)
lengths P N s =
    (s.spans, spans_needed P)
    ∷ (s.order, N)
    ∷ (s.rows, N)
    ∷ (s.marks, N)
    ∷ (s.locations, N)
    ∷ (s.waiting, waiting_needed N)
    ∷ (s.tally, tally_needed P)
    ∷ []

-- 2: a lent length too short
unfoldable pub too_short : ℕ → ℕ → Sizes → Bool
too_short P N s = any short (lengths P N s)

-- opening: 1, 2
unfoldable pub check_open : ℕ → ℕ → Sizes → List Check
check_open P N s = check_range P N ++ (record { fails = too_short P N s; number = refusal.too_short } ∷ [])

-- 7: closed
unfoldable pub check_closed : Model → Check
check_closed k = record { fails = k.closed; number = refusal.closed }

-- 4: a place with bit 62 or 63; 5: a place of V or more
unfoldable pub check_places : ℕ → List ℕ → List Check
check_places N xs = record { fails = any (λ x. leb least_flagged x) xs; number = refusal.flagged_place } ∷ (record { fails = any (λ x. leb N x) xs; number = refusal.unknown_place } ∷ [])

-- set: 7, 4, 5, 8
unfoldable pub check_set : ℕ → ℕ → Model → List Check
check_set N x k = check_closed k ∷ (check_places N (x ∷ []) ++ (record { fails = taken k x; number = refusal.taken_place } ∷ []))

-- add: 7, 18, 3, 4, 5, 6, 8, 9, 10
unfoldable pub check_add : ℕ → ℕ → Reg → Model → List Check
check_add N W a k =
    check_closed k
    ∷ (record { fails = ltb most_lane a.lane; number = refusal.unknown_lane }
    ∷ (record { fails = ltb most_in_a_list (length a.ins) || ltb most_in_a_list (length a.outs); number = refusal.too_many_numbers }
    ∷ (check_places N (a.ins ++ a.outs)
    ++ (record { fails = repeats a.outs; number = refusal.repeated_output }
    ∷ (record { fails = any (taken k) a.outs; number = refusal.taken_place }
    ∷ (record { fails = leb N (length k.adds); number = refusal.too_many_registrations }
    ∷ (record { fails = ltb W (pooled k.adds + length a.ins + length a.outs); number = refusal.full_pool } ∷ [])))))))

-- flush: 7, 11
unfoldable pub check_flush : Model → List Check
check_flush k = check_closed k ∷ (record { fails = leb most_flushes k.flushes; number = refusal.too_many_flushes } ∷ [])

-- final: 7, 12
unfoldable pub check_final : Model → List Check
check_final k = check_closed k ∷ (record { fails = ltb 0 (length k.pending); number = refusal.still_waiting } ∷ [])
