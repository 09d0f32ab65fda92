-- What copying entries from the flat order makes of an order of structs, and when it is refused. Definitions only. Assumes nothing.
use Rattle.std.specs.Prelude.{List, [], ◌∷◌, ◌++◌, Bool, false, ◌||◌, ℕ, zero, suc, ◌-◌, take, drop, ltb}
use Rattle.rules.specs.Limits.{most_lane}
use Rattle.rules.specs.Refusals as refusal
use Rattle.rules.specs.Checks.{verdict}
use Rattle.entries.specs.Entries.{capacity}
use Rattle.order_copy.specs.declared.OrderInfo.{OrderInfo}
use Rattle.order_copy.specs.Flat.{entry_of, lane_of}

-- n entries of the flat order, from entry k on
unfoldable pub entries : List ℕ → ℕ → ℕ → List OrderInfo
entries f k zero = []
entries f k (suc n) = entry_of f k ∷ entries f (suc k) n

-- the order with entries `from` to `to` - 1 taken from the flat order, and every other as it was
unfoldable pub copied : List OrderInfo → List ℕ → ℕ → ℕ → List OrderInfo
copied o f from to = take from o ++ (entries f from (to - from) ++ drop to o)

-- one of the n entries from entry k on has a lane of more than 8 bits
unfoldable pub wide_entry : List ℕ → ℕ → ℕ → Bool
wide_entry f k zero = false
wide_entry f k (suc n) = ltb most_lane (lane_of f k) || wide_entry f (suc k) n

-- the copying is refused with 2 where `from` is past `to`, the order of `room` structs or the flat order is too short for `to` entries,
-- or the last number of one of the entries has more than 24 bits: 16 of parallelism, and more than 8 of lane
unfoldable pub check_new : ℕ → List ℕ → ℕ → ℕ → ℕ
check_new room f from to = verdict (record { fails = ltb to from || (ltb room to || (ltb (capacity f) to || wide_entry f from (to - from))); number = refusal.too_short } ∷ [])
