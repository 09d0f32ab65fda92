-- The pool of lists: the inputs and then the outputs of each accepted registration, one after the other, and for each registration a
-- number that says where its lists start, how many inputs it has, and its lane. Definitions; the laws are in ListLaws. Assumes nothing.
use Rattle.std.specs.Prelude.{◌≡◌, List, [], ◌∷◌, ◌++◌, cond, ℕ, ◌+◌, ◌*◌, ◌/◌, ◌%◌, ◌^◌, ◌≤◌, ◌<◌, length, get_or, set, take, drop, ltb}
use Rattle.rules.specs.Model.{Reg}
use Rattle.rules.specs.Limits.{most_lane, most_in_a_list}
use Rattle.rules.specs.Checks.{pooled, waiting_needed}

-- where the cells lie in the waiting storage of v places; a cell has the lane in its lowest 8 bits, the count of inputs in 16 above them,
-- and the start in the 40 above these
abbrev pub cells_at : ℕ → ℕ
cells_at v = 2 * v

abbrev pub lane_limit : ℕ
lane_limit = 256

abbrev pub inputs_limit : ℕ
inputs_limit = 65536

abbrev pub start_limit : ℕ
start_limit = 2 ^ 40

unfoldable pub cell : ℕ → ℕ → ℕ → ℕ
cell start inputs lane = (start * inputs_limit + inputs) * lane_limit + lane

-- registration r's cell, and the storage with another one
unfoldable pub cell_at : List ℕ → ℕ → ℕ → ℕ
cell_at w v r = get_or w (cells_at v + r) 0

unfoldable pub with_cell : List ℕ → ℕ → ℕ → ℕ → ℕ → ℕ → List ℕ
with_cell w v r start inputs lane = set w (cells_at v + r) (cell start inputs lane)

-- where registration r's lists start, how many inputs it has, and its lane
unfoldable pub start_of : List ℕ → ℕ → ℕ → ℕ
start_of w v r = cell_at w v r / (inputs_limit * lane_limit)

unfoldable pub inputs_of : List ℕ → ℕ → ℕ → ℕ
inputs_of w v r = cell_at w v r / lane_limit % inputs_limit

unfoldable pub lane_of : List ℕ → ℕ → ℕ → ℕ
lane_of w v r = cell_at w v r % lane_limit

-- where they end: at the next one's start, or at the count of used numbers for the last of n registrations
unfoldable pub end_of : List ℕ → ℕ → ℕ → ℕ → ℕ → ℕ
end_of w v r n used = cond {A = ℕ} (ltb (r + 1) n) (start_of w v (r + 1)) used

-- the pool with xs from `at` on
unfoldable pub stored : List ℕ → ℕ → List ℕ → List ℕ
stored pool at xs = take at pool ++ (xs ++ drop (at + length xs) pool)

-- there is room for xs, and each fits the pool's 32 bits
pub record Storable (pool : List ℕ) (at : ℕ) (xs : List ℕ) : Type 0 where
  pub room : at + length xs ≤ length pool
  pub fits : (j : ℕ) → j < length xs → get_or xs j 0 < 2 ^ 32

-- the lists of registrations, one after the other
unfoldable pub contents : List Reg → List ℕ
contents [] = []
contents (a ∷ as') = a.ins ++ (a.outs ++ contents as')

-- the r-th of some registrations
unfoldable pub nth : List Reg → ℕ → Reg
nth as' r = get_or as' r (record { lane = 0; ins = []; outs = [] })

-- storage holds the lanes and lists of the accepted registrations
pub record Lists (N : ℕ) (adds : List Reg) (used : ℕ) (w pool : List ℕ) : Type 0 where
  pub long : waiting_needed N ≤ length w
  pub many : length adds ≤ N
  pub used_is : used ≡ pooled adds
  pub fits : used ≤ length pool
  pub content : take used pool ≡ contents adds
  pub cells : (r : ℕ) → r < length adds → cell_at w N r ≡ cell (pooled (take r adds)) (length (nth adds r).ins) (nth adds r).lane
  pub few : (r : ℕ) → r < length adds → ((nth adds r).lane ≤ most_lane) × (length (nth adds r).ins ≤ most_in_a_list)
