-- Storing an accepted registration's lane and lists: what it asks, what it leaves, and the laws by which the function's proof and its callers' go.
-- Assumes nothing.
use Rattle.std.specs.Prelude.{◌≡◌, List, ℕ, ◌+◌, ◌^◌, ◌≤◌, ◌<◌, length, get_or}
use Rattle.rules.specs.Checks.{waiting_needed}
use Rattle.pool.specs.Lists.{lane_limit, inputs_limit, start_limit, with_cell, stored}
use Rattle.taken.specs.Flags.{claimed}
use Rattle.taken.specs.FlagLaws.{claimed_length}

-- the waiting storage with the outputs of registration r flagged, and then its cell
unfoldable pub entered_waiting : List ℕ → ℕ → ℕ → ℕ → ℕ → List ℕ → List ℕ → List ℕ
entered_waiting w v r used lane ins outs = with_cell (claimed w v outs) v r used (length ins) lane

-- the pool with the inputs and then the outputs behind the `used` numbers
unfoldable pub entered_pool : List ℕ → ℕ → List ℕ → List ℕ → List ℕ
entered_pool pool used ins outs = stored (stored pool used ins) (used + length ins) outs

-- what storing the lists asks
pub record Storing (w pool : List ℕ) (v r used lane : ℕ) (ins outs : List ℕ) : Type 0 where
  pub inside : r < v
  pub long : waiting_needed v ≤ length w
  pub small : used < start_limit
  pub low : lane < lane_limit
  pub few : length ins < inputs_limit
  pub room : used + length ins + length outs ≤ length pool
  pub ins_fit : (j : ℕ) → j < length ins → get_or ins j 0 < 2 ^ 32
  pub outs_fit : (j : ℕ) → j < length outs → get_or outs j 0 < 2 ^ 32

-- and what it leaves
pub record Stores (w pool : List ℕ) (v r used lane : ℕ) (ins outs w' pool' : List ℕ) : Type 0 where
  pub waiting_is : w' ≡ with_cell w v r used (length ins) lane
  pub pool_is : pool' ≡ entered_pool pool used ins outs

-- and what is left where the outputs are flagged too
pub record Entered (w pool : List ℕ) (v r used lane : ℕ) (ins outs w' pool' : List ℕ) : Type 0 where
  pub waiting_is : w' ≡ entered_waiting w v r used lane ins outs
  pub pool_is : pool' ≡ entered_pool pool used ins outs

module _ (w pool : List ℕ) (v r used lane : ℕ) (ins outs : List ℕ) where
  pub stores : (p : List ℕ) → p ≡ stored pool used ins → (q x : List ℕ) → q ≡ stored p (used + length ins) outs → x ≡ with_cell w v r used (length ins) lane → Stores w pool v r used lane ins outs x q
  unfolding entered_pool
  stores p ep q x eq ex = record { waiting_is = ex; pool_is = rw (eq, ep) }

  -- the outputs are flagged before that
  module _ (x : List ℕ) (ex : x ≡ claimed w v outs) where
    pub may_store_claimed : Storing w pool v r used lane ins outs → Storing x pool v r used lane ins outs
    may_store_claimed e =
        record {
          inside = e.inside;
          long = rw (ex, claimed_length w v outs) e.long;
          small = e.small;
          low = e.low;
          few = e.few;
          room = e.room;
          ins_fit = e.ins_fit;
          outs_fit = e.outs_fit;
        }

    pub entered_claimed : (y p : List ℕ) → Stores x pool v r used lane ins outs y p → Entered w pool v r used lane ins outs y p
    unfolding entered_waiting
    entered_claimed y p s = record { waiting_is = rw ex at s.waiting_is; pool_is = s.pool_is }
