-- What the exported call that runs a list of calls under the ascending profile promises: the promise of `replay` (ascending_list/Replay), told
-- by one number. Definitions only. Assumes nothing.
use Rattle.std.specs.Prelude.{◌≡◌, List, ℕ}
use Rattle.session.specs.Storage.{Storage}
use Rattle.replay.specs.Exported.{by_number}
use Rattle.ascending_session.specs.declared.Ascending.{Ascending}
use Rattle.ascending_list.specs.Replay.{Replays}

-- r tells the order's length of the session after the calls, as every such call tells a count
pub record Exported (P N W : ℕ) (l : List ℕ) (r : ℕ) (σ τ : Storage) (out out' : List ℕ) : Type 0 where
  pub number : ℕ
  pub session : Ascending
  pub replays : Replays P N W l number session σ τ out out'
  pub is : r ≡ by_number number session.guide.written
