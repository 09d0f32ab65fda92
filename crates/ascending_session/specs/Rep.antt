-- A session under the ascending profile and its storage stand for a model: as in every session (session/Rep), but for lists that are kept
-- and who waits. Assumes nothing.
use Rattle.std.specs.Prelude.{◌≡◌, ℕ, length}
use Rattle.rules.specs.Model.{Model, registrations}
use Rattle.rules.specs.Checks.{pooled}
use Rattle.session.specs.Storage.{Storage}
use Rattle.session.specs.Rep.{Base}
use Rattle.ascending_session.specs.declared.Ascending.{Ascending}

-- the counts of the session, W list numbers being its room
pub record Counted (W : ℕ) (k : Model) (s : Ascending) : Type 0 where
  pub added_is : s.added ≡ length k.adds
  pub used_is : s.used ≡ pooled k.adds
  pub room_is : s.room ≡ W
  pub flushes_is : s.flushes ≡ k.flushes
  pub closed_is : s.closed ≡ k.closed
  pub registrations_is : s.registrations ≡ registrations k
  pub places_is : s.places ≡ k.recorded.places

-- window, order, tally, rows, marks and locations with the lowest place, and the counts
pub record Rep (P N W : ℕ) (k : Model) (s : Ascending) (σ : Storage) : Type 0 where
  pub base : Base P N k s.guide s.lowest σ
  pub counted : Counted W k s
