-- The session and its lent storage stand for a model: document 01's "the session's order, tally, mark, window lengths and waiting
-- registrations are the clerk's". A record of parts, so that a step that leaves a part alone copies one field. Assumes nothing.
use Rattle.std.specs.Prelude.{◌≡◌, List, [], ℕ, ◌+◌, ◌≤◌, ◌<◌, length}
use Rattle.rules.specs.Model.{Model, watermark as watermark_of, registrations}
use Rattle.rules.specs.Checks.{taken, pooled}
use Rattle.rules.specs.Record.{row_of}
use Rattle.buffer.specs.declared.Guide.{Guide}
use Rattle.buffer.specs.View.{view}
use Rattle.registrar.specs.Delayed.{Delayed}
use Rattle.tracking.specs.Places.{Places}
use Rattle.placing.specs.Stands.{Stands}
use Rattle.pool.specs.Lists.{Lists}
use Rattle.taken.specs.Flags.{Flags}
use Rattle.records.specs.Filling.{rows_fit}
use Rattle.records.specs.Filled.{row_at}
use Rattle.session.specs.declared.Session.{Session}
use Rattle.session.specs.Storage.{Storage}

-- the window with its entries and the order; the tally is the order's, by `Stands`
pub record Guided (P N : ℕ) (k : Model) (g : Guide) (σ : Storage) : Type 0 where
  pub p_is : g.p ≡ P
  pub v_is : g.v ≡ N
  pub places : 1 ≤ N
  pub stands : Stands g σ.spans σ.order σ.tally
  pub view_is : view g σ.spans σ.order ≡ k.guide

-- the rows: each registration's is the record's
pub record Rowed (N : ℕ) (k : Model) (σ : Storage) : Type 0 where
  pub long : rows_fit σ.rows N
  pub rows : (r : ℕ) → r < N → row_at σ.rows r ≡ row_of k r

-- marks, locations and the watermark
pub record Tracked (N : ℕ) (k : Model) (watermark : ℕ) (σ : Storage) : Type 0 where
  pub places : Places N k.sets k.located σ.marks σ.locations
  pub watermark_is : watermark ≡ watermark_of N k

-- the accepted registrations' lists, and which places are taken
pub record Stored (N : ℕ) (k : Model) (σ : Storage) : Type 0 where
  pub lists : Lists N k.adds (pooled k.adds) σ.waiting σ.pool
  pub flags : Flags N (taken k) σ.waiting

-- the counts of the session
pub record Counted (k : Model) (s : Session) : Type 0 where
  pub added_is : s.added ≡ length k.adds
  pub used_is : s.used ≡ pooled k.adds
  pub flushes_is : s.flushes ≡ k.flushes
  pub closed_is : s.closed ≡ k.closed
  pub registrations_is : s.registrations ≡ registrations k
  pub places_is : s.places ≡ k.recorded.places

-- what a placing changes: all but the lists that are kept, and who waits
pub record Base (P N : ℕ) (k : Model) (g : Guide) (watermark : ℕ) (σ : Storage) : Type 0 where
  pub guided : Guided P N k g σ
  pub rowed : Rowed N k σ
  pub tracked : Tracked N k watermark σ

-- all but who waits: what a single placing changes or reads
pub record Core (P N : ℕ) (k : Model) (g : Guide) (watermark : ℕ) (σ : Storage) : Type 0 where
  pub guided : Guided P N k g σ
  pub rowed : Rowed N k σ
  pub tracked : Tracked N k watermark σ
  pub stored : Stored N k σ

-- the whole, with a stack st, linked from `top` on, of registrations that are still to be placed
pub record RepSt (P N : ℕ) (k : Model) (s : Session) (σ : Storage) (top : ℕ) (st : List ℕ) : Type 0 where
  pub core : Core P N k s.guide s.watermark σ
  pub counted : Counted k s
  pub delayed : Delayed σ.waiting N s.watermark k.pending top st
  pub delayed_is : s.delayed ≡ length st + length k.pending

-- between calls the stack is empty
abbrev pub Rep : ℕ → ℕ → Model → Session → Storage → Type 0
Rep P N k s σ = RepSt P N k s σ 0 []
