-- What a host finds in a session under the ascending profile and its storage after some calls, in the words of `rules` alone: as in every
-- session (session/Shows), but that nothing waits and no list is kept. Definitions only. Assumes nothing.
use Rattle.std.specs.Prelude.{◌≡◌, [], map, ℕ, ◌+◌, ◌<◌, length, get_or, take}
use Rattle.rules.specs.Guide.{held as held_of, tally as tally_of}
use Rattle.rules.specs.Model.{Model, registrations as registrations_of}
use Rattle.rules.specs.Checks.{pooled}
use Rattle.rules.specs.Record.{mark_of, location_of, row_of}
use Rattle.rules.specs.Ascending.{lowest as lowest_of}
use Rattle.entries.specs.Entries.{entry_at}
use Rattle.buffer.specs.View.{row_start, order_of, upto}
use Rattle.records.specs.Filled.{row_at}
use Rattle.session.specs.Storage.{Storage}
use Rattle.session.specs.Shows.{span_in}
use Rattle.ascending_session.specs.declared.Ascending.{Ascending}

pub record Shows (P N W : ℕ) (k : Model) (s : Ascending) (σ : Storage) : Type 0 where
  -- what it was opened with
  pub parallelism : s.guide.p ≡ P
  pub many : s.guide.v ≡ N
  pub room : s.room ≡ W
  -- the order, of as many entries as the session has written, and the tally
  pub written : s.guide.written ≡ length k.guide.order
  pub order : order_of σ.order s.guide.written ≡ k.guide.order
  pub tally : take (P + 1) σ.tally ≡ tally_of P k.guide.order
  -- the rows of registrations, and the marks and locations of places
  pub rows : (r : ℕ) → r < N → row_at σ.rows r ≡ row_of k r
  pub marks : (x : ℕ) → x < N → get_or σ.marks x 0 ≡ mark_of k x
  pub locations : (x : ℕ) → x < N → get_or σ.locations x 0 ≡ location_of k x
  -- the window: its 32 span numbers, their lengths and the sum of these, and what each span holds
  pub numbers : s.guide.window.ids ≡ upto k.guide.first 32
  pub lengths : s.guide.window.lens ≡ map length k.guide.spans
  pub held : s.guide.held ≡ held_of k.guide.spans
  pub spans : (i : ℕ) → i < 32 → span_in P s.guide.window σ.spans i ≡ get_or k.guide.spans i []
  -- a held entry has no parallelism yet: 0 stands there, beside its lane
  pub unassigned : (i j : ℕ) → i < 32 → j < get_or s.guide.window.lens i 0
      → (entry_at σ.spans (row_start (get_or s.guide.window.rows i 0) P + j)).parallelism ≡ 0
  -- the lowest place that is neither set nor written
  pub lowest : s.lowest ≡ lowest_of N k
  -- how many are accepted, and how many numbers their lists have
  pub accepted : s.added ≡ length k.adds
  pub used : s.used ≡ pooled k.adds
  -- plain flushes done, whether closed, and what final fixed
  pub flushes : s.flushes ≡ k.flushes
  pub closed : s.closed ≡ k.closed
  pub registrations : s.registrations ≡ registrations_of k
  pub places : s.places ≡ k.recorded.places
