-- What a host finds in a session and its storage after some calls, in the words of `rules` alone: what each slice says, read as
-- docs/REPLAY.md lays it out (waiting storage and pool by registrar/Reading and pool/Lists), is what document 01 has the model keep.
-- First how spans and lists are read, then the record; that every session and storage that stand for a model (`Rep`) show it is in
-- Showing. Definitions only. Assumes nothing.
use Rattle.std.specs.Prelude.{◌≡◌, List, [], map, ℕ, ◌+◌, ◌-◌, ◌<◌, length, get_or, take}
use Rattle.rules.specs.Guide.{Item, held as held_of, tally as tally_of}
use Rattle.rules.specs.Model.{Model, Reg, reg_of, registrations as registrations_of, watermark as watermark_of}
use Rattle.rules.specs.Record.{mark_of, location_of, row_of}
use Rattle.window.specs.declared.Window.{Window}
use Rattle.entries.specs.Entries.{entry_at, row, item_of}
use Rattle.buffer.specs.View.{row_start, order_of, upto}
use Rattle.records.specs.Filled.{row_at}
use Rattle.registrar.specs.Reading.{waiting_in}
use Rattle.lists.specs.Part.{part}
use Rattle.pool.specs.Lists.{start_of, inputs_of, lane_of, end_of}
use Rattle.session.specs.declared.Session.{Session}
use Rattle.session.specs.Storage.{Storage}

-- what span i of the window holds: as many entries as its length says, from the start of its row of P + 1 on
unfoldable pub span_in : ℕ → Window → List ℕ → ℕ → List Item
span_in P w spans i = map item_of (row spans (row_start (get_or w.rows i 0) P) (get_or w.lens i 0))

-- registration r, n being accepted and `used` numbers of the pool taken: its lane, its inputs, and its outputs behind them
unfoldable pub lists_in : List ℕ → List ℕ → ℕ → ℕ → ℕ → ℕ → Reg
lists_in w pool N n used r =
    let outs : ℕ = start_of w N r + inputs_of w N r in
    record { lane = lane_of w N r; ins = part pool (start_of w N r) (inputs_of w N r); outs = part pool outs (end_of w N r n used - outs) }

pub record Shows (P N : ℕ) (k : Model) (s : Session) (σ : Storage) : Type 0 where
  -- what it was opened with
  pub parallelism : s.guide.p ≡ P
  pub many : s.guide.v ≡ N
  -- the order, of as many entries as the session has written, and the tally
  pub written : s.guide.written ≡ length k.guide.order
  pub order : order_of σ.order s.guide.written ≡ k.guide.order
  pub tally : take (P + 1) σ.tally ≡ tally_of P k.guide.order
  -- the rows of registrations, and the marks and locations of places
  pub rows : (r : ℕ) → r < N → row_at σ.rows r ≡ row_of k r
  pub marks : (x : ℕ) → x < N → get_or σ.marks x 0 ≡ mark_of k x
  pub locations : (x : ℕ) → x < N → get_or σ.locations x 0 ≡ location_of k x
  -- the window: its 32 span numbers, their lengths and the sum of these, and what each span holds
  pub numbers : s.guide.window.ids ≡ upto k.guide.first 32
  pub lengths : s.guide.window.lens ≡ map length k.guide.spans
  pub held : s.guide.held ≡ held_of k.guide.spans
  pub spans : (i : ℕ) → i < 32 → span_in P s.guide.window σ.spans i ≡ get_or k.guide.spans i []
  -- a held entry has no parallelism yet: 0 stands there, beside its lane
  pub unassigned : (i j : ℕ) → i < 32 → j < get_or s.guide.window.lens i 0
      → (entry_at σ.spans (row_start (get_or s.guide.window.rows i 0) P + j)).parallelism ≡ 0
  -- the high mark, as the watermark
  pub watermark : s.watermark ≡ watermark_of N k
  -- who waits, and how many
  pub waiting : waiting_in σ.waiting N s.watermark ≡ k.pending
  pub delayed : s.delayed ≡ length k.pending
  -- how many are accepted, and the lane and the lists of each
  pub accepted : s.added ≡ length k.adds
  pub lists : (r : ℕ) → r < length k.adds → lists_in σ.waiting σ.pool N s.added s.used r ≡ reg_of k r
  -- plain flushes done, whether closed, and what final fixed
  pub flushes : s.flushes ≡ k.flushes
  pub closed : s.closed ≡ k.closed
  pub registrations : s.registrations ≡ registrations_of k
  pub places : s.places ≡ k.recorded.places
