-- Document 01, "The records": what a place's mark and location and a registration's row are in a model, and what final gives of one.
-- Definitions only; that what a session's storage holds are these is shown by `Shows` (crate session). Assumes nothing.
use Rattle.std.specs.Prelude.{List, [], ◌∷◌, Bool, true, false, ℕ, suc, ◌+◌, ◌*◌, get_or, eqb}
use Rattle.rules.specs.Limits.{mark_set, mark_written, location_radix}
use Rattle.rules.specs.Guide.{Loc, Entry, tally}
use Rattle.rules.specs.Model.{Model, member, marked, loc_of}
use Rattle.rules.specs.Summary.{Figures, figures}

-- "A place has a 16-bit mark: 0 untracked, 32,768 written by a registration (with its location), 49,152 set."
-- By whether it is set, and whether a registration wrote it
unfoldable pub mark_by : Bool → Bool → ℕ
mark_by true written = mark_set
mark_by false true = mark_written
mark_by false false = 0

abbrev pub mark_of : Model → ℕ → ℕ
mark_of k x = mark_by (member x k.sets) (marked x k.located)

-- "A location is a span number (32 bits) and a position (32 bits)": as one number, the greater for the later location
unfoldable pub pack : Loc → ℕ
pack l = l.span * location_radix + l.pos

-- "Location (0,0) belongs to every set place", and places start as zeros: a place's location, that of the registration which wrote it, or (0,0)
unfoldable pub location_of : Model → ℕ → ℕ
location_of k x = pack (loc_of k.located x)

-- "A record row has added, accepted, written (below), order index and parallelism." Document 02, M-104: and the entry's lane
pub record Row : Type 0 where
  pub added : ℕ
  pub accepted : ℕ
  pub written : ℕ
  pub index : ℕ
  pub parallelism : ℕ
  pub lane : ℕ

-- a row that is zeros but for written
unfoldable pub unfilled : ℕ → Row
unfilled written = record { added = 0; accepted = 0; written = written; index = 0; parallelism = 0; lane = 0 }

-- "in a row all but written is filled when the entry is appended": by entry e, whose order index is n
unfoldable pub fill : ℕ → Entry → Row → Row
fill n e row = record { added = e.item.added; accepted = e.item.accepted; written = row.written; index = n; parallelism = e.parallelism; lane = e.item.lane }

-- registration r's row after these entries were appended, the first of them at order index n; an entry fills the row of its added
unfoldable pub row_after : ℕ → Row → ℕ → List Entry → Row
row_after r row n [] = row
row_after r row n (e ∷ es) = row_after r (elim (eqb e.item.added r) [ true ↦ fill n e row | false ↦ row ]) (suc n) es

-- the row of registration r: rows start as zeros, and written is the record's
unfoldable pub row_of : Model → ℕ → Row
row_of k r = row_after r (unfilled (get_or k.recorded.written r 0)) 0 k.guide.order

-- "An accepted call returns 0, .. final also the summary": the figures of the tally of the order, as final leaves it
unfoldable pub summary : ℕ → Model → Figures
summary P k = figures (tally P k.guide.order)
