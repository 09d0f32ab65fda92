-- The storage of a session under the ascending profile: that of every session, with waiting storage and pool empty; the lists that the six
-- slices hold, as a function takes them, and that the same slices are there again after it. Assumes nothing.
use Rattle.std.specs.Prelude.{◌≡◌, List, [], ℕ}
use Rattle.placing.specs.Slices.{Slice, Borrowed}
use Rattle.session.specs.Storage.{Storage, storage}
use Rattle.ascending_session.specs.declared.Storage.{Storage as SixSlices}

abbrev pub lean : List ℕ → List ℕ → List ℕ → List ℕ → List ℕ → List ℕ → Storage
lean sp o t rs m l = storage sp o t rs m l [] []

-- of references: as a function asks for it, and what is said of it before and after
abbrev pub given : Slice → Slice → Slice → Slice → Slice → Slice → Storage
given sp o t rs m l = lean sp.now o.now t.now rs.now m.now l.now

abbrev pub across : Borrowed → Borrowed → Borrowed → Borrowed → Borrowed → Borrowed → (Storage → Storage → Type 0) → Type 0
across sp o t rs m l said =
    said (given sp.entry o.entry t.entry rs.entry m.entry l.entry) (given sp.exit o.exit t.exit rs.exit m.exit l.exit)

-- of the struct
abbrev pub contents : SixSlices → Storage
contents s = given s.spans s.order s.tally s.rows s.marks s.locations

pub record SameSlices (a b : SixSlices) : Type 0 where
  pub spans : b.spans.ghost_name ≡ a.spans.ghost_name
  pub order : b.order.ghost_name ≡ a.order.ghost_name
  pub tally : b.tally.ghost_name ≡ a.tally.ghost_name
  pub rows : b.rows.ghost_name ≡ a.rows.ghost_name
  pub marks : b.marks.ghost_name ≡ a.marks.ghost_name
  pub locations : b.locations.ghost_name ≡ a.locations.ghost_name
