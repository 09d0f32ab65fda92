-- The listing as it is written from storage, in which entries and rows lie as crates entries and records have them. That it is document
-- 01's listing of the model is in Model. Assumes nothing.
use Rattle.std.specs.Prelude.{List, [], ◌++◌, map, ℕ, zero, suc, ◌<◌, ◌^◌}
use Rattle.rules.specs.Guide.{Entry}
use Rattle.rules.specs.Listing.{line, floor, entry_line, word_status, word_entries, word_places, word_floor, word_median}
use Rattle.entries.specs.Entries.{entry_at, entry_of, row, fits}
use Rattle.records.specs.Filling.{has_row, written_at}

-- bytes that suffice for the head of a listing, for an entry's line, and for what a refused job prints
abbrev pub head_bytes : ℕ
head_bytes = 256

abbrev pub line_bytes : ℕ
line_bytes = 112

abbrev pub rejection_bytes : ℕ
rejection_bytes = 64

-- n entries of the order from index i on
abbrev pub entries_from : List ℕ → ℕ → ℕ → List Entry
entries_from o i n = map entry_of (row o i n)

-- the line of the entry at index i, with its row's written
abbrev pub line_in : List ℕ → List ℕ → ℕ → List ℕ
line_in o rows i = entry_line i (entry_of (entry_at o i)) (written_at rows (entry_at o i).added)

-- the lines of n entries from index i on
unfoldable pub lines_from : List ℕ → List ℕ → ℕ → ℕ → List ℕ
lines_from o rows i zero = []
lines_from o rows i (suc n) = line_in o rows i ++ lines_from o rows (suc i) n

-- the whole listing
unfoldable pub listed : List ℕ → List ℕ → ℕ → ℕ → ℕ → ℕ → List ℕ
listed o rows n P places median =
    line word_status 0
    ++ (line word_entries n
    ++ (line word_places places ++ (line word_floor (floor P (entries_from o 0 n)) ++ (line word_median median ++ lines_from o rows 0 n))))

-- the storage holds n entries, and the row of each
pub record Ready (o rows : List ℕ) (n : ℕ) : Type 0 where
  pub entries : fits o n
  pub few : n < 2 ^ 32
  pub row : (i : ℕ) → i < n → has_row rows (entry_at o i).added
