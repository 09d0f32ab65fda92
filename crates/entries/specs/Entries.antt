-- Entries in a flat slice, and what a released span appends to one. How many numbers an entry has and what each of them is, is known here
-- and in src/lib.rt alone. The parallelism is that of `rules`. Assumes nothing.
use Rattle.std.specs.Prelude.{List, [], ◌∷◌, ◌++◌, ℕ, zero, suc, ◌+◌, ◌*◌, ◌/◌, ◌%◌, ◌≤◌, ◌<◌, length, take, drop, get_or}
use Rattle.rules.specs.Guide.{Item, Entry as OrderEntry, parallelism}
use Rattle.entries.specs.declared.Entry.{Entry}

-- the numbers of an entry, and of n entries
abbrev pub entry_size : ℕ
entry_size = 4

abbrev pub extent : ℕ → ℕ
extent n = entry_size * n

-- how many entries there is room for; there is room for n; there is an entry at index k
abbrev pub capacity : List ℕ → ℕ
capacity s = length s / entry_size

abbrev pub fits : List ℕ → ℕ → Type 0
fits s n = extent n ≤ length s

abbrev pub has_entry : List ℕ → ℕ → Type 0
has_entry s k = extent k + entry_size ≤ length s

-- a parallelism and a lane in one number: "parallelism + 65,536 · lane" (document 02, M-104); and each of them read from it
abbrev pub lane_radix : ℕ
lane_radix = 65536

abbrev pub packed : ℕ → ℕ → ℕ
packed parallelism lane = lane * lane_radix + parallelism

abbrev pub parallelism_in : ℕ → ℕ
parallelism_in n = n % lane_radix

abbrev pub lane_in : ℕ → ℕ
lane_in n = n / lane_radix

-- each parallelism can be read back
abbrev pub Narrow : List Entry → Type 0
Narrow [] = Unit {0}
Narrow (e ∷ es) = (e.parallelism < lane_radix) × Narrow es

-- the entry of four numbers, and the entry at index k of a list of them
abbrev pub unpacked : ℕ → ℕ → ℕ → ℕ → Entry
unpacked value added accepted last = record { value = value; added = added; accepted = accepted; parallelism = parallelism_in last; lane = lane_in last }

abbrev pub entry_at : List ℕ → ℕ → Entry
entry_at s k = unpacked (get_or s (extent k) 0) (get_or s (extent k + 1) 0) (get_or s (extent k + 2) 0) (get_or s (extent k + 3) 0)

-- what a span holds of an entry, and the order's entry, as `rules` has them
unfoldable pub item_of : Entry → Item
item_of e = record { value = e.value; added = e.added; accepted = e.accepted; lane = e.lane }

unfoldable pub entry_of : Entry → OrderEntry
entry_of e = record { item = item_of e; parallelism = e.parallelism }

-- an entry with another parallelism
abbrev pub with_parallelism : Entry → ℕ → Entry
with_parallelism e p = record { value = e.value; added = e.added; accepted = e.accepted; parallelism = p; lane = e.lane }

-- an entry as a span holds it: it has no parallelism yet, and 0 in its place, so that its last number is 65,536 times its lane
abbrev pub held_entry : Entry → Entry
held_entry e = with_parallelism e 0

-- an entry's numbers
abbrev pub numbers : Entry → List ℕ
numbers e = e.value ∷ e.added ∷ e.accepted ∷ packed e.parallelism e.lane ∷ []

-- d with the list s in it from index at on
abbrev pub over : List ℕ → ℕ → List ℕ → List ℕ
over d at s = take at d ++ s ++ drop (at + length s) d

-- a list with an entry stored at index k
abbrev pub with_entry : List ℕ → ℕ → Entry → List ℕ
with_entry s k e = over s (extent k) (numbers e)

-- m entries from index k on
abbrev pub row : List ℕ → ℕ → ℕ → List Entry
row s k zero = []
row s k (suc m) = entry_at s k ∷ row s (suc k) m

-- the entries of a span of a entries from position q on, each with its parallelism, the next span having b
abbrev pub annotated : ℕ → ℕ → ℕ → ℕ → List Entry → List Entry
annotated p a b q [] = []
annotated p a b q (e ∷ es) = with_parallelism e (parallelism p a b q) ∷ annotated p a b (suc q) es

-- an order with entries stored from index n on
abbrev pub appended : List ℕ → ℕ → List Entry → List ℕ
appended o n [] = o
appended o n (e ∷ es) = appended (with_entry o n e) (suc n) es
