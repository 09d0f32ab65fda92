-- `view`: the guide of `rules` that a window, the span storage and the order's storage stand for; and `Laid`: how the window lies in
-- the span storage, span i in row `rows[i]` of p + 1 entries. Assumes nothing.
use Rattle.std.specs.Prelude.{◌≡◌, List, [], ◌∷◌, map, ◌≢◌, ℕ, zero, suc, ◌+◌, ◌*◌, ◌≤◌, ◌<◌, length, get_or}
use Rattle.entries.specs.Entries.{row, fits, entry_at, item_of, entry_of}
use Rattle.rules.specs.Limits.{most_parallelism}
use Rattle.rules.specs.Checks.{spans_needed}
use Rattle.rules.specs.Guide.{Item, Entry as OrderEntry, Guide as GuideModel}
use Rattle.rules.specs.Summary.{sum}
use Rattle.buffer.specs.declared.Guide.{Guide}

-- where a row of p + 1 entries begins in the span storage
abbrev pub row_start : ℕ → ℕ → ℕ
row_start row p = row * (p + 1)

-- span i of the window: its length, its number, and where it and its position j lie in the span storage
abbrev pub length_of : Guide → ℕ → ℕ
length_of g i = get_or g.window.lens i 0

abbrev pub number_of : Guide → ℕ → ℕ
number_of g i = get_or g.window.ids i 0

abbrev pub start_of : Guide → ℕ → ℕ
start_of g i = row_start (get_or g.window.rows i 0) g.p

abbrev pub slot : Guide → ℕ → ℕ → ℕ
slot g i j = start_of g i + j

-- the spans whose rows and lengths are listed
unfoldable pub spans_of : ℕ → List ℕ → List ℕ → List ℕ → List (List Item)
spans_of p s [] ls = []
spans_of p s (r ∷ rs) [] = []
spans_of p s (r ∷ rs) (l ∷ ls) = map item_of (row s (row_start r p) l) ∷ spans_of p s rs ls

-- the first n entries of the order's storage
unfoldable pub order_of : List ℕ → ℕ → List OrderEntry
order_of o n = map entry_of (row o 0 n)

unfoldable pub view : Guide → List ℕ → List ℕ → GuideModel
view g s o =
    record { first = number_of g 0; spans = spans_of g.p s g.window.rows g.window.lens; order = order_of o g.written }

-- no element of xs is x; no two are equal; all are at most n
unfoldable pub Away : ℕ → List ℕ → Type 0
Away x [] = Unit {0}
Away x (y ∷ ys) = (y ≢ x) × Away x ys

unfoldable pub Distinct : List ℕ → Type 0
Distinct [] = Unit {0}
Distinct (x ∷ xs) = Away x xs × Distinct xs

unfoldable pub Most : ℕ → List ℕ → Type 0
Most n [] = Unit {0}
Most n (x ∷ xs) = (x ≤ n) × Most n xs

-- m numbers from n on
unfoldable pub upto : ℕ → ℕ → List ℕ
upto n zero = []
upto n (suc m) = n ∷ upto (suc n) m

-- the window is laid out in the span storage: 32 rows of p + 1 entries, each span within its own. A span that is full when it comes to
-- index 1 can get one more, as what depends on nothing goes there whatever its length: hence p + 1
pub record Laid (g : Guide) (s : List ℕ) : Type 0 where
  pub one : 1 ≤ g.p
  pub few : g.p ≤ most_parallelism
  pub rows_many : length g.window.rows ≡ 32
  pub lens_many : length g.window.lens ≡ 32
  pub distinct : Distinct g.window.rows
  pub below : Most 31 g.window.rows
  pub short : Most (g.p + 1) g.window.lens
  pub numbered : g.window.ids ≡ upto (number_of g 0) 32
  pub held_is : g.held ≡ sum g.window.lens
  pub long : fits s (spans_needed g.p)
  -- a held entry has no parallelism yet, and 0 in its place
  pub unassigned : (i j : ℕ) → i < 32 → j < length_of g i → (entry_at s (slot g i j)).parallelism ≡ 0
