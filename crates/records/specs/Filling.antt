-- How rows are filled: an entry that stands at index n of the order sets added, accepted, order index, parallelism and lane of its
-- registration's row; `written` is stored apart. And the steps of the loop that fills. How many numbers a row has and what each of them
-- is, is known in this crate alone; how the last is packed is the entries'. Assumes nothing.
use Rattle.std.specs.Prelude.{◌≡◌, refl, List, [], ◌∷◌, length, get_or, set}
use Rattle.std.proofs.Common.{◌∙◌, add-zero, length-set}
use Prim.Native.Nat.{ℕ, suc, ◌+◌, ◌*◌, ◌-◌, ◌/◌, ◌≤◌, ◌<◌}
use Rattle.std.proofs.Math.Nat.{sub-zero}
use native.Mathlib.Omega.{arith}
use Rattle.entries.specs.declared.Entry.{Entry}
use Rattle.entries.specs.Entries.{packed, row, entry_at}

-- the numbers of a row, and of n rows
abbrev pub row_size : ℕ
row_size = 5

abbrev pub row_extent : ℕ → ℕ
row_extent n = row_size * n

-- how many rows there is room for; there is room for n; registration r has a row
abbrev pub row_capacity : List ℕ → ℕ
row_capacity rs = length rs / row_size

abbrev pub rows_fit : List ℕ → ℕ → Type 0
rows_fit rs n = row_extent n ≤ length rs

abbrev pub has_row : List ℕ → ℕ → Type 0
has_row rs r = row_extent r + row_size ≤ length rs

-- what registration r's row has as written, and rows with another there
abbrev pub written_at : List ℕ → ℕ → ℕ
written_at rs r = get_or rs (row_extent r + 2) 0

abbrev pub with_written : List ℕ → ℕ → ℕ → List ℕ
with_written rs r written = set rs (row_extent r + 2) written

-- rows with all but written filled by an entry that stands at index n
unfoldable pub fill_one : List ℕ → ℕ → Entry → List ℕ
fill_one rs n e =
    let i = row_extent e.added in
    set (set (set (set rs i e.added) (i + 1) e.accepted) (i + 3) n) (i + 4) (packed e.parallelism e.lane)

-- entries of which the first stands at index n
unfoldable pub filled : List ℕ → ℕ → List Entry → List ℕ
filled rs n [] = rs
filled rs n (e ∷ es) = filled (fill_one rs n e) (suc n) es

-- each of the a entries from n on has a row
pub record Fillable (o : List ℕ) (n a : ℕ) (rs : List ℕ) : Type 0 where
  pub known : (q : ℕ) → q < a → has_row rs (entry_at o (n + q)).added

pub fill_one_length : (t : List ℕ) (n : ℕ) (e : Entry) → length (fill_one t n e) ≡ length t
unfolding fill_one
fill_one_length t n e = simp length-set

pub filled_length : (t : List ℕ) (n : ℕ) (es : List Entry) → length (filled t n es) ≡ length t
unfolding filled
filled_length t n [] = refl
filled_length t n (e ∷ es) = filled_length (fill_one t n e) (suc n) es ∙ fill_one_length t n e

module _ (o : List ℕ) (n a : ℕ) where
  -- what is still to be filled from the q-th entry on
  abbrev pub to_fill : List ℕ → ℕ → List ℕ
  to_fill t q = filled t (n + q) (row o (n + q) (a - q))

  pub fill_begins : (t : List ℕ) → filled t n (row o n a) ≡ to_fill t 0
  fill_begins t = rw (add-zero, sub-zero)

  pub fill_turn : (t t' : List ℕ) (q : ℕ) (e : Entry) → q < a → e ≡ entry_at o (n + q) → t' ≡ fill_one t (n + q) e → to_fill t q ≡ to_fill t' (q + 1)
  unfolding filled
  fill_turn t t' q e h f g =
      let e1 : a - q ≡ suc (a - (q + 1)) = omega arith in
      let e2 : n + (q + 1) ≡ suc (n + q) = omega arith in
      rw (g, f, e1, e2)

  pub fill_ends : (t : List ℕ) (q : ℕ) → a ≤ q → to_fill t q ≡ t
  unfolding filled
  fill_ends t q h = let e : a - q ≡ 0 = omega arith in rw e
