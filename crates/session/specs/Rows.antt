-- The rows as the order grows: from n entries to n + a, all of registrations below N. Placing and flushing both fill them so.
-- Assumes nothing.
use Rattle.std.specs.Prelude.{◌≡◌, ℕ, suc, ◌+◌, ◌<◌, length, get_or}
use Rattle.std.proofs.Common.{sym, ◌∙◌, subst, zero-add, arith}
use Rattle.std.proofs.Math.Path.{ap}
use mathlib.Core.List.{List, [], ◌∷◌, ◌++◌, map}
use Rattle.rules.specs.Guide.{Entry as OrderEntry}
use Rattle.rules.specs.Model.{Model}
use Rattle.laws.specs.Order.{no_written}
use Rattle.laws.specs.Placeable.{Fits}
use Rattle.entries.specs.declared.Entry.{Entry}
use Rattle.entries.specs.Entries.{extent, row, entry_of}
use Rattle.entries.specs.Stored.{row_add, row_same}
use Rattle.buffer.specs.View.{order_of}
use Rattle.buffer.specs.Order.{map_append}
use Rattle.records.specs.Filling.{rows_fit, filled, Fillable}
use Rattle.records.specs.Filled.{Filled, Known, known_append, RowsFrame, fillable, fills, fill_frame}

-- the order's first n entries are what they were
pub order_same : (o o' : List ℕ) (n : ℕ) → ((j : ℕ) → j < extent n → get_or o' j 0 ≡ get_or o j 0) → order_of o' n ≡ order_of o n
unfolding order_of
order_same o o' n h = ap (λ (l : List Entry). map entry_of l) (row_same o o' 0 n (λ j q. h j (omega arith)))

known_all : (v : ℕ) (l : List OrderEntry) → ((j : ℕ) → j < length l → (get_or l j no_written).item.added < v) → Known v l
unfolding Known
known_all v [] h = tt
known_all v (e ∷ l) h = (h 0 (omega arith), known_all v l (λ j q. h (suc j) (omega arith)))

-- the order's entries are of accepted registrations
pub order_registered : (P N : ℕ) (k : Model) → Fits P N k → Known N k.guide.order
order_registered P N k f = known_all N k.guide.order (λ j h. omega (arith, f.order_known j h, f.many))

module _ (N n a : ℕ) (o o' rs : List ℕ) (long : rows_fit rs N) (kept : (j : ℕ) → j < extent n → get_or o' j 0 ≡ get_or o j 0) (known : Known N (order_of o' (n + a))) where
  new_known : Known N (map entry_of (row o' n a))
  unfolding order_of
  new_known = known_append N (map entry_of (row o' 0 n)) (map entry_of (row o' n a)) (subst (λ (l : List OrderEntry). Known N l) grown known)
    where
      grown : map entry_of (row o' 0 (n + a)) ≡ map entry_of (row o' 0 n) ++ map entry_of (row o' n a)
      grown = ap (λ (l : List Entry). map entry_of l) (row_add o' 0 n a ∙ ap (λ (z : ℕ). row o' 0 n ++ row o' z a) (zero-add n)) ∙ map_append entry_of (row o' 0 n) (row o' n a)

  pub rows_fillable : Fillable o' n a rs
  rows_fillable = fillable N n a o' rs long new_known

  pub rows_filled : (ws : List ℕ) → Filled N rs ws (order_of o n) → Filled N (filled rs n (row o' n a)) ws (order_of o' (n + a))
  rows_filled ws f = fills N n a o' rs long new_known ws (subst (λ (l : List OrderEntry). Filled N rs ws l) (sym (order_same o o' n kept)) f)

  pub rows_frame : RowsFrame N rs (filled rs n (row o' n a))
  rows_frame = fill_frame N n a o' rs long new_known
