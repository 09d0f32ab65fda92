-- The listing written from storage is document 01's, where the storage stands for the model: the order's entries are the model's, and each
-- row's written is the model's. Assumes nothing.
use Rattle.std.specs.Prelude.{List, ◌≡◌, length, get_or}
use Rattle.std.proofs.Math.Path.{refl}
use Rattle.std.proofs.Common.{ap, arith}
use Prim.Native.Nat.{ℕ, zero, suc, ◌+◌, ◌≤◌, ◌<◌}
use Rattle.rules.specs.Guide.{tally}
use Rattle.rules.specs.Model.{Model}
use Rattle.rules.specs.Summary.{median}
use Rattle.rules.specs.Listing.{entry_lines, listing}
use Rattle.entries.specs.Entries.{entry_at, entry_of, item_of}
use Rattle.records.specs.Filling.{written_at}
use Rattle.listing.specs.Listed.{entries_from, lines_from, listed}

pub length_entries : (o : List ℕ) (i n : ℕ) → length (entries_from o i n) ≡ n
length_entries o i zero = refl
length_entries o i (suc n) = ap suc (length_entries o (suc i) n)

-- the rows have the model's written for every registration below N
module _ (o rows written : List ℕ) (N : ℕ) (same : (r : ℕ) → r < N → written_at rows r ≡ get_or written r 0) where
  lines_are : (i n : ℕ) → ((j : ℕ) → i ≤ j → j < i + n → (entry_at o j).added < N) → lines_from o rows i n ≡ entry_lines i (entries_from o i n) written
  unfolding lines_from entry_lines entry_of item_of
  lines_are i zero h = refl
  lines_are i (suc n) h =
      rw (same (entry_at o i).added (h i (omega arith) (omega arith)), lines_are (suc i) n (λ j a b. h j (omega arith) (omega arith)))

pub listing_is : (P N n : ℕ) (k : Model) (o rows : List ℕ)
    → entries_from o 0 n ≡ k.guide.order
    → ((r : ℕ) → r < N → written_at rows r ≡ get_or k.recorded.written r 0)
    → ((j : ℕ) → j < n → (entry_at o j).added < N)
    → listed o rows n P k.recorded.places (median (tally P k.guide.order)) ≡ listing P k
unfolding listed listing
listing_is P N n k o rows e w h =
    rw (lines_are o rows k.recorded.written N w 0 n (λ j a b. h j (omega arith)), e, ← e, length_entries o 0 n)
