-- The floor from storage: of n entries the first n + 1 - P count, at most all of them. Assumes nothing.
use Rattle.std.specs.Prelude.{List, ◌∷◌, ◌≡◌, refl, ℕ, zero, suc, ◌+◌, ◌-◌, ◌<◌, min, length, take}
use Rattle.std.proofs.Common.{sym, ap, ◌∙◌, arith}
use Rattle.std.proofs.Math.Seq.{take-nil}
use Rattle.rules.specs.Guide.{Entry}
use Rattle.rules.specs.Listing.{least, before_run_out, floor}
use Rattle.laws.specs.Floor.{first_ones}
use Rattle.entries.specs.Entries.{entry_at, entry_of}
use Rattle.listing.specs.Listed.{entries_from}
use Rattle.listing.specs.Model.{length_entries}

-- of n entries the first m are k entries, the smaller of the two numbers
entries_taken : (o : List ℕ) (i n m k : ℕ) → k ≡ min n m → take m (entries_from o i n) ≡ entries_from o i k
entries_taken o i zero m zero e = take-nil m
entries_taken o i zero m (suc k) e = absurd (omega arith)
entries_taken o i (suc n) zero zero e = refl
entries_taken o i (suc n) zero (suc k) e = absurd (omega arith)
entries_taken o i (suc n) (suc m) zero e = absurd (omega arith)
entries_taken o i (suc n) (suc m) (suc k) e = ap (λ (l : List Entry). entry_of (entry_at o i) ∷ l) (entries_taken o (suc i) n m k (omega arith))

-- the smallest of those that count is the floor
pub floor_entries : (o : List ℕ) (n P k x : ℕ) → x ≡ least (entries_from o 0 k) → k ≡ min n (n + 1 - P) → x ≡ floor P (entries_from o 0 n)
unfolding floor
floor_entries o n P k x h e =
    let counted : before_run_out P (length (entries_from o 0 n)) 0 (entries_from o 0 n) ≡ entries_from o 0 k =
    first_ones P (entries_from o 0 n) ∙ ap (λ (m : ℕ). take (m + 1 - P) (entries_from o 0 n)) (length_entries o 0 n)
    ∙ entries_taken o 0 n (n + 1 - P) k e
    in
    h ∙ ap least (sym counted)

-- fewer than P: none counts
pub floor_of_none : (o : List ℕ) (n P : ℕ) → n < P → 0 ≡ floor P (entries_from o 0 n)
unfolding least
floor_of_none o n P h = floor_entries o n P 0 0 refl (omega arith)
