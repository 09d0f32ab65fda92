-- Laws of a word with its number: how long it is, and that it is written by its parts. Assumes nothing.
use Rattle.std.specs.Prelude.{List, [], ◌∷◌, ◌≡◌, ℕ, ◌+◌, ◌≤◌, ◌<◌, ◌^◌, length, set}
use Rattle.std.proofs.Common.{ap, ◌∙◌, arith, length-append}
use Rattle.rules.specs.Listing.{decimal, field, line}
use Rattle.writer.specs.Wrote.{Wrote, wrote_then, wrote_byte}
use Rattle.writer.specs.Decimal.{decimal_few, decimal_few32}

pub length_field : (word : List ℕ) (n : ℕ) → length (field word n) ≡ length word + length (decimal n)
unfolding field
length_field word n = length-append word (decimal n)

pub length_line : (word : List ℕ) (n : ℕ) → length (line word n) ≡ length word + length (decimal n) + 1
unfolding line
length_line word n = length-append (field word n) (10 ∷ []) ∙ ap (λ (k : ℕ). k + 1) (length_field word n)

-- with a number of 64 or of 32 bits
pub line_few : (word : List ℕ) (n : ℕ) → n < 2 ^ 64 → length (line word n) ≤ length word + 21
line_few word n h = omega (arith, length_line word n, decimal_few n h)

pub field_few : (word : List ℕ) (n : ℕ) → n < 2 ^ 32 → length (field word n) ≤ length word + 10
field_few word n h = omega (arith, length_field word n, decimal_few32 n h)

pub wrote_field : {a b c : List ℕ} {at m r : ℕ} {word : List ℕ} (n : ℕ) → Wrote a b at m word → Wrote b c m r (decimal n) → Wrote a c at r (field word n)
unfolding field
wrote_field n x y = wrote_then x y

pub wrote_line : (a b : List ℕ) (at m n : ℕ) (word : List ℕ) → Wrote a b at m (field word n) → m < length b → Wrote a (set b m 10) at (m + 1) (line word n)
unfolding line
wrote_line a b at m n word x i = wrote_then x (wrote_byte b m 10 i)

pub line_few32 : (word : List ℕ) (n : ℕ) → n < 2 ^ 32 → length (line word n) ≤ length word + 11
line_few32 word n h = omega (arith, length_line word n, decimal_few32 n h)
