-- Laws of words of bytes: bytes put together are the word's low bytes; a word's bytes 10, marked all at once, leave 0 where there is none,
-- and the lowest mark stands at the first. Assumes nothing.
use Rattle.std.specs.Prelude.{Bool, true, false, not, ◌&&◌, ◌||◌, List, [], ◌∷◌, ◌++◌, ◌⊎◌, ◌≡◌, refl, ℕ, zero, suc, ◌+◌, ◌*◌, ◌/◌, ◌%◌, ◌^◌, ◌≤◌, ◌<◌, eqb, length, take, drop, get_or}
use Rattle.std.proofs.lemmas.Bool.{false≢true, eqb-false}
use Rattle.std.proofs.Common.{inl, inr, sym, ap, ap₂, ◌∙◌, zero-add, suc-add, mul-one, mul_assoc, pow-suc, mod-eq_of_lt, add-one, arith, drop-cons, drop-drop, take-add, eqb-true, eq-eqb, ne_eqb}
use Rattle.std.specs.Int.Bits.{bit_and, bit_or, bit_xor, and_lt, or_add_and, and_zero_r, shifted_half, shifted_even}
use Rattle.std.proofs.lemmas.Nat.{and_block, or_block, xor_block, and_le_l, and_le_r, or_lt, xor_lt}
use Rattle.std.specs.Int.Count.{count_trailing_zeros}
use Rattle.rules.specs.Text.{newline}
use Rattle.rules.specs.Model.{member}
use Rattle.jobtext.specs.Text.{before, low_bytes, marks}
use Rattle.jobtext.specs.Pieces.{bool}

-- two numbers as one, the first below the second: the low bytes of both
joined : (m n low high : ℕ) → low < 256 ^ m → low_bytes (m + n) (high * 256 ^ m + low) ≡ low_bytes m low ++ low_bytes n high
unfolding low_bytes
joined zero n low high h = let e : high * 256 ^ 0 + low ≡ high = omega arith in rw (e, zero-add n)
joined (suc m) n low high h =
    let a : ℕ = high * 256 ^ m in
    let e : high * 256 ^ suc m ≡ a * 256 = ap (λ (x : ℕ). high * x) (pow-suc 256 m) ∙ sym (mul_assoc high (256 ^ m) 256) in
    let first : (a * 256 + low) % 256 ≡ low % 256 = omega arith in
    let others : (a * 256 + low) / 256 ≡ a + low / 256 = omega arith in
    rw (suc-add m n, e, first, others, joined m n (low / 256) high (omega (arith, rw (pow-suc 256 m) at h)))

-- the bytes of a text from i on, in two parts; as one number
pub beside : (s : List ℕ) (i m n : ℕ) (l r : List ℕ) → l ≡ take m (drop i s) → r ≡ take n (drop (i + m) s) → l ++ r ≡ take (m + n) (drop i s)
beside s i m n l r e f = ap₂ (λ (x y : List ℕ). x ++ y) e (f ∙ ap (take n) (sym (drop-drop m i s))) ∙ sym (take-add m n (drop i s))

pub read_on : (s : List ℕ) (i m n low high : ℕ) → low < 256 ^ m → low_bytes m low ≡ take m (drop i s) → low_bytes n high ≡ take n (drop (i + m) s)
    → low_bytes (m + n) (high * 256 ^ m + low) ≡ take (m + n) (drop i s)
read_on s i m n low high h e f = joined m n low high h ∙ beside s i m n (low_bytes m low) (low_bytes n high) e f

pub two_bytes : (a b : ℕ) → a < 256 → b < 256 → low_bytes 2 (b * 256 + a) ≡ a ∷ (b ∷ [])
unfolding low_bytes
two_bytes a b small_a small_b =
    let first : (b * 256 + a) % 256 ≡ a = omega arith in
    let others : (b * 256 + a) / 256 ≡ b = omega arith in
    rw (first, others, mod-eq_of_lt small_b)

pub two_taken : (s : List ℕ) (i : ℕ) → i + 2 ≤ length s → take 2 (drop i s) ≡ get_or s i 0 ∷ (get_or s (i + 1) 0 ∷ [])
two_taken s i h = rw (drop-cons s i 0 (omega arith), add-one, drop-cons s (suc i) 0 (omega arith))

-- a byte n times over
unfoldable each : ℕ → ℕ → ℕ
each zero b = 0
each (suc n) b = each n b * 2 ^ 8 + b

-- the marks of n bytes as the code has them
unfoldable marked : ℕ → ℕ → ℕ
unfolding each
marked n w =
    let x : ℕ = bit_xor w (each n 10) in
    let y : ℕ = bit_and x (each n 127) + each n 127 in
    bit_xor (bit_and (bit_or y x) (each n 128)) (each n 128)

sum_blocks : (a b r s : ℕ) → (a * 2 ^ 8 + r) + (b * 2 ^ 8 + s) ≡ (a + b) * 2 ^ 8 + (r + s)
sum_blocks a b r s = omega arith

-- each byte has its own
marked_apart : (n w b : ℕ) → b < 256 → marked (suc n) (w * 2 ^ 8 + b) ≡ marked n w * 2 ^ 8 + marked 1 b
unfolding marked each
marked_apart n w b h =
    let x : ℕ = bit_xor w (each n 10) in
    let x₀ : ℕ = bit_xor b 10 in
    let low : ℕ = each n 127 in
    let y : ℕ = bit_and x low + low in
    let y₀ : ℕ = bit_and x₀ 127 + 127 in
    let top : ℕ = each n 128 in
    let x_small : x₀ < 2 ^ 8 = xor_lt 8 b 10 h (omega arith) in
    let y_small : y₀ < 2 ^ 8 = omega (arith, and_le_r x₀ 127) in
    let o_small : bit_or y₀ x₀ < 2 ^ 8 = or_lt 8 y₀ x₀ y_small x_small in
    let a_small : bit_and (bit_or y₀ x₀) 128 < 2 ^ 8 = and_lt 8 (bit_or y₀ x₀) 128 o_small (omega arith) in
    ap (λ (z : ℕ). bit_xor (bit_and (bit_or (bit_and z (low * 2 ^ 8 + 127) + (low * 2 ^ 8 + 127)) z) (top * 2 ^ 8 + 128)) (top * 2 ^ 8 + 128))
    (xor_block 8 w (each n 10) b 10 h (omega arith))
    ∙ ap (λ (z : ℕ). bit_xor (bit_and (bit_or (z + (low * 2 ^ 8 + 127)) (x * 2 ^ 8 + x₀)) (top * 2 ^ 8 + 128)) (top * 2 ^ 8 + 128))
    (and_block 8 x low x₀ 127 x_small (omega arith))
    ∙ ap (λ (z : ℕ). bit_xor (bit_and (bit_or z (x * 2 ^ 8 + x₀)) (top * 2 ^ 8 + 128)) (top * 2 ^ 8 + 128)) (sum_blocks (bit_and x low) low (bit_and x₀ 127) 127)
    ∙ ap (λ (z : ℕ). bit_xor (bit_and z (top * 2 ^ 8 + 128)) (top * 2 ^ 8 + 128)) (or_block 8 y x y₀ x₀ y_small x_small)
    ∙ ap (λ (z : ℕ). bit_xor z (top * 2 ^ 8 + 128)) (and_block 8 (bit_or y x) top (bit_or y₀ x₀) 128 o_small (omega arith))
    ∙ xor_block 8 (bit_and (bit_or y x) top) top (bit_and (bit_or y₀ x₀) 128) 128 a_small (omega arith)

-- a byte's, by a table of all 256
unfoldable byte_right : ℕ → Bool
unfolding marked marks
byte_right b = eqb (marked 1 b) (marks (b ∷ []))

unfoldable all_right : ℕ → Bool
all_right zero = true
all_right (suc n) = byte_right n && all_right n

table : all_right 256 ≡ true
unfolding all_right byte_right marked marks each
table = refl

right_below : (n b : ℕ) → all_right n ≡ true → b < n → byte_right b ≡ true
unfolding all_right
right_below zero b e h = absurd (omega arith)
right_below (suc n) b e h = go (bool (byte_right n)) (bool (eqb b n)) (right_below n b)
  where
    go : (byte_right n ≡ true) ⊎ (byte_right n ≡ false) → (eqb b n ≡ true) ⊎ (eqb b n ≡ false) → (all_right n ≡ true → b < n → byte_right b ≡ true)
        → byte_right b ≡ true
    go (inr f) g below = absurd (false≢true (rw f at e))
    go (inl f) (inl g) below = rw (eqb-true b n g) f
    go (inl f) (inr g) below = below (rw f at e) (omega (arith, eqb-false b n g))

byte_marked : (b : ℕ) → b < 256 → marked 1 b ≡ marks (b ∷ [])
unfolding byte_right
byte_marked b h = eqb-true (marked 1 b) (marks (b ∷ [])) (right_below 256 b table h)

marked_is : (n w : ℕ) → marked n w ≡ marks (low_bytes n w)
unfolding marked each low_bytes marks
marked_is zero w = ap (λ (x : ℕ). bit_xor x 0) (and_zero_r (bit_or (bit_and (bit_xor w 0) 0 + 0) (bit_xor w 0)))
marked_is (suc n) w =
    let whole : w ≡ (w / 256) * 2 ^ 8 + w % 256 = omega arith in
    let one : marked 1 (w % 256) ≡ 0 * 256 + (elim (eqb (w % 256) newline) [ true ↦ 128 | false ↦ 0 ]) = byte_marked (w % 256) (omega arith) in
    ap (marked (suc n)) whole ∙ marked_apart n (w / 256) (w % 256) (omega arith) ∙ rw (marked_is n (w / 256)) (omega (arith, one))

-- the sum stays in the word
pub sum_fits : (x low : ℕ) → low + low < 2 ^ 64 → bit_and x low + low < 2 ^ 64
sum_fits x low h = omega (arith, and_le_r x low)

-- the marks of a word in the code's own numbers
pub word_marked : (w : ℕ) → let x : ℕ = bit_xor w 0x0a0a0a0a0a0a0a0a in
    let y : ℕ = bit_and x 0x7f7f7f7f7f7f7f7f + 0x7f7f7f7f7f7f7f7f in
    bit_xor (bit_and (bit_or y x) 0x8080808080808080) 0x8080808080808080 ≡ marks (low_bytes 8 w)
unfolding marked each
word_marked w = marked_is 8 w

same_zero : (a : ℕ) → eqb (a * 256 + 0) 0 ≡ eqb a 0
same_zero a = go (bool (eqb a 0))
  where
    go : (eqb a 0 ≡ true) ⊎ (eqb a 0 ≡ false) → eqb (a * 256 + 0) 0 ≡ eqb a 0
    go (inl e) = rw e (eq-eqb (a * 256 + 0) 0 (omega (arith, eqb-true a 0 e)))
    go (inr e) = rw e (ne_eqb (a * 256 + 0) 0 (λ q. eqb-false a 0 e (omega (arith, q))))

-- marks are 0 where no byte is 10
zero_unmarked : (l : List ℕ) → eqb (marks l) 0 ≡ not (member 10 l)
unfolding marks member
zero_unmarked [] = refl
zero_unmarked (b ∷ l) = go (bool (eqb b 10)) (zero_unmarked l)
  where
    go : (eqb b 10 ≡ true) ⊎ (eqb b 10 ≡ false) → eqb (marks l) 0 ≡ not (member 10 l) → eqb (marks (b ∷ l)) 0 ≡ not (eqb 10 b || member 10 l)
    go (inl e) r = rw (marks, e, eq-eqb 10 b (sym (eqb-true b 10 e))) (ne_eqb (marks l * 256 + 128) 0 (λ q. omega (arith, q)))
    go (inr e) r = rw (marks, e, ne_eqb 10 b (λ q. eqb-false b 10 e (sym q))) (same_zero (marks l) ∙ r)

-- two words' marks as one
zero_where_both : (a b : ℕ) → eqb (bit_or a b) 0 ≡ (eqb a 0 && eqb b 0)
zero_where_both a b = go (bool (eqb a 0)) (bool (eqb b 0))
  where
    sum : bit_or a b + bit_and a b ≡ a + b
    sum = or_add_and a b

    go : (eqb a 0 ≡ true) ⊎ (eqb a 0 ≡ false) → (eqb b 0 ≡ true) ⊎ (eqb b 0 ≡ false) → eqb (bit_or a b) 0 ≡ (eqb a 0 && eqb b 0)
    go (inl e) (inl f) = rw (e, f) (eq-eqb (bit_or a b) 0 (omega (arith, sum, eqb-true a 0 e, eqb-true b 0 f)))
    go (inl e) (inr f) = rw (e, f) (ne_eqb (bit_or a b) 0 (λ q. eqb-false b 0 f (omega (arith, q, sum, and_le_l a b))))
    go (inr e) d = rw e (ne_eqb (bit_or a b) 0 (λ q. eqb-false a 0 e (omega (arith, q, sum, and_le_r a b))))

member_append : (x : ℕ) (l m : List ℕ) → member x (l ++ m) ≡ (member x l || member x m)
unfolding member
member_append x [] m = refl
member_append x (y ∷ l) m = ap (λ (t : Bool). eqb x y || t) (member_append x l m) ∙ or_assoc (eqb x y) (member x l) (member x m)
  where
    or_assoc : (a b c : Bool) → (a || (b || c)) ≡ ((a || b) || c)
    or_assoc true b c = refl
    or_assoc false b c = refl

pub either_marked : (q r : ℕ) (l m : List ℕ) → q ≡ marks l → r ≡ marks m → not (eqb (bit_or q r) 0) ≡ member 10 (l ++ m)
either_marked q r l m e f = rw (e, f, zero_where_both (marks l) (marks m), zero_unmarked l, zero_unmarked m, member_append 10 l m) (either (member 10 l) (member 10 m))
  where
    either : (a b : Bool) → not (not a && not b) ≡ (a || b)
    either true b = refl
    either false true = refl
    either false false = refl

-- the lowest mark stands at the first 10
shifted_zeros : (k d q : ℕ) → count_trailing_zeros (k + d) (q * 2 ^ k) ≡ k + count_trailing_zeros d q
unfolding count_trailing_zeros
shifted_zeros zero d q = rw (zero-add d, mul-one q, zero-add (count_trailing_zeros d q))
shifted_zeros (suc k) d q =
    let r = shifted_zeros k d q in
    rw (suc-add k d, count_trailing_zeros, shifted_even q k, shifted_half q k, r, suc-add k (count_trailing_zeros d q))

first_marked : (l : List ℕ) → count_trailing_zeros (length l * 8) (marks l) / 8 ≡ before 10 l
unfolding marks before count_trailing_zeros
first_marked [] = refl
first_marked (b ∷ l) = go (bool (eqb b 10)) (first_marked l)
  where
    n : ℕ
    n = length l * 8

    go : (eqb b 10 ≡ true) ⊎ (eqb b 10 ≡ false) → count_trailing_zeros n (marks l) / 8 ≡ before 10 l → count_trailing_zeros (length (b ∷ l) * 8) (marks (b ∷ l)) / 8 ≡ before 10 (b ∷ l)
    go (inl e) r =
        let digits : suc (length l) * 8 ≡ 7 + suc n = omega arith in
        let odd : marks l * 256 + 128 ≡ (marks l * 2 + 1) * 2 ^ 7 = omega arith in
        let low : (marks l * 2 + 1) % 2 ≡ 1 = omega arith in
        rw (marks, before, e, digits, odd, shifted_zeros 7 (suc n) (marks l * 2 + 1), count_trailing_zeros, low)
    go (inr e) r =
        let digits : suc (length l) * 8 ≡ 8 + n = omega arith in
        let even : marks l * 256 + 0 ≡ marks l * 2 ^ 8 = omega arith in
        let next : (8 + count_trailing_zeros n (marks l)) / 8 ≡ suc (count_trailing_zeros n (marks l) / 8) = omega arith in
        rw (marks, before, e, digits, even, shifted_zeros 8 n (marks l), next, r)

pub word_first : (w : ℕ) → count_trailing_zeros 64 (marks (low_bytes 8 w)) / 8 ≡ before 10 (low_bytes 8 w)
unfolding low_bytes
word_first w = first_marked (low_bytes 8 w)
