-- Laws of `digits_from` and `number` for the loop that reads digits: what is left is read with the value so far. Assumes nothing.
use mathlib.Core.List.{List, [], ◌∷◌}
use Rattle.std.proofs.Math.Bool.{true, false}
use Rattle.std.specs.Prelude.{◌&&◌, ◌⊎◌, ◌≡◌, ℕ, ◌+◌, ◌-◌, ◌*◌, ◌^◌, ◌≤◌, ◌<◌, length, drop, leb}
use Rattle.std.proofs.Common.{inl, inr, ap, ◌∙◌, zero-le, suc-le-suc, add-one, arith, drop_of_length-le, drop-cons}
use Rattle.std.proofs.Math.Option.{some, none}
use Rattle.std.proofs.Math.Path.{refl, sym}
use Rattle.std.proofs.Math.ListN.{get_or}
use borrow.Author.Tests.{lt-ltb, le-ltb, le-leb, lt-leb, eq-eqb, ne_eqb}
use Rattle.rules.specs.Job.{digits_from, leading_zero, in_64_bits, number}
use Rattle.jobtext.specs.Pieces.{bool}

-- a value past 64 bits stays past them
past : (n : ℕ) (bs : List ℕ) → 2 ^ 64 ≤ n → in_64_bits (digits_from n bs) ≡ none
unfolding digits_from in_64_bits
past n [] h = rw (in_64_bits, le-ltb n (2 ^ 64) h)
past n (b ∷ bs) h = go (bool (leb 48 b && leb b 57)) (past (n * 10 + (b - 48)) bs (omega arith))
  where
    go : (leb 48 b && leb b 57 ≡ true) ⊎ (leb 48 b && leb b 57 ≡ false) → in_64_bits (digits_from (n * 10 + (b - 48)) bs) ≡ none → in_64_bits (digits_from n (b ∷ bs)) ≡ none
    go (inl e) i = rw (digits_from, e) i
    go (inr e) i = rw (digits_from, e)

module _ (s : List ℕ) (i x : ℕ) (inside : i < length s) (inv : in_64_bits (digits_from x (drop i s)) ≡ in_64_bits (digits_from 0 s)) where
  at_byte : in_64_bits (digits_from x (get_or s i 0 ∷ drop (i + 1) s)) ≡ in_64_bits (digits_from 0 s)
  at_byte =
      let e : drop i s ≡ get_or s i 0 ∷ drop (i + 1) s = rw (add-one, drop-cons s i 0) in
      sym (ap (λ (l : List ℕ). in_64_bits (digits_from x l)) e) ∙ inv

  pub other_byte : (get_or s i 0 < 48) ⊎ (57 < get_or s i 0) → none ≡ in_64_bits (digits_from 0 s)
  unfolding digits_from in_64_bits
  other_byte e = sym (rw (digits_from, no_digit_byte (get_or s i 0) e)) ∙ at_byte
    where
      no_digit_byte : (b : ℕ) → (b < 48) ⊎ (57 < b) → leb 48 b && leb b 57 ≡ false
      no_digit_byte b (inl lt) = rw (lt-leb 48 b lt)
      no_digit_byte b (inr lt) = rw (le-leb 48 b (omega arith), lt-leb b 57 lt)

  module _ (lo : 48 ≤ get_or s i 0) (hi : get_or s i 0 ≤ 57) where
    pub one_more : in_64_bits (digits_from (x * 10 + (get_or s i 0 - 48)) (drop (i + 1) s)) ≡ in_64_bits (digits_from 0 s)
    unfolding digits_from
    one_more = sym (rw (digits_from, le-leb 48 (get_or s i 0) lo, le-leb (get_or s i 0) 57 hi)) ∙ at_byte

    pub too_large : 2 ^ 64 ≤ x * 10 + (get_or s i 0 - 48) → none ≡ in_64_bits (digits_from 0 s)
    too_large big = sym (past (x * 10 + (get_or s i 0 - 48)) (drop (i + 1) s) big) ∙ one_more

pub all_read : (s : List ℕ) (i x : ℕ) → length s ≤ i → x < 2 ^ 64 → in_64_bits (digits_from x (drop i s)) ≡ in_64_bits (digits_from 0 s) → some x ≡ in_64_bits (digits_from 0 s)
unfolding digits_from in_64_bits
all_read s i x le lt inv =
    let e : in_64_bits (digits_from x []) ≡ some x = rw (in_64_bits, lt-ltb x (2 ^ 64) lt) in
    sym e ∙ sym (ap (λ (l : List ℕ). in_64_bits (digits_from x l)) (drop_of_length-le s le)) ∙ inv

-- the ways through `number`
pub no_digit : (s : List ℕ) → length s ≡ 0 → none ≡ number s
unfolding number
no_digit s e = rw (number, lt-leb 1 (length s) (omega (arith, e)))

pub many_digits : (s : List ℕ) → 20 < length s → none ≡ number s
unfolding number
many_digits s h = rw (number, le-leb 1 (length s) (omega arith), lt-leb (length s) 20 h)

module _ (s : List ℕ) (some' : length s ≡ 0 → ⊥) (few : length s ≤ 20) where
  pub zero_first : (length s ≡ 1 → ⊥) → get_or s 0 0 ≡ 48 → none ≡ number s
  unfolding number leading_zero
  zero_first n e = rw (number, le-leb 1 (length s) (omega (arith, some')), le-leb (length s) 20 few, leads s n e)
    where
      leads : (s : List ℕ) → (length s ≡ 1 → ⊥) → get_or s 0 0 ≡ 48 → leading_zero s ≡ true
      leads [] n e = absurd (omega arith)
      leads (b ∷ []) n e = absurd (n refl)
      leads (b ∷ (c ∷ bs)) n e = eq-eqb b 48 e

  pub other_first : (length s ≡ 1) ⊎ (get_or s 0 0 ≡ 48 → ⊥) → in_64_bits (digits_from 0 s) ≡ number s
  unfolding number leading_zero
  other_first w = rw (number, le-leb 1 (length s) (omega (arith, some')), le-leb (length s) 20 few, plain s w)
    where
      plain : (s : List ℕ) → (length s ≡ 1) ⊎ (get_or s 0 0 ≡ 48 → ⊥) → leading_zero s ≡ false
      plain [] w = refl
      plain (b ∷ []) w = refl
      plain (b ∷ (c ∷ bs)) (inl e) = absurd (omega arith)
      plain (b ∷ (c ∷ bs)) (inr n) = ne_eqb b 48 n

-- a number has a digit
pub number_some : (f : List ℕ) (v : ℕ) → some v ≡ number f → 1 ≤ length f
unfolding number
number_some [] v e = let z : ◌≡◌ {A = ℕ} 0 1 = cc in omega arith
number_some (x ∷ f) v e = suc-le-suc zero-le

module _ (s : List ℕ) (i x : ℕ) (inside : i < length s) (inv : in_64_bits (digits_from x (drop i s)) ≡ in_64_bits (digits_from 0 s)) where
  pub low_byte : get_or s i 0 < 48 → none ≡ in_64_bits (digits_from 0 s)
  low_byte lt = other_byte s i x inside inv (inl lt)

  pub high_byte : 48 ≤ get_or s i 0 → 57 < get_or s i 0 → none ≡ in_64_bits (digits_from 0 s)
  high_byte le lt = other_byte s i x inside inv (inr lt)
