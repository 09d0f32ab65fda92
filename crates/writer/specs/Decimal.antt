-- Laws of decimals: the digits before the last are those of the tenth, and how many there are. Assumes nothing.
use Rattle.std.specs.Prelude.{List, [], ◌∷◌, ◌++◌, ◌≡◌, ℕ, zero, suc, ◌+◌, ◌/◌, ◌%◌, ◌^◌, ◌≤◌, ◌<◌, length, set}
use Rattle.std.proofs.Common.{sym, ap, ◌∙◌, zero-le, suc-le-suc, div-lt_iff_lt-mul, pow-suc, arith, lit<, length-append, lt-ltb, le-ltb}
use Rattle.std.proofs.Math.Decide.{dec_lt}
use Rattle.rules.specs.Listing.{digits, decimal}
use Rattle.writer.specs.Wrote.{Wrote, wrote_then, wrote_byte}

pub small : (f n : ℕ) → n < 10 → digits (suc f) n ≡ (48 + n) ∷ []
unfolding digits
small f n h = rw (digits, lt-ltb n 10 h)

pub large : (f n : ℕ) → 10 ≤ n → digits (suc f) n ≡ digits f (n / 10) ++ ((48 + n % 10) ∷ [])
unfolding digits
large f n h = rw (digits, le-ltb n 10 h)

-- more room than needed changes nothing
digits_more : (f n : ℕ) → n < 10 ^ suc f → digits (suc f) n ≡ digits (suc (suc f)) n
digits_more zero n h = small 0 n h ∙ sym (small 1 n h)
digits_more (suc f) n h =
    elim (dec_lt n 10) [
      | yes lt ↦ small (suc f) n lt ∙ sym (small (suc (suc f)) n lt)
      | no ge ↦
          large (suc f) n (omega arith)
          ∙ ap (λ (l : List ℕ). l ++ ((48 + n % 10) ∷ [])) (digits_more f (n / 10) ((div-lt_iff_lt-mul (lit< tt)).1 (rw (pow-suc 10 (suc f)) at h)))
          ∙ sym (large (suc (suc f)) n (omega arith))
    ]

pub decimal_small : (n : ℕ) → n < 10 → decimal n ≡ (48 + n) ∷ []
unfolding decimal
decimal_small n h = small 19 n h

pub decimal_large : (n : ℕ) → 10 ≤ n → n < 2 ^ 64 → decimal n ≡ decimal (n / 10) ++ ((48 + n % 10) ∷ [])
unfolding decimal
decimal_large n h lt = large 19 n h ∙ ap (λ (l : List ℕ). l ++ ((48 + n % 10) ∷ [])) (digits_more 18 (n / 10) (omega arith))

length_large : (n : ℕ) → 10 ≤ n → n < 2 ^ 64 → length (decimal n) ≡ length (decimal (n / 10)) + 1
length_large n h lt = ap length (decimal_large n h lt) ∙ length-append (decimal (n / 10)) ((48 + n % 10) ∷ [])

-- a number below 10 to the f has at most f digits, where f is not 0
pub digits_few : (f m n : ℕ) → suc f ≤ m → n < 10 ^ suc f → length (digits m n) ≤ suc f
digits_few f zero n le h = absurd (omega arith)
digits_few zero (suc m) n le h = rw (small m n h) (suc-le-suc zero-le)
digits_few (suc f) (suc m) n le h =
    elim (dec_lt n 10) [
      | yes lt ↦ rw (small m n lt) (suc-le-suc zero-le)
      | no ge ↦
          let i = digits_few f m (n / 10) (omega arith) ((div-lt_iff_lt-mul (lit< tt)).1 (rw (pow-suc 10 (suc f)) at h)) in
          rw (large m n (omega arith), length-append (digits m (n / 10)) ((48 + n % 10) ∷ [])) (omega (arith, i))
    ]

pub decimal_few : (n : ℕ) → n < 2 ^ 64 → length (decimal n) ≤ 20
unfolding decimal
decimal_few n h = digits_few 19 20 n (omega arith) (omega arith)

-- 32 bits have at most 10 digits
pub decimal_few32 : (n : ℕ) → n < 2 ^ 32 → length (decimal n) ≤ 10
unfolding decimal
decimal_few32 n h = digits_few 9 20 n (omega arith) (omega arith)

-- the two ways of the writer
pub put_small : (out : List ℕ) (at n : ℕ) → n < 10 → at + length (decimal n) ≤ length out → (at < length out) × Wrote out (set out at (48 + n)) at (at + 1) (decimal n)
put_small out at n h room =
    let e : decimal n ≡ (48 + n) ∷ [] = decimal_small n h in
    let i : at < length out = omega (arith, ap length e, room) in
    (i, rw e (wrote_byte out at (48 + n) i))

pub room_large : (n at k : ℕ) → 10 ≤ n → n < 2 ^ 64 → at + length (decimal n) ≤ k → at + length (decimal (n / 10)) < k
room_large n at k h lt room = omega (arith, length_large n h lt)

pub put_large : (out out₁ : List ℕ) (at end n : ℕ) → 10 ≤ n → n < 2 ^ 64 → Wrote out out₁ at end (decimal (n / 10)) → end < length out₁
    → Wrote out (set out₁ end (48 + n % 10)) at (end + 1) (decimal n)
put_large out out₁ at end n h lt w i = rw (decimal_large n h lt) (wrote_then w (wrote_byte out₁ end (48 + n % 10) i))
