-- What a writer promises: its text was put where it stood, it stands behind it, and it still writes into the same bytes. Assumes nothing.
use Rattle.std.specs.Prelude.{List, [], ◌∷◌, ◌++◌, ◌≡◌, refl, ℕ, ◌+◌, ◌/◌, ◌%◌, ◌^◌, ◌≤◌, ◌<◌, length}
use Rattle.std.proofs.Common.{sym, ◌∙◌, subst, arith, length-append}
use Rattle.rules.specs.Listing.{decimal, field, line}
use Rattle.writer.specs.declared.Writer.{Writer}
use Rattle.writer.specs.Wrote.{Wrote, wrote_then, wrote_none}
use Rattle.writer.specs.Decimal.{decimal_small, decimal_large}

-- there is room for the text
abbrev pub Fits : Writer → List ℕ → Type 0
Fits w text = w.at + length text ≤ length w.out.now

pub record Written (a b : Writer) (text : List ℕ) : Type 0 where
  pub wrote : Wrote a.out.now b.out.now a.at b.at text
  pub size : length b.out.now ≡ length a.out.now
  pub same : b.out.ghost_name ≡ a.out.ghost_name

-- nothing, and one text after another
pub written_none : (a : Writer) → Written a a []
written_none a = record { wrote = wrote_none a.out.now a.at; size = refl; same = refl }

pub written_then : {a b c : Writer} {t u : List ℕ} → Written a b t → Written b c u → Written a c (t ++ u)
written_then x y = record { wrote = wrote_then x.wrote y.wrote; size = y.size ∙ x.size; same = y.same ∙ x.same }

-- what the bytes are that a writer wrote into
pub wrote_into : {a b : Writer} {x t : List ℕ} → Written a b t → x ≡ b.out.now → Wrote a.out.now x a.at b.at t
wrote_into {a} {b} {x} {t} w e = subst (λ (y : List ℕ). Wrote a.out.now y a.at b.at t) (sym e) w.wrote

-- room for both is room for the first, and then for the other
pub fits_first : (a : Writer) (t u : List ℕ) → Fits a (t ++ u) → Fits a t
fits_first a t u h = omega (arith, length-append t u, h)

pub fits_then : {a b : Writer} {t : List ℕ} (u : List ℕ) → Fits a (t ++ u) → Written a b t → Fits b u
fits_then {a} {b} {t} u h x = omega (arith, length-append t u, h, x.wrote.next, x.size)

-- a number's digits before the last were written
pub record Led (a b : Writer) (n : ℕ) : Type 0 where
  pub text : List ℕ
  pub is : decimal n ≡ text ++ ((48 + n % 10) ∷ [])
  pub written : Written a b text

pub led_small : (a : Writer) (n : ℕ) → n < 10 → Led a a n
led_small a n h = let e : n % 10 ≡ n = omega arith in record { text = []; is = rw e (decimal_small n h); written = written_none a }

pub led_large : {a b : Writer} (n : ℕ) → 10 ≤ n → n < 2 ^ 64 → Written a b (decimal (n / 10)) → Led a b n
led_large n h lt x = record { text = decimal (n / 10); is = decimal_large n h lt; written = x }

pub fits_large : (a : Writer) (n : ℕ) → 10 ≤ n → n < 2 ^ 64 → Fits a (decimal n) → Fits a (decimal (n / 10))
fits_large a n h lt f = fits_first a (decimal (n / 10)) ((48 + n % 10) ∷ []) (subst (Fits a) (decimal_large n h lt) f)

pub fits_last : {a b : Writer} (n : ℕ) → Fits a (decimal n) → Led a b n → Fits b ((48 + n % 10) ∷ [])
fits_last {a} n f x = fits_then ((48 + n % 10) ∷ []) (subst (Fits a) x.is f) x.written

pub written_last : {a b c : Writer} (n : ℕ) → Led a b n → Written b c ((48 + n % 10) ∷ []) → Written a c (decimal n)
written_last {a} {b} {c} n x y = subst (Written a c) (sym x.is) (written_then x.written y)

-- a word with its number, and the same as a line
pub written_field : {a b c : Writer} {word : List ℕ} (n : ℕ) → Written a b word → Written b c (decimal n) → Written a c (field word n)
unfolding field
written_field n x y = written_then x y

pub fits_word : (a : Writer) (word : List ℕ) (n : ℕ) → Fits a (field word n) → Fits a word
unfolding field
fits_word a word n f = fits_first a word (decimal n) f

pub fits_number : {a b : Writer} {word : List ℕ} (n : ℕ) → Fits a (field word n) → Written a b word → Fits b (decimal n)
unfolding field
fits_number n f x = fits_then (decimal n) f x

pub written_line : {a b c : Writer} (word : List ℕ) (n : ℕ) → Written a b (field word n) → Written b c (10 ∷ []) → Written a c (line word n)
unfolding line
written_line word n x y = written_then x y

pub fits_field : (a : Writer) (word : List ℕ) (n : ℕ) → Fits a (line word n) → Fits a (field word n)
unfolding line
fits_field a word n f = fits_first a (field word n) (10 ∷ []) f

pub fits_end : {a b : Writer} (word : List ℕ) (n : ℕ) → Fits a (line word n) → Written a b (field word n) → Fits b (10 ∷ [])
unfolding line
fits_end word n f x = fits_then (10 ∷ []) f x
