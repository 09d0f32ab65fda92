-- Laws of the exported call: the check of the sum, the number in each case, and the summary written in its parts. Assumes nothing.
use Rattle.std.specs.Prelude.{◌≡◌, refl, List, [], ◌∷◌, ◌++◌, Bool, true, false, not, cond, length, take, drop, set, T, ltb}
use Rattle.std.proofs.Math.Path.{sym}
use Rattle.std.proofs.Common.{ap, ◌∙◌, subst, arith, take_all, drop-drop}
use Prim.Native.Nat.{ℕ, zero, suc, ◌+◌, ◌-◌, ◌*◌, ◌/◌, ◌%◌, ◌^◌, ◌≤◌, ◌<◌, compare}
use Rattle.std.proofs.Math.Decide.{dec_lt}
use Rattle.std.proofs.Math.Seq.{paste}
use Rattle.std.proofs.lemmas.List.Edits.{take-paste, drop-paste}
use Rattle.std.specs.Float.{inf, Format, binary32}
use Rattle.std.specs.Float.Ieee.{prec, emax, low, size, nearest, odd, units, round, is_nan}
use borrow.Author.Tests.{lt-ltb, le-ltb}
use Rattle.rules.specs.Limits.{most_places, average_divisor, low_counts, sums_of_thousands}
use Rattle.rules.specs.Refusals as refusal
use Rattle.rules.specs.Checks.{verdict}
use Rattle.rules.specs.Summary.{Figures, sum, average, figures}
use Rattle.summary.specs.declared.Summary.{Summary}
use Rattle.figures.specs.Small.{most_counts, Small}
use Rattle.figures.specs.Loops.{counts_length, thousands_length}
use Rattle.summary.specs.Figured.{figured, Writable}
use Rattle.summary.specs.Layout.{summary_size, summary_numbers, check_tally, summary_number, summary_after}
use Rattle.std.proofs.Common.{length-take-le}
use Rattle.summary.specs.Figured.{Tallied}

-- a rounded fraction is a number
cond_number : (b : Bool) (d : ℕ) (s : Bool) (q k l : ℕ) → T (not (is_nan (cond b (odd d s q k l) (inf s))))
unfolding odd is_nan
cond_number true d s zero k l = tt
cond_number true d s (suc q) k l = tt
cond_number false d s q k l = tt

units_number : (f : Format) (s : Bool) (q k : ℕ) → T (not (is_nan (units f s q k)))
unfolding units
units_number f s q k = cond_number (ltb (q * 2 ^ k) (2 ^ (low f + suc (emax f)))) (suc (prec f)) s q k (low f)

pub round_number : (f : Format) (s : Bool) (num den : ℕ) → T (not (is_nan (round f s num den)))
unfolding round
round_number f s num den =
    let n = num * 2 ^ low f in
    let k = size (n / den) - prec f in
    let u = den * 2 ^ k in
    units_number f s (nearest (n / u) (compare (n % u * 2) u)) k

-- the summary of a tally can be written
pub writable : (s : Summary) (t : List ℕ) → figured s ≡ figures t → Writable s
unfolding figures average
writable s t e =
    record {
      number = subst (λ x. T (not (is_nan x))) (sym (ap (λ f. f.average) e)) (round_number binary32 false (sum t) average_divisor);
      low = ap (λ f. length f.low) e ∙ counts_length low_counts 0 t;
      thousands = ap (λ f. length f.thousands) e ∙ thousands_length sums_of_thousands 0 t;
    }

-- the number in each case
module _ (t : List ℕ) (count : ℕ) where
  pub too_long : most_counts < length t → refusal.out_of_range ≡ summary_number t count
  unfolding summary_number check_tally verdict
  too_long h = rw (lt-ltb most_counts (length t) h)

  pub too_great : length t ≤ most_counts → true ≡ ltb most_places (sum t) → refusal.out_of_range ≡ summary_number t count
  unfolding summary_number check_tally verdict
  too_great h e = rw (le-ltb most_counts (length t) h, sym e)

  pub too_few : length t ≤ most_counts → false ≡ ltb most_places (sum t) → count < summary_size → refusal.too_short ≡ summary_number t count
  unfolding summary_number check_tally verdict
  too_few h e l = rw (le-ltb most_counts (length t) h, sym e, lt-ltb count summary_size l)

  pub fine : length t ≤ most_counts → false ≡ ltb most_places (sum t) → summary_size ≤ count → 0 ≡ summary_number t count
  unfolding summary_number check_tally verdict
  fine h e l = rw (le-ltb most_counts (length t) h, sym e, le-ltb count summary_size l)

  -- what an accepted call may presume
  pub accepted : summary_number t count ≡ 0 → (Small t) × (summary_size ≤ count)
  accepted e = elim (dec_lt most_counts (length t)) [ yes h ↦ absurd (omega (arith, e, too_long h)) | no h ↦ short (omega arith) ]
    where
      room : length t ≤ most_counts → sum t ≤ most_places → (Small t) × (summary_size ≤ count)
      room a b = elim (dec_lt count summary_size) [ yes h ↦ absurd (omega (arith, e, too_few a (sym (le-ltb most_places (sum t) b)) h)) | no h ↦ (record { few = a; total = b }, omega arith) ]

      short : length t ≤ most_counts → (Small t) × (summary_size ≤ count)
      short a = elim (dec_lt most_places (sum t)) [ yes h ↦ absurd (omega (arith, e, too_great a (sym (lt-ltb most_places (sum t) h)))) | no h ↦ room a (omega arith) ]

-- the lent numbers after an accepted and after a refused call
pub after_done : (n : ℕ) (t before : List ℕ) (f : Figures) → n ≡ 0 → f ≡ figures t → summary_numbers f ++ drop summary_size before ≡ summary_after n t before
unfolding summary_after
after_done n t before f e g = rw (e, g)

pub after_refused : (n : ℕ) (t before : List ℕ) → (n ≡ 0 → ⊥) → before ≡ summary_after n t before
unfolding summary_after
after_refused zero t before h = absurd (h refl)
after_refused (suc n) t before h = refl

-- the summary written in its parts: two numbers, then the counts, then the sums
pub written : (b m : ℕ) (counts sums to x y : List ℕ) → length counts ≡ low_counts → length sums ≡ sums_of_thousands → summary_size ≤ length to
    → x ≡ paste (set (set to 0 b) 1 m) 2 counts (length counts) → y ≡ paste x 130 sums (length sums) → y ≡ (b ∷ m ∷ (counts ++ sums)) ++ drop summary_size to
written b m counts sums [] x y el es h ex ey = absurd (omega arith)
written b m counts sums (p ∷ []) x y el es h ex ey = absurd (omega arith)
written b m counts sums (p ∷ (q ∷ to)) x y el es h ex ey =
    ey' ∙ ap (λ l. l ++ take 65 sums ++ drop summary_size x) head ∙ ap (λ l. (b ∷ m ∷ counts) ++ l ++ drop summary_size x) (take_all 65 sums (omega arith))
    ∙ ap (λ l. (b ∷ m ∷ (counts ++ sums)) ++ l) rest
  where
    a : List ℕ
    a = b ∷ m ∷ to

    ex' : x ≡ paste a 2 counts 128
    ex' = ex ∙ ap (paste a 2 counts) el

    ey' : y ≡ paste x 130 sums 65
    ey' = ey ∙ ap (paste x 130 sums) es

    head : take 130 x ≡ b ∷ m ∷ counts
    head = ap (take 130) ex' ∙ take-paste a 2 counts 128 (omega arith) (omega arith) ∙ ap (λ l. b ∷ m ∷ l) (take_all 128 counts (omega arith))

    rest : drop summary_size x ≡ drop summary_size a
    rest = sym (drop-drop 65 130 x) ∙ ap (drop 65) (ap (drop 130) ex' ∙ drop-paste a 2 counts 128 (omega arith) (omega arith)) ∙ drop-drop 65 130 a

-- the counts of a tally that final sums up
pub small : (t : List ℕ) (P : ℕ) → Tallied t P → Small (take (P + 1) t)
small t P h = record { few = omega (arith, length-take-le (P + 1) t h.stored, h.most); total = h.total }
