-- How a verdict comes about: the first check that fails gives its number, and those that pass are skipped. Assumes nothing.
use Rattle.std.specs.Prelude.{◌≡◌, refl, Bool, true, false, not, ◌&&◌, ◌||◌, ℕ, ◌-◌, ◌≤◌, ◌<◌, get_or, ltb}
use Rattle.std.proofs.Math.Path.{sym}
use Rattle.std.proofs.Common.{ap, ◌∙◌, true≢false, arith}
use mathlib.Core.List.{List, [], ◌∷◌}
use Rattle.std.proofs.Math.Bool.{or-false}
use Rattle.std.proofs.Math.Dec.{leb}
use Rattle.std.proofs.Math.Decide.{dec_lt}
use borrow.Author.Tests.{le-leb, lt-leb, le-ltb, lt-ltb, ltb-false}
use Rattle.rules.specs.Limits.{most_parallelism, most_places, last_span_limit}
use Rattle.rules.specs.Refusals as refusal
use Rattle.rules.specs.Checks.{Check, verdict, any, spans_needed, tally_needed, check_range}
use Rattle.rules.specs.Alone.{check_alone}
use Rattle.alone_checks.specs.Numbers.{any_short, origin_not, stray_by, stray_after, push_checks, flush_checks}

fails_here : (b : Bool) (n : ℕ) (cs : List Check) → b ≡ true → n ≡ verdict (record { fails = b; number = n } ∷ cs)
unfolding verdict
fails_here b n cs e = rw (e, verdict)

passes_here : (b : Bool) (n : ℕ) (cs : List Check) {m : ℕ} → b ≡ false → m ≡ verdict cs → m ≡ verdict (record { fails = b; number = n } ∷ cs)
unfolding verdict
passes_here b n cs e k = k ∙ rw (e, verdict)

or_none : (a b : Bool) → (a || b) ≡ false → (a ≡ false) × (b ≡ false)
or_none false b e = (refl, e)
or_none true b e = absurd (true≢false e)

-- opening
pub within : (x most : ℕ) → (ltb x 1 || ltb most x) ≡ false → x ≤ most
within x most e = ltb-false most x (or_none (ltb x 1) (ltb most x) e).1

module _ (p v s o t : ℕ) where
  -- the test of lengths that the code makes
  pub short_is : (ltb s (spans_needed p) || (ltb o v || ltb t (tally_needed p))) ≡ any_short p v s o t
  unfolding any
  short_is = rw or-false

  abbrev bad_p : Bool
  bad_p = ltb p 1 || ltb most_parallelism p

  abbrev bad_v : Bool
  bad_v = ltb v 1 || ltb most_places v

  abbrev third : List Check
  third = record { fails = any_short p v s o t; number = refusal.too_short } ∷ []

  abbrev second : List Check
  second = record { fails = bad_v; number = refusal.out_of_range } ∷ third

  pub open_p : bad_p ≡ true → refusal.out_of_range ≡ verdict (check_alone p v s o t)
  unfolding check_alone check_range
  open_p a = fails_here bad_p refusal.out_of_range second a

  module _ (a : bad_p ≡ false) where
    pub open_v : bad_v ≡ true → refusal.out_of_range ≡ verdict (check_alone p v s o t)
    unfolding check_alone check_range
    open_v b = passes_here bad_p refusal.out_of_range second a (fails_here bad_v refusal.out_of_range third b)

    from_third : {n : ℕ} → bad_v ≡ false → n ≡ verdict third → n ≡ verdict (check_alone p v s o t)
    unfolding check_alone check_range
    from_third b e = passes_here bad_p refusal.out_of_range second a (passes_here bad_v refusal.out_of_range third b e)

    pub open_short : bad_v ≡ false → any_short p v s o t ≡ true → refusal.too_short ≡ verdict (check_alone p v s o t)
    open_short b c = from_third b (fails_here (any_short p v s o t) refusal.too_short [] c)

    pub open_good : bad_v ≡ false → any_short p v s o t ≡ false → 0 ≡ verdict (check_alone p v s o t)
    unfolding verdict
    open_good b c = from_third b (passes_here (any_short p v s o t) refusal.too_short [] c refl)

-- a push
module _ (last first : ℕ) (lens : List ℕ) (N pushes : ℕ) (has : Bool) (span pos : ℕ) where
  abbrev number : ℕ
  number = verdict (push_checks last first lens N pushes has span pos)

  abbrev stray_here : Bool
  stray_here = stray_after first lens has span pos

  abbrev second_check : List Check
  second_check = record { fails = stray_here; number = refusal.not_held } ∷ []

  worn_number : (b : Bool) → (leb N pushes || leb last_span_limit last) ≡ b → b ≡ true → refusal.guide_exhausted ≡ number
  unfolding push_checks
  worn_number b e f = fails_here (leb N pushes || leb last_span_limit last) refusal.guide_exhausted second_check (e ∙ f)

  pub push_full : N ≤ pushes → refusal.guide_exhausted ≡ number
  push_full h = worn_number true (rw (le-leb N pushes h)) refl

  module _ (few : pushes < N) where
    pub push_worn : leb last_span_limit last ≡ true → refusal.guide_exhausted ≡ number
    push_worn e = worn_number true (rw (lt-leb N pushes few, e)) refl

    module _ (low : leb last_span_limit last ≡ false) where
      from_second : {n : ℕ} → n ≡ verdict second_check → n ≡ number
      unfolding push_checks
      from_second e = passes_here (leb N pushes || leb last_span_limit last) refusal.guide_exhausted second_check (rw (lt-leb N pushes few, low)) e

      pub push_stray : has ≡ true → stray_by first lens span pos ≡ true → refusal.not_held ≡ number
      unfolding stray_after
      push_stray h s = from_second (fails_here stray_here refusal.not_held [] (ap (λ b. stray_after first lens b span pos) h ∙ s))

      pub push_held : has ≡ true → stray_by first lens span pos ≡ false → 0 ≡ number
      unfolding stray_after verdict
      push_held h s = from_second (passes_here stray_here refusal.not_held [] (ap (λ b. stray_after first lens b span pos) h ∙ s) refl)

      pub push_absent : has ≡ false → 0 ≡ number
      unfolding stray_after verdict
      push_absent h = from_second (passes_here stray_here refusal.not_held [] (ap (λ b. stray_after first lens b span pos) h) refl)

-- a flush
pub flush_worn : (last : ℕ) → leb last_span_limit last ≡ true → refusal.guide_exhausted ≡ verdict (flush_checks last)
unfolding flush_checks
flush_worn last e = fails_here (leb last_span_limit last) refusal.guide_exhausted [] e

pub flush_good : (last : ℕ) → leb last_span_limit last ≡ false → 0 ≡ verdict (flush_checks last)
unfolding flush_checks verdict
flush_good last e = passes_here (leb last_span_limit last) refusal.guide_exhausted [] e refl

not_below : (a b : ℕ) → not (ltb a b) ≡ leb b a
not_below a b = elim (dec_lt a b) [ yes h ↦ rw (lt-ltb a b h, lt-leb b a h) | no h ↦ rw (le-ltb a b (omega arith), le-leb b a (omega arith)) ]

-- an `after`
module _ (first : ℕ) (lens : List ℕ) (span pos : ℕ) where
  and_false : (b : Bool) → (b && false) ≡ false
  and_false true = refl
  and_false false = refl

  pub stray_old : span < first → false ≡ stray_by first lens span pos
  unfolding stray_by
  stray_old h = sym (rw (lt-leb first span h) (and_false (origin_not span pos)))

  pub stray_home : origin_not span pos ≡ false → false ≡ stray_by first lens span pos
  unfolding stray_by
  stray_home e = sym (rw e)

  module _ (e : origin_not span pos ≡ true) (h : first ≤ span) where
    pub stray_beyond : 32 ≤ span - first → true ≡ stray_by first lens span pos
    unfolding stray_by
    stray_beyond k = sym (rw (e, le-leb first span h, le-ltb (span - first) 32 k))

    pub stray_near : span - first < 32 → leb (get_or lens (span - first) 0) pos ≡ stray_by first lens span pos
    unfolding stray_by
    stray_near k = sym (rw (e, le-leb first span h, lt-ltb (span - first) 32 k) (not_below pos (get_or lens (span - first) 0)))

module _ (p v s o t : ℕ) where
  pub short_spans : s < spans_needed p → true ≡ any_short p v s o t
  unfolding any
  short_spans h = rw (lt-ltb s (spans_needed p) h)

  pub short_order : spans_needed p ≤ s → o < v → ltb o v ≡ any_short p v s o t
  unfolding any
  short_order h k = rw (le-ltb s (spans_needed p) h, lt-ltb o v k)

  pub short_tally : spans_needed p ≤ s → v ≤ o → ltb t (tally_needed p) ≡ any_short p v s o t
  unfolding any
  short_tally h k = rw (le-ltb s (spans_needed p) h, le-ltb o v k, or-false (ltb t (tally_needed p)))

module _ (first : ℕ) (lens : List ℕ) (span pos : ℕ) where
  and_true : (b : Bool) → (b && true) ≡ b
  and_true true = refl
  and_true false = refl

  pub stray_in : first ≤ span → span - first < 32 → pos < get_or lens (span - first) 0 → false ≡ stray_by first lens span pos
  unfolding stray_by
  stray_in h k l = sym (rw (le-leb first span h, lt-ltb (span - first) 32 k, lt-ltb pos (get_or lens (span - first) 0) l) (and_false first lens span pos (origin_not span pos)))

  pub stray_out : first ≤ span → span - first < 32 → get_or lens (span - first) 0 ≤ pos → origin_not span pos ≡ stray_by first lens span pos
  unfolding stray_by
  stray_out h k l = sym (rw (le-leb first span h, lt-ltb (span - first) 32 k, le-ltb pos (get_or lens (span - first) 0) l) (and_true (origin_not span pos)))

  pub stray_far : first ≤ span → 32 ≤ span - first → origin_not span pos ≡ stray_by first lens span pos
  unfolding stray_by
  stray_far h k = sym (rw (le-leb first span h, le-ltb (span - first) 32 k) (and_true (origin_not span pos)))
