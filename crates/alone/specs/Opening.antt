-- What opening the guide alone promises, accepted or refused, and why it holds. Assumes nothing.
use Rattle.std.specs.Prelude.{◌≡◌, List, ◌≢◌, ℕ, ◌+◌, ◌-◌, ◌≤◌, ◌<◌, length, get_or, take, replicate, ltb, Result, Ok, Err}
use Rattle.std.proofs.Math.Path.{refl, sym, ap}
use Rattle.std.proofs.Common.{◌∙◌, arith, length-take, get_or-take, get_or-drop, ext_get_or, ltb-false}
use Rattle.std.proofs.lemmas.List.{length-replicate, get_or-replicate}
use Rattle.rules.specs.Limits.{most_parallelism, most_places}
use Rattle.rules.specs.declared.Refusal.{Refusal}
use Rattle.rules.specs.Checks.{verdict, any, check_range, spans_needed, tally_needed}
use Rattle.rules.specs.Alone.{alone, check_alone}
use Rattle.laws.specs.Accepted.{verdict_head, or_false}
use Rattle.laws.specs.Alone.{alone_initial}
use Rattle.entries.specs.Entries.{capacity}
use Rattle.entries.specs.Stored.{capacity_fits}
use Rattle.guide.specs.Fresh.{first_guide, fresh_stands, fresh_view}
use Rattle.placing.specs.GuideFrame.{GuideFrame}
use Rattle.placing.specs.Slices.{Borrowed}
use Rattle.zeros.specs.Zeros.{Cleared}
use Rattle.alone.specs.declared.Alone.{Alone}
use Rattle.alone.specs.Held.{model, Held}
use Rattle.alone.specs.Pushing.{carried}

-- the number of opening a guide over spans s, order o and tally t, the first two measured in entries
abbrev pub opening_number : ℕ → ℕ → List ℕ → List ℕ → List ℕ → ℕ
opening_number p v s o t = verdict (check_alone p v (capacity s) (capacity o) (length t))

-- a guide just opened
abbrev pub first_alone : ℕ → ℕ → Alone
first_alone p v = record { guide = first_guide p v; pushes = 0 }

-- the state after opening: refused, it is that of P 0 and V 0
abbrev pub alone_opened : Result Alone Refusal → Alone
alone_opened (Ok x) = x
alone_opened (Err e) = first_alone 0 0

-- P, V and the tally's length are within their limits
pub record Fits (p v t : ℕ) : Type 0 where
  pub few : p ≤ most_parallelism
  pub small : v ≤ most_places
  pub tally : p < t

-- x is just opened, t and t' the tally before and after: its first P + 1 counts are 0
pub record Begins (p v : ℕ) (x : Alone) (t t' : List ℕ) : Type 0 where
  pub is : x ≡ first_alone p v
  pub cleared : Cleared 0 (p + 1) t t'

-- n is the number, x the state, t and t' the tally before and after. Refused, the state is that of P 0 and V 0, and the tally is left alone
pub record Opens (p v n : ℕ) (x : Alone) (s o t t' : List ℕ) : Type 0 where
  pub number_is : n ≡ opening_number p v s o t
  pub held : n ≡ 0 → Held x s o t'
  pub is : n ≡ 0 → model x s o ≡ alone
  pub p_is : n ≡ 0 → x.guide.p ≡ p
  pub v_is : n ≡ 0 → x.guide.v ≡ v
  pub written_is : n ≡ 0 → x.guide.written ≡ 0
  pub unopened : n ≢ 0 → x ≡ first_alone 0 0
  pub rejected : n ≢ 0 → t' ≡ t
  pub tally_length : length t' ≡ length t
  pub tally_beyond : (j : ℕ) → p < j → get_or t' j 0 ≡ get_or t j 0

-- the same of a function's slices
abbrev pub OpensOver : ℕ → ℕ → ℕ → Alone → List ℕ → List ℕ → Borrowed → Type 0
OpensOver p v n x spans order tally = Opens p v n x spans order tally.entry.now tally.exit.now

-- what an accepted opening has passed
record Passed (p v s o t : ℕ) : Type 0 where
  pub one : 1 ≤ p
  pub few : p ≤ most_parallelism
  pub small : v ≤ most_places
  pub spans : spans_needed p ≤ s
  pub order : v ≤ o
  pub tally : p < t

passed : (p v s o t : ℕ) → verdict (check_alone p v s o t) ≡ 0 → Passed p v s o t
unfolding check_alone check_range any
passed p v s o t z =
    let a = verdict_head _ _ z (omega arith) in
    let b = verdict_head _ _ a.1 (omega arith) in
    let c = verdict_head _ _ b.1 (omega arith) in
    let pa = or_false (ltb p 1) (ltb most_parallelism p) a.0 in
    let pb = or_false (ltb v 1) (ltb most_places v) b.0 in
    let pc = or_false (ltb s (spans_needed p)) _ c.0 in
    let pd = or_false (ltb o v) _ pc.1 in
    let pe = or_false (ltb t (tally_needed p)) _ pd.1 in
    record {
      one = omega (arith, ltb-false p 1 pa.0);
      few = omega (arith, ltb-false most_parallelism p pa.1);
      small = omega (arith, ltb-false most_places v pb.1);
      spans = omega (arith, ltb-false s (spans_needed p) pc.0);
      order = omega (arith, ltb-false o v pd.0);
      tally = omega (arith, ltb-false t (tally_needed p) pe.0);
    }

pub fits : (p v : ℕ) (s o t : List ℕ) → opening_number p v s o t ≡ 0 → Fits p v (length t)
fits p v s o t z = let q = passed p v (capacity s) (capacity o) (length t) z in record { few = q.few; small = q.small; tally = q.tally }

cleared_front : (p : ℕ) (t t' : List ℕ) → p < length t → Cleared 0 (p + 1) t t' → take (p + 1) t' ≡ replicate (p + 1) 0
cleared_front p t t' h c =
    ext_get_or 0 (take (p + 1) t') (replicate (p + 1) 0) (simp (length-take, length-replicate) (omega (arith, c.long)))
    (λ i k. let l : i < p + 1 = omega (arith, length-take (p + 1) t') in get_or-take (p + 1) t' i 0 l ∙ c.zero i (omega arith) l ∙ sym (get_or-replicate {A = ℕ} (p + 1) i 0 0 l))

cleared_beyond : (p : ℕ) (t t' : List ℕ) → Cleared 0 (p + 1) t t' → (j : ℕ) → p < j → get_or t' j 0 ≡ get_or t j 0
cleared_beyond p t t' c j h =
    let e : j ≡ (p + 1) + (j - (p + 1)) = omega arith in
    ap (λ k. get_or t' k 0) e ∙ sym (get_or-drop (p + 1) t' (j - (p + 1)) 0) ∙ ap (λ l. get_or l (j - (p + 1)) 0) c.beyond ∙ get_or-drop (p + 1) t (j - (p + 1)) 0 ∙ ap (λ k. get_or t k 0) (sym e)

-- an opening leaves alone all but the tally's first P + 1 counts
pub open_frame : (p v m n : ℕ) (x : Alone) (s o t t' : List ℕ) → Opens p v m x s o t t' → GuideFrame p n n s o t s o t'
open_frame p v m n x s o t t' a =
    record {
      spans_length = refl;
      order_length = refl;
      tally_length = a.tally_length;
      spans_beyond = λ j h. refl;
      grows = omega arith;
      order_kept = λ j h. refl;
      order_beyond = λ j h. refl;
      tally_beyond = a.tally_beyond;
    }

model_fresh : (p v : ℕ) (s o : List ℕ) → model (first_alone p v) s o ≡ alone
unfolding model alone
model_fresh p v s o = let g = fresh_view p v s o in cc

module _ (p v n : ℕ) (x : Alone) (s o t : List ℕ) (en : n ≡ opening_number p v s o t) where
  pub open_refused : n ≢ 0 → x ≡ first_alone 0 0 → Opens p v n x s o t t
  open_refused z e =
      record {
        number_is = en;
        held = λ k. absurd (z k);
        is = λ k. absurd (z k);
        p_is = λ k. absurd (z k);
        v_is = λ k. absurd (z k);
        written_is = λ k. absurd (z k);
        unopened = λ k. e;
        rejected = λ k. refl;
        tally_length = refl;
        tally_beyond = λ j k. refl;
      }

  pub open_served : (t' : List ℕ) → n ≡ 0 → Begins p v x t t' → Opens p v 0 x s o t t'
  unfolding first_guide
  open_served t' z b =
      let e = b.is in
      let c = b.cleared in
      let q = passed p v (capacity s) (capacity o) (length t) (sym en ∙ z) in
      let st = fresh_stands p v s o t' q.one q.few q.small
      (capacity_fits s (spans_needed p) q.spans) (capacity_fits o v q.order)
      (omega (arith, q.tally, c.long)) (cleared_front p t t' q.tally c) in
      let m = model_fresh p v s o in
      record {
        number_is = sym z ∙ en;
        held = λ k. rw e (record { stands = st; sound = carried refl refl m (alone_initial p v q.one) });
        is = λ k. rw e m;
        p_is = λ k. ap (λ y. y.guide.p) e;
        v_is = λ k. ap (λ y. y.guide.v) e;
        written_is = λ k. ap (λ y. y.guide.written) e;
        unopened = λ k. absurd (k refl);
        rejected = λ k. absurd (k refl);
        tally_length = c.long;
        tally_beyond = cleared_beyond p t t' c;
      }
