-- What an accepted call has passed: each check of its list (document 01, "Refused by the input, refused by the state"), as a fact.
-- A record for each of the four calls; the other invariants take from it what they need.
use Rattle.std.specs.Prelude.{◌≡◌, refl, List, [], ◌∷◌, ◌++◌, ◌⊎◌, ◌≢◌, Bool, true, false, ◌||◌, ℕ, ◌+◌, ◌≤◌, ◌<◌, length, leb, ltb, eqb}
use Rattle.std.proofs.Common.{sym, inl, inr, arith, ltb-false, leb-false, ne_eqb}
use mathlib.Core.List.Memᴰ
use Rattle.std.proofs.lemmas.Bool.{false≢true, eqb-false}
use Rattle.rules.specs.Limits.{most_lane, most_in_a_list, most_flushes, reply_radix}
use Rattle.rules.specs.Refusals as refusal
use Rattle.rules.specs.Model.{Model}
use Rattle.rules.specs.Calls.{Call, set, add, flush, final, checks, answer, unless_refused}
use Rattle.rules.specs.Checks.{Check, Sizes, verdict, any, repeats, taken, pooled, check_range, check_open, check_set, check_add, check_flush, check_final, check_closed, check_places}
use Rattle.laws.specs.ModelBase.{In, bool_cases}

-- a list of checks gives 0: its first passes, and so do the others
pub verdict_head : (c : Check) (cs : List Check) → verdict (c ∷ cs) ≡ 0 → c.number ≢ 0 → (c.fails ≡ false) × (verdict cs ≡ 0)
unfolding verdict
verdict_head c cs h n = go (bool_cases c.fails)
  where
    go : (c.fails ≡ true) ⊎ (c.fails ≡ false) → (c.fails ≡ false) × (verdict cs ≡ 0)
    go (inl e) = absurd (n (rw (e, verdict) at h))
    go (inr e) = (e, rw (e, verdict) at h)

-- what a list of checks gives, where it does not pass, is what it gives with others after it
pub verdict_first : (cs ds : List Check) → verdict cs ≢ 0 → verdict (cs ++ ds) ≡ verdict cs
unfolding verdict
verdict_first [] ds h = absurd (h refl)
verdict_first (c ∷ cs) ds h = go (bool_cases c.fails) (λ z. verdict_first cs ds z)
  where
    go : (c.fails ≡ true) ⊎ (c.fails ≡ false) → (verdict cs ≢ 0 → verdict (cs ++ ds) ≡ verdict cs) → verdict (c ∷ (cs ++ ds)) ≡ verdict (c ∷ cs)
    go (inl e) f = rw (e, verdict)
    go (inr e) f = rw (e, verdict) (f (λ z. h (rw (e, verdict) z)))

-- where `a || b` is false, both are
pub or_false : (a b : Bool) → (a || b) ≡ false → (a ≡ false) × (b ≡ false)
or_false true b h = absurd (false≢true (sym h))
or_false false b h = (refl, h)

-- a list of checks does not give a number that none of them has
pub verdict_other : (m : ℕ) (cs : List Check) → m ≢ 0 → any (λ (c : Check). eqb c.number m) cs ≡ false → verdict cs ≢ m
unfolding verdict any
verdict_other m [] h n = λ e. h (sym e)
verdict_other m (c ∷ cs) h n = go c.fails (verdict_other m cs h others.1)
  where
    others : (eqb c.number m ≡ false) × (any (λ (d : Check). eqb d.number m) cs ≡ false)
    others = or_false (eqb c.number m) (any (λ (d : Check). eqb d.number m) cs) n

    go : (t : Bool) → verdict cs ≢ m → elim t [ true ↦ c.number | false ↦ verdict cs ] ≢ m
    go true f = eqb-false c.number m others.0
    go false f = f

-- the state after an accepted and after a refused call
pub accepted_is : {A : Type 0} (n : ℕ) (x y : A) → n ≡ 0 → unless_refused n x y ≡ y
unfolding unless_refused
accepted_is n x y e = rw (e, unless_refused)

pub refused_is : {A : Type 0} (n : ℕ) (x y : A) → n ≢ 0 → unless_refused n x y ≡ x
unfolding unless_refused
refused_is n x y e = rw (ne_eqb n 0 e, unless_refused)

-- a test that fails on a whole list fails on each
pub any_false : (t : ℕ → Bool) (l : List ℕ) (i : ℕ) → any t l ≡ false → In i l → t i ≡ false
unfolding any
any_false t [] i h y = absurd (Memᴰ.not-nil y)
any_false t (x ∷ l) i h y = go (bool_cases (t x)) (Memᴰ.cases_cons y) (λ z. any_false t l i z)
  where
    go : (t x ≡ true) ⊎ (t x ≡ false) → (i ≡ x) ⊎ In i l → (any t l ≡ false → In i l → t i ≡ false) → t i ≡ false
    go (inl e) y f = absurd (false≢true (sym (rw e at h)))
    go (inr e) (inl y) f = rw y e
    go (inr e) (inr y) f = f (rw e at h) y

-- what each call has passed where its number is 0
pub record SetPassed (N x : ℕ) (k : Model) : Type 0 where
  pub not_closed : k.closed ≡ false
  pub inside : x < N
  pub free : taken k x ≡ false

pub record AddPassed (N W lane : ℕ) (ins outs : List ℕ) (k : Model) : Type 0 where
  pub not_closed : k.closed ≡ false
  pub lane_few : lane ≤ most_lane
  pub ins_few : length ins ≤ most_in_a_list
  pub outs_few : length outs ≤ most_in_a_list
  pub ins_inside : (i : ℕ) → In i ins → i < N
  pub outs_inside : (i : ℕ) → In i outs → i < N
  pub once : repeats outs ≡ false
  pub free : (i : ℕ) → In i outs → taken k i ≡ false
  pub more : length k.adds < N
  pub room : pooled k.adds + length ins + length outs ≤ W

pub record FlushPassed (k : Model) : Type 0 where
  pub not_closed : k.closed ≡ false
  pub few : k.flushes < most_flushes

pub record FinalPassed (k : Model) : Type 0 where
  pub not_closed : k.closed ≡ false
  pub none : length k.pending ≡ 0

-- each call's record from its number
pub set_passed : (N W x : ℕ) (k : Model) → answer N W (set x) k ≡ 0 → SetPassed N x k
unfolding answer checks check_set check_add check_flush check_final check_closed check_places any
set_passed N W x k h =
    let a = verdict_head _ _ h (omega arith) in
    let b = verdict_head _ _ a.1 (omega arith) in
    let c = verdict_head _ _ b.1 (omega arith) in
    let d = verdict_head _ _ c.1 (omega arith) in
    record { not_closed = a.0; inside = leb-false N x (any_false (λ y. leb N y) (x ∷ []) x c.0 (Memᴰ.head refl)); free = d.0 }

pub add_passed : (N W lane : ℕ) (ins outs : List ℕ) (k : Model) → answer N W (add lane ins outs) k ≡ 0 → AddPassed N W lane ins outs k
unfolding answer checks check_set check_add check_flush check_final check_closed check_places
add_passed N W lane ins outs k h =
    let a = verdict_head _ _ h (omega arith) in
    let l = verdict_head _ _ a.1 (omega arith) in
    let b = verdict_head _ _ l.1 (omega arith) in
    let c = verdict_head _ _ b.1 (omega arith) in
    let d = verdict_head _ _ c.1 (omega arith) in
    let e = verdict_head _ _ d.1 (omega arith) in
    let f = verdict_head _ _ e.1 (omega arith) in
    let g = verdict_head _ _ f.1 (omega arith) in
    let m = verdict_head _ _ g.1 (omega arith) in
    record {
      not_closed = a.0;
      lane_few = ltb-false most_lane lane l.0;
      ins_few = ltb-false most_in_a_list (length ins) (or_false (ltb most_in_a_list (length ins)) (ltb most_in_a_list (length outs)) b.0).0;
      outs_few = ltb-false most_in_a_list (length outs) (or_false (ltb most_in_a_list (length ins)) (ltb most_in_a_list (length outs)) b.0).1;
      ins_inside = λ i y. leb-false N i (any_false (λ x. leb N x) (ins ++ outs) i d.0 (Memᴰ.append_left outs y));
      outs_inside = λ i y. leb-false N i (any_false (λ x. leb N x) (ins ++ outs) i d.0 (Memᴰ.append_right ins y));
      once = e.0;
      free = λ i y. any_false (taken k) outs i f.0 y;
      more = leb-false N (length k.adds) g.0;
      room = ltb-false W (pooled k.adds + length ins + length outs) m.0;
    }

pub flush_passed : (N W : ℕ) (k : Model) → answer N W flush k ≡ 0 → FlushPassed k
unfolding answer checks check_set check_add check_flush check_final check_closed check_places
flush_passed N W k h =
    let a = verdict_head _ _ h (omega arith) in
    let b = verdict_head _ _ a.1 (omega arith) in
    record { not_closed = a.0; few = leb-false most_flushes k.flushes b.0 }

pub final_passed : (N W : ℕ) (k : Model) → answer N W final k ≡ 0 → FinalPassed k
unfolding answer checks check_set check_add check_flush check_final check_closed check_places
final_passed N W k h =
    let a = verdict_head _ _ h (omega arith) in
    let b = verdict_head _ _ a.1 (omega arith) in
    record { not_closed = a.0; none = omega (arith, ltb-false 0 (length k.pending) b.0) }

-- a refusal's number has room beside a line in the number that a host gets
abbrev pub Code : ℕ → Type 0
Code n = n < reply_radix

-- and that of a call or an opening is none of a job's text
abbrev pub CallCode : ℕ → Type 0
CallCode n = Code n × (n ≢ refusal.malformed) × (n ≢ refusal.long_job)

other_code : ℕ → Bool
other_code n = leb reply_radix n || (eqb n refusal.malformed || eqb n refusal.long_job)

-- where no check of a list has another number
verdict_code : (cs : List Check) → any (λ c. other_code c.number) cs ≡ false → CallCode (verdict cs)
unfolding verdict any other_code
verdict_code [] h = (omega arith, omega arith, omega arith)
verdict_code (c ∷ cs) h = go (bool_cases c.fails) (verdict_code cs rest.1)
  where
    rest : (other_code c.number ≡ false) × (any (λ d. other_code d.number) cs ≡ false)
    rest = or_false (other_code c.number) (any (λ d. other_code d.number) cs) h

    own : CallCode c.number
    own =
        let a = or_false (leb reply_radix c.number) (eqb c.number refusal.malformed || eqb c.number refusal.long_job) rest.0 in
        let b = or_false (eqb c.number refusal.malformed) (eqb c.number refusal.long_job) a.1 in
        (leb-false reply_radix c.number a.0, eqb-false c.number refusal.malformed b.0, eqb-false c.number refusal.long_job b.1)

    go : (c.fails ≡ true) ⊎ (c.fails ≡ false) → CallCode (verdict cs) → CallCode (verdict (c ∷ cs))
    go (inl e) f = rw (verdict, e) own
    go (inr e) f = rw (verdict, e) f

pub call_code : (N W : ℕ) (c : Call) (k : Model) → CallCode (answer N W c k)
unfolding answer checks check_set check_add check_flush check_final check_closed check_places any other_code
call_code N W (set x) k = verdict_code _ refl
call_code N W (add lane ins outs) k = verdict_code _ refl
call_code N W flush k = verdict_code _ refl
call_code N W final k = verdict_code _ refl

pub open_code : (P N : ℕ) (s : Sizes) → CallCode (verdict (check_open P N s))
unfolding check_open check_range any other_code
open_code P N s = verdict_code _ refl
