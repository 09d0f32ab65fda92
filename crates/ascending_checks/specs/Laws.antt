-- The lists of checks are the model's under the profile; and the laws by which the proofs of the checks go, one for each way out.
-- Assumes nothing.
use Rattle.std.specs.Prelude.{◌≡◌, List, [], ◌∷◌, ◌++◌, Bool, not, ◌≢◌, ℕ, ◌+◌, ◌-◌, ◌≤◌, ◌<◌, leb, ltb}
use Rattle.std.proofs.Math.Path.{refl, sym}
use Rattle.std.proofs.Common.{◌∙◌, true≢false, arith}
use Rattle.std.proofs.Math.Bool.{true, false}
use Rattle.std.proofs.lemmas.Bool.{false≢true, and_parts}
use Rattle.std.proofs.Math.ListN.{length}
use borrow.Author.Tests.{lt-ltb, le-ltb, le-leb, lt-leb, ltb-false, leb-false, leb-true, eq-eqb, ne_eqb}
use Rattle.rules.specs.Limits.{most_lane, least_flagged}
use Rattle.rules.specs.Refusals as refusal
use Rattle.rules.specs.Model.{Model}
use Rattle.rules.specs.Checks.{verdict, any, repeats, taken, pooled, check_closed, check_places}
use Rattle.rules.specs.Calls.{set, add}
use Rattle.rules.specs.Ascending.{lowest, ascend, set_breach, add_breach, check_set, check_add, checks, answer}
use Rattle.laws.specs.Accepted.{verdict_head, verdict_first}
use Rattle.lists.specs.Part.{Below, below_at, at_below}
use Rattle.lists.specs.Arguments.{any_below, below_any, below_append}
use Rattle.checking.specs.Parts.{list_checks}
use Rattle.add_checks.specs.Promises.{fits}
use Rattle.add_checks.specs.StateChecks.{fits_of, of_fits}
use Rattle.add_checks.specs.ListChecks.{many, lists_good, verdict_rest, lists_numbered, lists_passed}
use Rattle.ascending_marks.specs.Raised.{Unraised}
use Rattle.ascending_checks.specs.Parts.{set_checks, late_checks, add_checks, Under, ChecksSet, MayPass, passes, Passes, MayAdd, ChecksAdd}
use Rattle.ascending_checks.specs.Ascend.{ascends_is, ascend_below, below_ascend, ascend_once, ascend_free, breach_outs, breach_ins, breach_none}

-- the model's answers
pub set_is : (N W x : ℕ) (k : Model) → verdict (set_checks k.closed N (lowest N k) x (taken k)) ≡ answer N W (set x) k
unfolding answer checks check_set check_closed set_checks
set_is N W x k = refl

pub add_is : (N W lane : ℕ) (ins outs : List ℕ) (k : Model)
    → verdict (add_checks k.closed N (lowest N k) lane ins outs (taken k) (length k.adds) (pooled k.adds) W) ≡ answer N W (add lane ins outs) k
unfolding answer checks check_add check_closed list_checks late_checks check_places
add_is N W lane ins outs k = refl

-- set
module _ {v m x : ℕ} {closed : Bool} where
  pub set_closed : closed ≡ true → ChecksSet closed v m x refusal.closed
  unfolding set_checks verdict
  set_closed e = record { is = λ t u. rw e refl }

  module _ (e : closed ≡ false) where
    pub set_flagged : least_flagged ≤ x → ChecksSet closed v m x refusal.flagged_place
    unfolding set_checks verdict check_places any
    set_flagged h = record { is = λ t u. rw (e, le-leb least_flagged x h) }

    module _ (a : x < least_flagged) where
      pub set_unknown : v ≤ x → ChecksSet closed v m x refusal.unknown_place
      unfolding set_checks verdict check_places any
      set_unknown h = record { is = λ t u. rw (e, lt-leb least_flagged x a, le-leb v x h) }

      module _ (b : x < v) where
        pub set_breaks : x ≢ m → ChecksSet closed v m x refusal.profile_breach
        unfolding set_checks verdict check_places any set_breach
        set_breaks h = record { is = λ t u. rw (e, lt-leb least_flagged x a, lt-leb v x b, ne_eqb x m h) }

        pub set_lowest : x ≡ m → ChecksSet closed v m x 0
        unfolding set_checks verdict check_places any set_breach
        set_lowest h = record { is = λ t u. rw (e, lt-leb least_flagged x a, lt-leb v x b, eq-eqb x m h, u x (omega arith)) }

-- the verdict of the later checks by the five tests
late_verdict : (N m : ℕ) (t : ℕ → Bool) (ins outs : List ℕ) (added used W : ℕ) (a b c d e : Bool)
    → repeats outs ≡ a → add_breach m ins outs ≡ b → any t outs ≡ c → leb N added ≡ d → ltb W (used + length ins + length outs) ≡ e
    → verdict
    (record { fails = a; number = refusal.repeated_output }
    ∷ (record { fails = b; number = refusal.profile_breach }
    ∷ (record { fails = c; number = refusal.taken_place }
    ∷ (record { fails = d; number = refusal.too_many_registrations } ∷ (record { fails = e; number = refusal.full_pool } ∷ [])))))
    ≡ verdict (late_checks N m t ins outs added used W)
unfolding late_checks
late_verdict N m t ins outs added used W a b c d e p q r x y = rw (p, q, r, x, y)

-- add passes all of its checks, by what `passes` looks at
record AddPasses (closed : Bool) (N m lane : ℕ) (ins outs : List ℕ) (added used W : ℕ) : Type 0 where
  pub not_closed : closed ≡ false
  pub low : lane ≤ most_lane
  pub few : many ins outs ≡ false
  pub more : added < N
  pub room : used + length ins + length outs ≤ W
  pub inside : m + length outs ≤ N
  pub ins_low : any (λ i. leb m i) ins ≡ false
  pub outs_ascend : ascend m outs ≡ true

module _ (closed : Bool) (N m lane : ℕ) (ins outs : List ℕ) (added used W : ℕ) where
  passes_of : m ≤ N → (t : ℕ → Bool) → verdict (add_checks closed N m lane ins outs t added used W) ≡ 0 → AddPasses closed N m lane ins outs added used W
  unfolding list_checks late_checks check_places
  passes_of h t z =
      let a = verdict_head _ _ z (omega arith) in
      let l = verdict_head _ _ a.1 (omega arith) in
      let b = verdict_head _ _ l.1 (omega arith) in
      let c = verdict_head _ _ b.1 (omega arith) in
      let d = verdict_head _ _ c.1 (omega arith) in
      let e = verdict_head _ _ d.1 (omega arith) in
      let f = verdict_head _ _ e.1 (omega arith) in
      let g = verdict_head _ _ f.1 (omega arith) in
      let i = verdict_head _ _ g.1 (omega arith) in
      let j = verdict_head _ _ i.1 (omega arith) in
      let k = breach_none m ins outs f.0 in
      record {
        not_closed = a.0;
        low = ltb-false most_lane lane l.0;
        few = b.0;
        more = leb-false N added i.0;
        room = ltb-false W (used + length ins + length outs) j.0;
        inside = below_ascend N m outs k.0 h (below_append N ins outs (any_below N (ins ++ outs) d.0)).1;
        ins_low = k.1;
        outs_ascend = k.0;
      }

  of_passes : N ≤ least_flagged → AddPasses closed N m lane ins outs added used W → (t : ℕ → Bool) → Under m t → verdict (add_checks closed N m lane ins outs t added used W) ≡ 0
  unfolding verdict
  of_passes h p t u =
      verdict_rest (list_checks closed N lane ins outs) (late_checks N m t ins outs added used W) (lists_numbered closed N lane ins outs)
      (sym (lists_good N lane ins outs p.not_closed p.low p.few (below_any N ins wider) (below_any N outs (ascend_below N m outs p.outs_ascend p.inside)) h))
      ∙ sym (late_verdict N m t ins outs added used W false false false false false (ascend_once m outs p.outs_ascend) (breach_ins m ins outs p.outs_ascend ∙ p.ins_low)
      (ascend_free t m outs u p.outs_ascend) (lt-leb N added p.more) (le-ltb W (used + length ins + length outs) p.room))
    where
      wider : Below N ins
      wider = at_below N ins (λ j k. omega (arith, below_at m ins (any_below m ins p.ins_low) j k, p.inside))

-- `passes`: true exactly where add passes its checks
pub may_pass : {marks : List ℕ} {v m used room : ℕ} → MayAdd marks v m used room → MayPass v m used room
may_pass a = record { low = a.low; small = a.small; fits = a.fits }

module _ {lane : ℕ} {ins outs : List ℕ} {closed : Bool} {v m added used room : ℕ} (may : MayPass v m used room) where
  -- what add passes is what is looked at
  looked : AddPasses closed v m lane ins outs added used room → passes closed lane ins outs v m added (room - used) ≡ true
  looked p =
      let f = fits_of closed lane ins outs v added (room - used) (record { not_closed = p.not_closed; low = p.low; few = p.few; more = p.more; room = omega (arith, p.room) }) in
      rw (f, le-leb (m + length outs) v p.inside, p.ins_low) (ascends_is m outs ∙ p.outs_ascend)

  at_last : passes closed lane ins outs v m added (room - used) ≡ true → AddPasses closed v m lane ins outs added used room
  at_last e =
      let a = and_parts (fits closed lane ins outs v added (room - used)) _ e in
      let b = and_parts (leb (m + length outs) v) _ a.1 in
      let c = and_parts (not (any (λ i. leb m i) ins)) _ b.1 in
      let z = of_fits closed lane ins outs v added (room - used) a.0 in
      record {
        not_closed = z.not_closed;
        low = z.low;
        few = z.few;
        more = z.more;
        room = omega (arith, may.fits, z.room);
        inside = leb-true (m + length outs) v b.0;
        ins_low = down (any (λ i. leb m i) ins) c.0;
        outs_ascend = sym (ascends_is m outs) ∙ c.1;
      }
    where
      down : (x : Bool) → not x ≡ true → x ≡ false
      down true q = absurd (false≢true q)
      down false q = refl

  pub tells : {r : Bool} → r ≡ passes closed lane ins outs v m added (room - used) → Passes lane ins outs closed v m added used room r
  tells e =
      record {
        passes = λ q. of_passes closed v m lane ins outs added used room (omega (arith, may.small)) (at_last (sym e ∙ q));
        fails = λ q t z. true≢false (sym (looked (passes_of closed v m lane ins outs added used room may.low t z)) ∙ sym e ∙ q);
      }

-- `number`: the lists were looked at, and n is told of them
pub may_repeat : {marks : List ℕ} (lane : ℕ) (ins : List ℕ) {outs : List ℕ} (closed : Bool) {v m used room : ℕ} (n : ℕ)
    → n ≡ verdict (list_checks closed v lane ins outs) → n ≡ 0 → MayAdd marks v m used room → Unraised marks outs
may_repeat lane ins {outs} closed {v} n e z may =
    record { v = v; long = may.long; even = may.even; below = (lists_passed closed v lane ins outs (sym e ∙ z)).1 }

module _ {marks : List ℕ} {lane : ℕ} {ins outs : List ℕ} {closed : Bool} {v m added used room : ℕ} (n : ℕ) (e : n ≡ verdict (list_checks closed v lane ins outs)) where
  pub lists_fail : n ≢ 0 → ChecksAdd marks lane ins outs closed v m added used room n marks
  lists_fail h = record { is = λ t u. e ∙ sym (verdict_first (list_checks closed v lane ins outs) (late_checks v m t ins outs added used room) (λ z. h (e ∙ z))); same = refl }

  module _ (z : n ≡ 0) (may : MayAdd marks v m used room) where
    module _ {marks' : List ℕ} (same : marks' ≡ marks) where
      later : (r : ℕ) → ((t : ℕ → Bool) → Under m t → r ≡ verdict (late_checks v m t ins outs added used room)) → ChecksAdd marks lane ins outs closed v m added used room r marks'
      later r f =
          record {
            is = λ t u. f t u ∙ sym (verdict_rest (list_checks closed v lane ins outs) (late_checks v m t ins outs added used room) (lists_numbered closed v lane ins outs) (sym e ∙ z));
            same = same;
          }

      pub again : repeats outs ≡ true → ChecksAdd marks lane ins outs closed v m added used room refusal.repeated_output marks'
      unfolding verdict
      again h = later refusal.repeated_output (λ t u. late_verdict v m t ins outs added used room true _ _ _ _ h refl refl refl refl)

      module _ (a : repeats outs ≡ false) where
        breach : add_breach m ins outs ≡ true → ChecksAdd marks lane ins outs closed v m added used room refusal.profile_breach marks'
        unfolding verdict
        breach h = later refusal.profile_breach (λ t u. late_verdict v m t ins outs added used room false true _ _ _ a h refl refl refl)

        pub outs_break : ascend m outs ≡ false → ChecksAdd marks lane ins outs closed v m added used room refusal.profile_breach marks'
        outs_break h = breach (breach_outs m ins outs h)

        module _ (b : ascend m outs ≡ true) where
          pub ins_break : any (λ i. leb m i) ins ≡ true → ChecksAdd marks lane ins outs closed v m added used room refusal.profile_breach marks'
          ins_break h = breach (breach_ins m ins outs b ∙ h)

          module _ (c : any (λ i. leb m i) ins ≡ false) where
            -- what is left of the checks, since no output is taken
            left : (r : ℕ) (d f : Bool) → leb v added ≡ d → ltb room (used + length ins + length outs) ≡ f
                → r ≡ verdict (record { fails = d; number = refusal.too_many_registrations } ∷ (record { fails = f; number = refusal.full_pool } ∷ []))
                → ChecksAdd marks lane ins outs closed v m added used room r marks'
            unfolding verdict
            left r d f x y q = later r (λ t u. q ∙ late_verdict v m t ins outs added used room false false false d f a (breach_ins m ins outs b ∙ c) (ascend_free t m outs u b) x y)

            pub all_added : v ≤ added → ChecksAdd marks lane ins outs closed v m added used room refusal.too_many_registrations marks'
            unfolding verdict
            all_added h = left refusal.too_many_registrations true _ (le-leb v added h) refl refl

            module _ (d : added < v) where
              pub pool_full : room - used < length ins + length outs → ChecksAdd marks lane ins outs closed v m added used room refusal.full_pool marks'
              unfolding verdict
              pool_full h = left refusal.full_pool false true (lt-leb v added d) (lt-ltb room (used + length ins + length outs) (omega (arith, may.fits))) refl

              pub number_good : length ins + length outs ≤ room - used → ChecksAdd marks lane ins outs closed v m added used room 0 marks'
              unfolding verdict
              number_good h = left 0 false false (lt-leb v added d) (le-ltb room (used + length ins + length outs) (omega (arith, may.fits))) refl

-- `check_add`
pub passed : {lane : ℕ} {ins outs : List ℕ} {closed : Bool} {v m added used room : ℕ} {r : Bool} → Passes lane ins outs closed v m added used room r → r ≡ true
    → {marks : List ℕ} → ChecksAdd marks lane ins outs closed v m added used room 0 marks
passed p q = record { is = λ t u. sym (p.passes q t u); same = refl }

module _ {lane : ℕ} {ins outs : List ℕ} {closed : Bool} {v m added used room : ℕ} (may : MayPass v m used room) where
  refused : (AddPasses closed v m lane ins outs added used room → ⊥) → Passes lane ins outs closed v m added used room false
  refused h = record { passes = λ q. absurd (false≢true q); fails = λ q t z. h (passes_of closed v m lane ins outs added used room may.low t z) }

  pub closed_fails : closed ≡ true → Passes lane ins outs closed v m added used room false
  closed_fails e = refused (λ p. true≢false (sym e ∙ p.not_closed))

  pub lane_fails : most_lane < lane → Passes lane ins outs closed v m added used room false
  lane_fails h = refused (λ p. omega (arith, p.low))

  pub many_fails : many ins outs ≡ true → Passes lane ins outs closed v m added used room false
  many_fails e = refused (λ p. true≢false (sym e ∙ p.few))

  pub count_fails : v ≤ added → Passes lane ins outs closed v m added used room false
  count_fails h = refused (λ p. omega (arith, p.more))

  pub room_fails : room - used < length ins + length outs → Passes lane ins outs closed v m added used room false
  room_fails h = refused (λ p. omega (arith, p.room))

  pub outside_fails : v < m + length outs → Passes lane ins outs closed v m added used room false
  outside_fails h = refused (λ p. omega (arith, p.inside))

  pub ins_fail : any (λ i. leb m i) ins ≡ true → Passes lane ins outs closed v m added used room false
  ins_fail e = refused (λ p. true≢false (sym e ∙ p.ins_low))

  -- all but the outputs themselves was looked at
  pub outs_tell : closed ≡ false → lane ≤ most_lane → many ins outs ≡ false → added < v → length ins + length outs ≤ room - used
      → m + length outs ≤ v → any (λ i. leb m i) ins ≡ false → {r : Bool} → r ≡ ascend m outs → Passes lane ins outs closed v m added used room r
  outs_tell open' low few more fits inside ins_low {r} e =
      record {
        passes = λ q. of_passes closed v m lane ins outs added used room (omega (arith, may.small)) (all q);
        fails = λ q t z. true≢false (sym (passes_of closed v m lane ins outs added used room may.low t z).outs_ascend ∙ sym e ∙ q);
      }
    where
      all : r ≡ true → AddPasses closed v m lane ins outs added used room
      all q =
          record {
            not_closed = open';
            low = low;
            few = few;
            more = more;
            room = omega (arith, may.fits);
            inside = inside;
            ins_low = ins_low;
            outs_ascend = sym e ∙ q;
          }
