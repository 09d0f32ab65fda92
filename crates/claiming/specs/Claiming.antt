-- The laws by which the proofs of `admits_add` and `claim_add` go. Assumes nothing.
use Rattle.std.specs.Prelude.{◌≡◌, refl, List, ◌++◌, ◌⊎◌, Bool, true, not, ◌||◌, leb}
use Rattle.std.proofs.Math.Path.{sym}
use Rattle.std.proofs.Common.{◌∙◌, inl, inr, subst, true≢false, arith}
use Rattle.std.proofs.Math.Bool.{false}
use Rattle.std.proofs.lemmas.Bool.{false≢true}
use Prim.Native.Nat.{ℕ, ◌+◌, ◌-◌, ◌≤◌, ◌<◌}
use Rattle.std.proofs.Math.ListN.{length}
use borrow.Author.Tests.{le-ltb, lt-leb, leb-false, ltb-false}
use Rattle.rules.specs.Limits.{most_lane, least_flagged}
use Rattle.rules.specs.Checks.{verdict, any, repeats, check_places}
use Rattle.laws.specs.Accepted.{verdict_head, or_false}
use Rattle.lists.specs.Part.{Below}
use Rattle.lists.specs.Arguments.{any_below, below_any, below_append, greatest_below, below_greatest}
use Rattle.taken.specs.Flags.{Flags, Plain, unclaimable, Claims, taken_at}
use Rattle.taken.specs.FlagLaws.{flags_any, plain_of}
use Rattle.checking.specs.Parts.{list_checks, state_checks, add_checks}
use Rattle.add_checks.specs.Promises.{fits, MayAdd, ChecksAdd}
use Rattle.add_checks.specs.ListChecks.{many, lists_good, verdict_rest, lists_numbered}
use Rattle.add_checks.specs.StateChecks.{state_verdict, Fits, fits_of, of_fits}
use Rattle.claiming.specs.Promises.{MayAdmit, FlagsAdd, ClaimsAdd}

-- add passes all of its checks
pub record AddPasses (closed : Bool) (N lane : ℕ) (ins outs : List ℕ) (t : ℕ → Bool) (added used W : ℕ) : Type 0 where
  pub not_closed : closed ≡ false
  pub low : lane ≤ most_lane
  pub few : many ins outs ≡ false
  pub ins_inside : Below N ins
  pub outs_inside : Below N outs
  pub once : repeats outs ≡ false
  pub free : any t outs ≡ false
  pub more : added < N
  pub room : used + length ins + length outs ≤ W

module _ (closed : Bool) (N lane : ℕ) (ins outs : List ℕ) (t : ℕ → Bool) (added used W : ℕ) where
  passes_of : verdict (add_checks closed N lane ins outs t added used W) ≡ 0 → AddPasses closed N lane ins outs t added used W
  unfolding list_checks state_checks check_places
  passes_of h =
      let a = verdict_head _ _ h (omega arith) in
      let l = verdict_head _ _ a.1 (omega arith) in
      let b = verdict_head _ _ l.1 (omega arith) in
      let c = verdict_head _ _ b.1 (omega arith) in
      let d = verdict_head _ _ c.1 (omega arith) in
      let e = verdict_head _ _ d.1 (omega arith) in
      let f = verdict_head _ _ e.1 (omega arith) in
      let g = verdict_head _ _ f.1 (omega arith) in
      let i = verdict_head _ _ g.1 (omega arith) in
      let inside = below_append N ins outs (any_below N (ins ++ outs) d.0) in
      record {
        not_closed = a.0;
        low = ltb-false most_lane lane l.0;
        few = b.0;
        ins_inside = inside.0;
        outs_inside = inside.1;
        once = e.0;
        free = f.0;
        more = leb-false N added g.0;
        room = ltb-false W (used + length ins + length outs) i.0;
      }

  of_passes : N ≤ least_flagged → AddPasses closed N lane ins outs t added used W → verdict (add_checks closed N lane ins outs t added used W) ≡ 0
  unfolding verdict
  of_passes h p =
      verdict_rest (list_checks closed N lane ins outs) (state_checks N t outs added used (length ins) W) (lists_numbered closed N lane ins outs)
      (sym (lists_good N lane ins outs p.not_closed p.low p.few (below_any N ins p.ins_inside) (below_any N outs p.outs_inside) h))
      ∙ sym (state_verdict N t outs added used (length ins) W false false false false p.once p.free (lt-leb N added p.more) (le-ltb W (used + length ins + length outs) p.room))

-- what flagging the outputs asks
pub may_claim : {w ins : List ℕ} {top v used room : ℕ} → MayAdmit w ins top v used room → Plain w v
may_claim m = plain_of _ m.may.taken _ m.may.flags

module _ {w : List ℕ} {lane : ℕ} {ins outs : List ℕ} {closed : Bool} {v added used room : ℕ} where
  -- refused, the storage as it was
  refused : ((t : ℕ → Bool) → AddPasses closed v lane ins outs t added used room → ⊥) → FlagsAdd w lane ins outs closed v added used room false w
  refused h = record { passes = λ q. absurd (false≢true q); fails = λ q t f z. h t (passes_of closed v lane ins outs t added used room z); claims = λ q. absurd (false≢true q); same = λ q. refl }

  pub closed_fails : closed ≡ true → FlagsAdd w lane ins outs closed v added used room false w
  closed_fails e = refused (λ t p. true≢false (sym e ∙ p.not_closed))

  pub lane_fails : most_lane < lane → FlagsAdd w lane ins outs closed v added used room false w
  lane_fails h = refused (λ t p. omega (arith, p.low))

  pub many_fails : many ins outs ≡ true → FlagsAdd w lane ins outs closed v added used room false w
  many_fails e = refused (λ t p. true≢false (sym e ∙ p.few))

  pub count_fails : v ≤ added → FlagsAdd w lane ins outs closed v added used room false w
  count_fails h = refused (λ t p. omega (arith, p.more))

  pub room_fails : room - used < length ins + length outs → FlagsAdd w lane ins outs closed v added used room false w
  room_fails h = refused (λ t p. omega (arith, p.room))

  -- it does not fit
  fits_not : {b : Bool} → b ≡ fits closed lane ins outs v added (room - used) → b ≡ false → FlagsAdd w lane ins outs closed v added used room false w
  fits_not e q = refused (λ t p. true≢false (sym (fits_of closed lane ins outs v added (room - used) (fit p)) ∙ sym e ∙ q))
    where
      fit : {t : ℕ → Bool} → AddPasses closed v lane ins outs t added used room → Fits closed lane ins outs v added (room - used)
      fit p = record { not_closed = p.not_closed; low = p.low; few = p.few; more = p.more; room = omega (arith, p.room) }

  module _ {top : ℕ} (m : MayAdmit w ins top v used room) where
    pub ins_outside : v ≤ top → FlagsAdd w lane ins outs closed v added used room false w
    ins_outside h = refused (λ t p. omega (arith, m.top_is, greatest_below v ins (omega (arith, p.more)) p.ins_inside))

    pub unfit : {b : Bool} → b ≡ fits closed lane ins outs v added (room - used) → ((b ≡ true) × (v ≤ top)) ⊎ (b ≡ false)
        → {r : Bool} → r ≡ false → FlagsAdd w lane ins outs closed v added used room r w
    unfit e (inl p) {r} q = subst (λ (x : Bool). FlagsAdd w lane ins outs closed v added used room x w) (sym q) (ins_outside p.1)
    unfit e (inr n) {r} q = subst (λ (x : Bool). FlagsAdd w lane ins outs closed v added used room x w) (sym q) (fits_not e n)

    module _ (small : v ≤ least_flagged) {b : Bool} (f : b ≡ fits closed lane ins outs v added (room - used)) (f' : b ≡ true) (l : top < v) {r : Bool} {w' : List ℕ} (c : Claims w v outs r w') where
      pub admits : FlagsAdd w lane ins outs closed v added used room r w'
      unfolding unclaimable
      admits =
          record {
            passes = λ q t f. of_passes closed v lane ins outs t added used room small (good q t f);
            fails = λ q t f z. bad q t f (passes_of closed v lane ins outs t added used room z);
            claims = c.claims;
            same = c.same;
          }
        where
          same_any : (t : ℕ → Bool) → Flags v t w → Below v outs → any (taken_at w v) outs ≡ any t outs
          same_any t f b = flags_any v t w f outs b

          down : (x : Bool) → not x ≡ true → x ≡ false
          down true e = absurd (false≢true e)
          down false e = refl

          good : r ≡ true → (t : ℕ → Bool) → Flags v t w → AddPasses closed v lane ins outs t added used room
          good q t fl =
              let z = of_fits closed lane ins outs v added (room - used) (sym f ∙ f') in
              let u = or_false (any (λ x. leb v x) outs) (repeats outs || any (taken_at w v) outs) (down _ (sym c.answer ∙ q)) in
              let k = or_false (repeats outs) (any (taken_at w v) outs) u.1 in
              let b = any_below v outs u.0 in
              record {
                not_closed = z.not_closed;
                low = z.low;
                few = z.few;
                ins_inside = below_greatest v ins (omega (arith, m.top_is));
                outs_inside = b;
                once = k.0;
                free = sym (same_any t fl b) ∙ k.1;
                more = z.more;
                room = omega (arith, m.may.fits, z.room);
              }

          bad : r ≡ false → (t : ℕ → Bool) → Flags v t w → AddPasses closed v lane ins outs t added used room → ⊥
          bad q t f p = true≢false (sym (c.answer ∙ rw (below_any v outs p.outs_inside, p.once, same_any t f p.outs_inside ∙ p.free)) ∙ q)

  -- the number
  pub claimed_add : {r : Bool} {w' : List ℕ} → FlagsAdd w lane ins outs closed v added used room r w' → r ≡ true → ClaimsAdd w lane ins outs closed v added used room 0 w'
  claimed_add a q = record { is = λ t f. sym (a.passes q t f); claims = λ h. a.claims q; same = λ h. absurd (h refl) }

  module _ {r : Bool} {w' : List ℕ} (a : FlagsAdd w lane ins outs closed v added used room r w') (q : r ≡ false) (m : MayAdd w v used room) where
    pub may_again : MayAdd w' v used room
    may_again = subst (λ (x : List ℕ). MayAdd x v used room) (sym (a.same q)) m

    pub refused_add : {n : ℕ} {w'' : List ℕ} → ChecksAdd w' lane ins outs closed v added used room n w'' → ClaimsAdd w lane ins outs closed v added used room n w''
    refused_add {n} {w''} c =
        let d = subst (λ (x : List ℕ). ChecksAdd x lane ins outs closed v added used room n w'') (a.same q) c in
        record { is = d.is; claims = λ z. absurd (a.fails q m.taken m.flags (sym (d.is m.taken m.flags) ∙ z)); same = λ h. d.same }
