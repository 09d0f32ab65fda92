-- The laws by which the proofs of add's later checks go, one for each way out, and those of all its checks. Assumes nothing.
use Rattle.std.specs.Prelude.{◌≡◌, List, [], ◌∷◌, Bool, not, ℕ, ◌+◌, ◌-◌, ◌≤◌, ◌<◌, leb}
use Rattle.std.proofs.Math.Path.{refl}
use Rattle.std.proofs.Common.{sym, ap, ◌∙◌, arith}
use Rattle.std.proofs.Math.Bool.{true, false}
use Rattle.std.proofs.Math.ListN.{length}
use Rattle.std.proofs.Math.Dec.{ltb}
use Rattle.std.proofs.lemmas.Bool.{false≢true, and_parts}
use borrow.Author.Tests.{lt-ltb, le-ltb, le-leb, lt-leb, leb-true, ltb-true}
use Rattle.rules.specs.Limits.{most_lane}
use Rattle.rules.specs.Refusals as refusal
use Rattle.rules.specs.Checks.{verdict, any, repeats, waiting_needed}
use Rattle.laws.specs.Accepted.{verdict_first}
use Rattle.lists.specs.Part.{Below}
use Rattle.taken.specs.Flags.{Flags, Flagged, taken_at}
use Rattle.taken.specs.FlagLaws.{flags_any, flagged_of}
use Rattle.checking.specs.Parts.{list_checks, state_checks}
use Rattle.add_checks.specs.Promises.{fits, MayCheck, ChecksState, MayAdd, ChecksAdd}
use Rattle.add_checks.specs.ListChecks.{many, verdict_rest, lists_numbered, lists_passed}

-- the verdict by the four tests
pub state_verdict : (N : ℕ) (t : ℕ → Bool) (outs : List ℕ) (added used inputs W : ℕ) (a b c d : Bool) → repeats outs ≡ a → any t outs ≡ b → leb N added ≡ c → ltb W (used + inputs + length outs) ≡ d
    → verdict
    (record { fails = a; number = refusal.repeated_output }
    ∷ (record { fails = b; number = refusal.taken_place } ∷ (record { fails = c; number = refusal.too_many_registrations } ∷ (record { fails = d; number = refusal.full_pool } ∷ []))))
    ≡ verdict (state_checks N t outs added used inputs W)
unfolding state_checks
state_verdict N t outs added used inputs W a b c d x y z u = rw (x, y, z, u)

pub may_repeat : {w outs : List ℕ} {v used inputs room : ℕ} → MayCheck w outs v used inputs room → Flagged w v outs
may_repeat m = flagged_of _ m.taken _ m.flags _ m.below

pub may_look : {w outs : List ℕ} {v used inputs room : ℕ} → MayCheck w outs v used inputs room → {w' : List ℕ} → w' ≡ w → Below v outs × (waiting_needed v ≤ length w')
may_look m same = (m.below, rw same m.flags.long)

module _ {w outs : List ℕ} {v : ℕ} (added : ℕ) {used inputs room : ℕ} (m : MayCheck w outs v used inputs room) {w' : List ℕ} (same : w' ≡ w) where
  pub again : repeats outs ≡ true → ChecksState w outs v added used inputs room refusal.repeated_output w'
  unfolding verdict
  again h = record { is = λ t f. state_verdict v t outs added used inputs room true _ _ _ h refl refl refl; same = same }

  module _ (a : repeats outs ≡ false) where
    told : (b : Bool) → any (taken_at w' v) outs ≡ b → (t : ℕ → Bool) → Flags v t w → any t outs ≡ b
    told b e t f = sym (flags_any v t w f outs m.below) ∙ ap (λ (l : List ℕ). any (taken_at l v) outs) (sym same) ∙ e

    pub occupied : any (taken_at w' v) outs ≡ true → ChecksState w outs v added used inputs room refusal.taken_place w'
    unfolding verdict
    occupied h = record { is = λ t f. state_verdict v t outs added used inputs room false true _ _ a (told true h t f) refl refl; same = same }

    module _ (b : any (taken_at w' v) outs ≡ false) where
      pub all_added : v ≤ added → ChecksState w outs v added used inputs room refusal.too_many_registrations w'
      unfolding verdict
      all_added h = record { is = λ t f. state_verdict v t outs added used inputs room false false true _ a (told false b t f) (le-leb v added h) refl; same = same }

      module _ (c : added < v) where
        pub pool_full : room - used < inputs + length outs → ChecksState w outs v added used inputs room refusal.full_pool w'
        unfolding verdict
        pool_full h = record { is = λ t f. state_verdict v t outs added used inputs room false false false true a (told false b t f) (lt-leb v added c) full; same = same }
          where
            full : ltb room (used + inputs + length outs) ≡ true
            full = lt-ltb room (used + inputs + length outs) (omega (arith, m.fits))

        pub state_good : inputs + length outs ≤ room - used → ChecksState w outs v added used inputs room 0 w'
        unfolding verdict
        state_good h = record { is = λ t f. state_verdict v t outs added used inputs room false false false false a (told false b t f) (lt-leb v added c) fits; same = same }
          where
            fits : ltb room (used + inputs + length outs) ≡ false
            fits = le-ltb room (used + inputs + length outs) (omega (arith, m.fits))

pub may_state : (w : List ℕ) (lane : ℕ) (ins outs : List ℕ) (closed : Bool) (v used room n : ℕ) →
    n ≡ verdict (list_checks closed v lane ins outs) → n ≡ 0 → MayAdd w v used room → MayCheck w outs v used (length ins) room
may_state w lane ins outs closed v used room n e z m =
    let p = lists_passed closed v lane ins outs (sym e ∙ z) in record { taken = m.taken; flags = m.flags; below = p.1; fits = m.fits; few = p.0 }

module _ (w : List ℕ) (lane : ℕ) (ins outs : List ℕ) (closed : Bool) (v added used room n : ℕ) (e : n ≡ verdict (list_checks closed v lane ins outs)) where
  pub add_lists : (n ≡ 0 → ⊥) → ChecksAdd w lane ins outs closed v added used room n w
  add_lists h = record { is = λ t f. e ∙ sym (verdict_first (list_checks closed v lane ins outs) (state_checks v t outs added used (length ins) room) (λ z. h (e ∙ z))); same = refl }

  module _ (z : n ≡ 0) where
    pub add_state : (r : ℕ) (w' : List ℕ) → ChecksState w outs v added used (length ins) room r w' → ChecksAdd w lane ins outs closed v added used room r w'
    add_state r w' s =
        record {
          is = λ t f. s.is t f ∙ sym (verdict_rest (list_checks closed v lane ins outs) (state_checks v t outs added used (length ins) room) (lists_numbered closed v lane ins outs) (sym e ∙ z));
          same = s.same;
        }

-- what fits, test by test
pub record Fits (closed : Bool) (lane : ℕ) (ins outs : List ℕ) (v added left : ℕ) : Type 0 where
  pub not_closed : closed ≡ false
  pub low : lane ≤ most_lane
  pub few : many ins outs ≡ false
  pub more : added < v
  pub room : length ins + length outs ≤ left

module _ (closed : Bool) (lane : ℕ) (ins outs : List ℕ) (v added left : ℕ) where
  pub fits_of : Fits closed lane ins outs v added left → fits closed lane ins outs v added left ≡ true
  fits_of f = rw (f.not_closed, le-leb lane most_lane f.low, f.few, lt-ltb added v f.more, le-leb (length ins + length outs) left f.room)

  pub of_fits : fits closed lane ins outs v added left ≡ true → Fits closed lane ins outs v added left
  of_fits e =
      let a = and_parts (not closed) _ e in
      let b = and_parts (leb lane most_lane) _ a.1 in
      let c = and_parts (not (many ins outs)) _ b.1 in
      let d = and_parts (ltb added v) _ c.1 in
      record { not_closed = down closed a.0; low = leb-true lane most_lane b.0; few = down (many ins outs) c.0; more = ltb-true added v d.0; room = leb-true (length ins + length outs) left d.1 }
    where
      down : (x : Bool) → not x ≡ true → x ≡ false
      down true q = absurd (false≢true q)
      down false q = refl
