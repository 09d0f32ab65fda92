-- The answers of explaining are the model's: one law for each of its three ways out, and what is read on the way. Assumes nothing.
use Rattle.std.specs.Prelude.{◌≡◌, List, true, false, not, ℕ, ◌+◌, ◌≤◌, ◌<◌, length}
use Rattle.std.proofs.Math.Path.{sym}
use Rattle.std.proofs.Common.{ap, ◌∙◌, arith, le-leb}
use Rattle.std.proofs.lemmas.Bool.{lt-leb}
use Rattle.rules.specs.Refusals as refusal
use Rattle.rules.specs.Model.{Model, reg_of, greatest, ready, watermark}
use Rattle.rules.specs.Checks.{verdict, pooled}
use Rattle.rules.specs.Calls.{unless_refused}
use Rattle.rules.specs.Reason.{because, unexplained, waits, check_reason, reason, explained}
use Rattle.laws.specs.Sound.{Between}
use Rattle.laws.specs.Waits.{waits_unless_ready}
use Rattle.lists.specs.Part.{part, part_length}
use Rattle.lists.specs.Arguments.{ready_none, ready_low, ready_high, greatest_below}
use Rattle.pool.specs.Lists.{start_of, inputs_of}
use Rattle.pool.specs.ListLaws.{parts_of}
use Rattle.session.specs.declared.Session.{Session}
use Rattle.session.specs.Storage.{Storage, with_lists}
use Rattle.session.specs.Rep.{Rep}
use Rattle.session.specs.Placed.{all_below}
use Rattle.explaining.specs.Explaining.{Waits, Refused, MayExplain, Explains}

-- the model's answer in each case
module _ (N r : ℕ) (k : Model) where
  unknown : length k.adds ≤ r → explained N r k ≡ unexplained refusal.never_accepted
  unfolding explained verdict check_reason unless_refused
  unknown h = rw (le-leb (length k.adds) r h, explained)

  placed : r < length k.adds → waits r k ≡ false → explained N r k ≡ unexplained refusal.not_waiting
  unfolding explained verdict check_reason unless_refused
  placed h e = rw (lt-leb (length k.adds) r h, e, explained)

  waiting : r < length k.adds → waits r k ≡ true → explained N r k ≡ because (reason N r k)
  unfolding explained verdict check_reason unless_refused
  waiting h e = rw (lt-leb (length k.adds) r h, e, explained)

module _ (s : Session) (w pool : List ℕ) (r : ℕ) where
  pub explains_unknown : s.added ≤ r → Explains s w pool r (Refused refusal.never_accepted)
  explains_unknown h =
      record {
        is = λ P N k σ R b. sym (unknown N r k (omega (arith, R.counted.added_is)));
        small = omega arith;
      }

  -- an accepted one, n of whose inputs lie in the pool from `start` on
  module _ (h : r < s.added) {start n : ℕ} (es : start ≡ start_of w s.guide.v r) (en : n ≡ inputs_of w s.guide.v r) where
    module _ (σ : Storage) {P N : ℕ} {k : Model} (R : Rep P N k s (with_lists σ w pool)) where
      mine : r < length k.adds
      mine = omega (arith, R.counted.added_is)

      read : (start + n ≤ length pool) × (part pool start n ≡ (reg_of k r).ins)
      read =
          let p = parts_of N k (pooled k.adds) w pool R.core.stored.lists r mine in
          rw (es, en, R.core.guided.v_is) (omega (arith, p.ordered, p.inside), p.ins_are)

      count_is : n ≡ length (reg_of k r).ins
      count_is = sym (part_length pool start n read.0) ∙ ap length read.1

      greatest_is : greatest (part pool start n) ≡ greatest (reg_of k r).ins
      greatest_is = ap greatest read.1

      module _ (b : Between P N (length pool) k) where
        when_ready : ready (watermark N k) (reg_of k r).ins ≡ true → explained N r k ≡ unexplained refusal.not_waiting
        when_ready e = placed N r k mine (waits_unless_ready b r mine ∙ ap not e)

        when_not : (n ≡ 0 → ⊥) → s.watermark ≤ greatest (part pool start n) → explained N r k ≡ because (reason N r k)
        when_not z m =
            let e = ready_high (watermark N k) (reg_of k r).ins (λ y. z (count_is ∙ y)) (omega (arith, R.core.tracked.watermark_is, greatest_is)) in
            waiting N r k mine (waits_unless_ready b r mine ∙ ap not e)

        below : greatest (part pool start n) < N
        below =
            let x = greatest_below N (reg_of k r).ins R.core.guided.places (all_below N (reg_of k r).ins (b.sound.inside.lists r).ins_below) in
            omega (arith, greatest_is)

    pub asks_inputs : MayExplain s w pool → start + n ≤ length pool
    asks_inputs a = (read a.around a.asks.rep).0

    pub explains_none : n ≡ 0 → Explains s w pool r (Refused refusal.not_waiting)
    explains_none z =
        record {
          is = λ P N k σ R b. sym (when_ready σ R b (ready_none (watermark N k) (reg_of k r).ins (sym (count_is σ R) ∙ z)));
          small = omega arith;
        }

    module _ {input : ℕ} (ei : input ≡ greatest (part pool start n)) where
      pub explains_placed : input < s.watermark → Explains s w pool r (Refused refusal.not_waiting)
      explains_placed g =
          record {
            is = λ P N k σ R b. sym (when_ready σ R b (ready_low (watermark N k) (reg_of k r).ins (omega (arith, ei, R.core.tracked.watermark_is, greatest_is σ R))));
            small = omega arith;
          }

      pub explains_waiting : MayExplain s w pool → (n ≡ 0 → ⊥) → s.watermark ≤ input → Explains s w pool r (Waits input s.watermark)
      unfolding reason
      explains_waiting a z m =
          let x = below a.around a.asks.rep a.asks.between in
          let g = a.asks.rep.core.guided in
          record {
            is = λ P N k σ R b. sym (when_not σ R b z (omega (arith, ei)) ∙ rw (← greatest_is σ R, ← ei, ← R.core.tracked.watermark_is));
            small = (omega (arith, x, ei, g.v_is, g.stands.small), omega (arith, x, ei, g.v_is, g.stands.small));
          }
