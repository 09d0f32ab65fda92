-- The count of released spans, which is span 0's number: at most two for each placing and 32 for each flush. What is still to be
-- placed counts already, so the bound carries through a cascade.
use Rattle.std.specs.Prelude.{◌≡◌, refl, List, [], ◌∷◌, Bool, true, false, ℕ, suc, ◌+◌, ◌*◌, ◌≤◌, length, ltb, ◌⊎◌}
use Rattle.std.proofs.Math.Path.{ap}
use Rattle.std.proofs.Common.{arith, inl, inr}
use Rattle.std.proofs.Math.ListN.{length-append}
use Rattle.laws.specs.ModelBase.{bool_cases}
use Rattle.rules.specs.Guide.{Item, release, flush as flush_guide}
use Rattle.laws.specs.Place.{place_step}
use Rattle.rules.specs.Model.{with_record, Pending, Model, reg_of, after, place_one, keep, queue, push, off, rest, with_set, with_add, with_flush}
use Rattle.laws.specs.ModelInv.{Inv}
use Rattle.laws.specs.CascadeInv.{push_length, off_rest}
use Rattle.laws.specs.Accepted.{final_passed}
use Rattle.laws.specs.Kept.{Kept}

-- the flush of final
unfoldable pub ended : Bool → ℕ
ended true = 1
ended false = 0

-- what is still to be placed counts too
abbrev pub Ceiling : Model → List ℕ → Type 0
Ceiling k st = k.guide.first + 2 * (length st + length k.pending) ≤ 2 * length k.adds + 32 * (k.flushes + ended k.closed)

queue_length : (w : Pending) (ws : List Pending) → length (queue w ws) ≡ suc (length ws)
unfolding queue
queue_length w [] = refl
queue_length w (v ∷ ws) = go (bool_cases (ltb w.under v.under)) (queue_length w ws)
  where
    go : (ltb w.under v.under ≡ true) ⊎ (ltb w.under v.under ≡ false) → length (queue w ws) ≡ suc (length ws) → length (queue w (v ∷ ws)) ≡ suc (suc (length ws))
    go (inl e) f = rw (e, queue)
    go (inr e) f = rw (e, queue) (ap suc f)

module _ (P N W : ℕ) (hP : 1 ≤ P) where
  ceiling_placing : (c r : ℕ) (st : List ℕ) (k : Model) → Inv P N k (r ∷ st) → Ceiling k (r ∷ st) → Ceiling (rest N (place_one P c r k)) (push (off N (place_one P c r k)) st)
  unfolding rest keep place_one
  ceiling_placing c r st k v b =
      let j = place_one P c r k in
      let e : Item = record { value = r; added = r; accepted = c; lane = (reg_of k r).lane } in
      let s = place_step P k.guide v.past e hP v.core v.later (after k.located (reg_of k r).ins) in
      omega (arith, s.advances, push_length (off N j) st, off_rest N j)

  -- every part of every call keeps it
  pub ceiling_kept : Kept P N W Ceiling
  unfolding rest keep with_set with_add with_flush flush_guide release ended with_record
  ceiling_kept =
      record {
        placing = λ c r st k l v b. ceiling_placing c r st k v b;
        setting = λ x k v a b. omega (arith, off_rest N (with_set x k), b);
        adding = λ lane ins outs k v a e b. simp length-append (omega (arith, b));
        delaying = λ lane ins outs k v a e b. simp (length-append, queue_length) (omega (arith, b));
        flushing = λ k v a b. omega (arith, b);
        closing = λ k v a b. omega (arith, ap ended (final_passed N W k a).not_closed, b);
        recording = λ d k v n b. b;
      }
