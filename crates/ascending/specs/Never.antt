-- Two numbers are never answered under the profile: 8, for where 21 passes the places are from the lowest on, and none of them is taken; and
-- 12, for nothing waits. Assumes nothing.
use Rattle.std.specs.Prelude.{◌≡◌, List, [], ◌∷◌, ◌⊎◌, ◌≢◌, Bool, true, false, ℕ}
use Rattle.std.proofs.Math.Path.{refl}
use mathlib.Core.List.Memᴰ
use Rattle.std.proofs.Common.{inl, inr, arith}
use Rattle.rules.specs.Refusals as refusal
use Rattle.rules.specs.Model.{Model}
use Rattle.rules.specs.Checks.{Check, verdict, any, taken, check_closed, check_places, check_flush, check_final}
use Rattle.rules.specs.Calls.{Call, set, add, flush, final}
use Rattle.rules.specs.Ascending.{lowest, set_breach, add_breach, check_set, check_add, checks, answer}
use Rattle.laws.specs.ModelBase.{In, bool_cases}
use Rattle.laws.specs.Accepted.{verdict_other}
use Rattle.ascending.specs.Claims.{Packed}
use Rattle.ascending.specs.Same.{ascend_outs, no_breach}
use Rattle.ascending.specs.Lowest.{set_at, free_from, places_in}

-- a list of checks does not give m where its first passes or has another number, and those after it do not give m
passed : (m : ℕ) (c : Check) (cs : List Check) → c.fails ≡ false → verdict cs ≢ m → verdict (c ∷ cs) ≢ m
unfolding verdict
passed m c cs e f = rw (e, verdict) f

other : (m : ℕ) (c : Check) (cs : List Check) → c.number ≢ m → (c.fails ≡ false → verdict cs ≢ m) → verdict (c ∷ cs) ≢ m
unfolding verdict
other m c cs n f = go (bool_cases c.fails)
  where
    go : (c.fails ≡ true) ⊎ (c.fails ≡ false) → verdict (c ∷ cs) ≢ m
    go (inl e) = rw (e, verdict) n
    go (inr e) = passed m c cs e (f e)

any_none : (t : ℕ → Bool) (l : List ℕ) → ((i : ℕ) → In i l → t i ≡ false) → any t l ≡ false
unfolding any
any_none t [] h = refl
any_none t (x ∷ l) h = rw (h x (Memᴰ.head refl)) (any_none t l (λ i y. h i (Memᴰ.tail y)))

module _ (N W : ℕ) (k : Model) where
  -- where 21 passes, 8 does
  set_free : (x : ℕ) → Packed N k → set_breach (lowest N k) x ≡ false → taken k x ≡ false
  set_free x p e = free_from N k x p (omega (arith, set_at (lowest N k) x e))

  add_free : (ins outs : List ℕ) → Packed N k → add_breach (lowest N k) ins outs ≡ false → any (taken k) outs ≡ false
  add_free ins outs p e =
      let m = lowest N k in
      let outs_are = ascend_outs m outs (no_breach m ins outs e).0 in
      any_none (taken k) outs (λ i y. free_from N k i p (places_in m _ i (rw outs_are at y)).0)

  pub never_taken : Packed N k → (c : Call) → answer N W c k ≢ refusal.taken_place
  unfolding answer checks check_set check_add check_flush check_final check_closed check_places any
  never_taken p (set x) =
      let m = refusal.taken_place in
      other m _ _ (omega arith) (λ _. other m _ _ (omega arith) (λ _. other m _ _ (omega arith) (λ _.
      other m _ _ (omega arith) (λ e. passed m _ _ (set_free x p e) (verdict_other m _ (omega arith) refl)))))
  never_taken p (add lane ins outs) =
      let m = refusal.taken_place in
      other m _ _ (omega arith) (λ _. other m _ _ (omega arith) (λ _. other m _ _ (omega arith) (λ _.
      other m _ _ (omega arith) (λ _. other m _ _ (omega arith) (λ _. other m _ _ (omega arith) (λ _.
      other m _ _ (omega arith) (λ e. passed m _ _ (add_free ins outs p e) (verdict_other m _ (omega arith) refl))))))))
  never_taken p flush = verdict_other refusal.taken_place _ (omega arith) refl
  never_taken p final = verdict_other refusal.taken_place _ (omega arith) refl

  pub never_still_waiting : k.pending ≡ [] → (c : Call) → answer N W c k ≢ refusal.still_waiting
  unfolding answer checks check_set check_add check_flush check_final check_closed check_places any
  never_still_waiting e (set x) = verdict_other refusal.still_waiting _ (omega arith) refl
  never_still_waiting e (add lane ins outs) = verdict_other refusal.still_waiting _ (omega arith) refl
  never_still_waiting e flush = verdict_other refusal.still_waiting _ (omega arith) refl
  never_still_waiting e final =
      let m = refusal.still_waiting in
      other m _ _ (omega arith) (λ _. passed m _ _ (rw e) (verdict_other m _ (omega arith) refl))
