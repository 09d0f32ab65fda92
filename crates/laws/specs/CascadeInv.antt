-- What comes off when the watermark has moved, the stack that it is pushed on, and that a cascade keeps the invariant.
use Rattle.std.specs.Prelude.{◌≡◌, refl, ◌⊎◌, true, false, ℕ, zero, suc, ◌+◌, ◌≤◌, ◌<◌, ltb}
use Rattle.std.proofs.Common.{sym, ap, inl, inr, arith, ltb-true}
use mathlib.Core.List.Memᴰ
use mathlib.Core.List.{List, [], ◌∷◌, Memᴰ}
use Rattle.std.proofs.Math.ListN.{length}
use Rattle.rules.specs.Model.{Pending, Model, tracked, watermark, reg_of, place_one, due, left, keep, push, off, rest, cascade, settle_all}
use Rattle.laws.specs.ModelBase.{In, bool_cases, watermark_tracked, greatest_ge}
use Rattle.laws.specs.ModelInv.{Inv, place_one_inv}

-- those that come off
due_from : (m : ℕ) (ws : List Pending) (r : ℕ) → In r (due m ws) → (w : Pending) × Memᴰ w ws × (w.reg ≡ r) × (w.under < m)
unfolding due
due_from m [] r h = absurd (Memᴰ.not-nil h)
due_from m (w ∷ ws) r h = go (bool_cases (ltb w.under m)) (λ y. due_from m ws r y)
  where
    go : (ltb w.under m ≡ true) ⊎ (ltb w.under m ≡ false) → (In r (due m ws) → (w : Pending) × Memᴰ w ws × (w.reg ≡ r) × (w.under < m))
        → (v : Pending) × Memᴰ v (w ∷ ws) × (v.reg ≡ r) × (v.under < m)
    go (inl e) f = past (Memᴰ.cases_cons (rw (e, due) at h))
      where
        past : (r ≡ w.reg) ⊎ In r (due m ws) → (v : Pending) × Memᴰ v (w ∷ ws) × (v.reg ≡ r) × (v.under < m)
        past (inl x) = (w, Memᴰ.head refl, sym x, ltb-true w.under m e)
        past (inr x) = let y = f x in (y.0, Memᴰ.tail y.1, y.2, y.3)
    go (inr e) f = absurd (Memᴰ.not-nil (rw (e, due) at h))

-- who stays was there before
pub left_from : (m : ℕ) (ws : List Pending) (w : Pending) → Memᴰ w (left m ws) → Memᴰ w ws
unfolding left
left_from m [] w h = h
left_from m (v ∷ ws) w h = go (bool_cases (ltb v.under m)) (λ y. left_from m ws w y)
  where
    go : (ltb v.under m ≡ true) ⊎ (ltb v.under m ≡ false) → (Memᴰ w (left m ws) → Memᴰ w ws) → Memᴰ w (v ∷ ws)
    go (inl e) f = Memᴰ.tail (f (rw (e, left) at h))
    go (inr e) f = rw (e, left) at h

due_left : (m : ℕ) (ws : List Pending) → length (due m ws) + length (left m ws) ≡ length ws
unfolding due left
due_left m [] = refl
due_left m (v ∷ ws) = go (bool_cases (ltb v.under m)) (due_left m ws)
  where
    go : (ltb v.under m ≡ true) ⊎ (ltb v.under m ≡ false) → length (due m ws) + length (left m ws) ≡ length ws → length (due m (v ∷ ws)) + length (left m (v ∷ ws)) ≡ suc (length ws)
    go (inl e) f = rw (e, due, left) (omega arith)
    go (inr e) f = rw (e, due, left) (omega arith)

-- what stands on a stack after a list was pushed on it
pub push_from : (rs st : List ℕ) (r : ℕ) → In r (push rs st) → In r rs ⊎ In r st
unfolding push
push_from [] st r h = inr h
push_from (x ∷ rs) st r h = go (push_from rs (x ∷ st) r h)
  where
    go : In r rs ⊎ In r (x ∷ st) → In r (x ∷ rs) ⊎ In r st
    go (inl y) = inl (Memᴰ.tail y)
    go (inr y) = past (Memᴰ.cases_cons y)
      where
        past : (r ≡ x) ⊎ In r st → In r (x ∷ rs) ⊎ In r st
        past (inl z) = inl (Memᴰ.head z)
        past (inr z) = inr z

pub push_length : (rs st : List ℕ) → length (push rs st) ≡ length rs + length st
unfolding push
push_length [] st = omega arith
push_length (x ∷ rs) st = omega (arith, push_length rs (x ∷ st))

module _ (P N : ℕ) (k : Model) (st : List ℕ) (v : Inv P N k st) where
  due_ready : (r : ℕ) → In r (off N k) → (r < length k.adds) × ((i : ℕ) → In i (reg_of k r).ins → tracked k i ≡ true)
  unfolding off
  due_ready r h =
      let d = due_from (watermark N k) k.pending r h in
      let o = v.pending_ok d.0 d.1 in
      rw (← d.2) (o.0, λ i y. watermark_tracked N i k (omega (arith, greatest_ge i (reg_of k d.0.reg).ins y, d.3, o.1)))

  -- what comes off is ready, so it may stand on the stack
  pub off_inv : (rs : List ℕ) → ((r : ℕ) → In r rs → In r (off N k) ⊎ In r st) → Inv P N (rest N k) rs
  unfolding rest keep reg_of tracked
  off_inv rs f =
      record {
        past = v.past;
        core = v.core;
        later = v.later;
        known = v.known;
        reads = v.reads;
        located_ok = v.located_ok;
        stack_ok = λ r h. go r (f r h);
        pending_ok = λ w h. v.pending_ok w (left_from (watermark N k) k.pending w h);
      }
    where
      go : (r : ℕ) → In r (off N k) ⊎ In r st → (r < length k.adds) × ((i : ℕ) → In i (reg_of k r).ins → tracked k i ≡ true)
      go r (inl h) = due_ready r h
      go r (inr h) = v.stack_ok r h

-- what comes off and what stays are all that was pending
pub off_rest : (N : ℕ) (k : Model) → length (off N k) + length (rest N k).pending ≡ length k.pending
unfolding off rest keep
off_rest N k = due_left (watermark N k) k.pending

pub place_pending : (P c r : ℕ) (k : Model) → (place_one P c r k).pending ≡ k.pending
unfolding place_one
place_pending P c r k = refl

-- a cascade that has fuel for all keeps the invariant and ends with an empty stack
pub cascade_inv : (P N c f : ℕ) (st : List ℕ) (k : Model) → 1 ≤ P → length st + length k.pending ≤ f → Inv P N k st → Inv P N (cascade P N c f st k) []
unfolding cascade
cascade_inv P N c zero [] k hP h v = v
cascade_inv P N c zero (r ∷ st) k hP h v = absurd (omega arith)
cascade_inv P N c (suc f) [] k hP h v = v
cascade_inv P N c (suc f) (r ∷ st) k hP h v =
    let j = place_one P c r k in
    cascade_inv P N c f (push (off N j) st) (rest N j) hP
    (omega (arith, push_length (off N j) st, off_rest N j, ap length (place_pending P c r k)))
    (off_inv P N j st (place_one_inv P N c r st k hP v) (push (off N j) st) (push_from (off N j) st))

pub settle_inv : (P N c : ℕ) (st : List ℕ) (k : Model) → 1 ≤ P → Inv P N k st → Inv P N (settle_all P N c st k) []
unfolding settle_all
settle_inv P N c st k hP v = cascade_inv P N c _ st k hP (omega arith) v
