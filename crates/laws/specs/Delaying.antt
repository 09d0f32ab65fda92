-- Who waits: an accepted registration is pending exactly when it has inputs and the greatest is above the high mark. The pending ones
-- are sorted by place, then by registration. What comes off when the watermark moves leaves that true.
use Rattle.std.specs.Prelude.{◌≡◌, ◌⊎◌, Bool, true, false, ℕ, zero, suc, ◌+◌, ◌≤◌, ◌<◌, ltb}
use Rattle.std.proofs.Math.Path.{refl}
use Rattle.std.proofs.Common.{sym, ap, ◌∙◌, inl, ltb-true, ltb-false, lt-ltb, le-ltb}
use mathlib.Core.List.Memᴰ
use mathlib.Core.List.{List, [], ◌∷◌, Memᴰ}
use Rattle.std.proofs.Math.Logic.{inr}
use Rattle.std.proofs.lemmas.Bool.{false≢true}
use native.Mathlib.Omega.{arith}
use Rattle.std.proofs.Math.ListN.{length, length-append}
use Rattle.rules.specs.Model.{Recorded, with_record, Reg, Pending, Model, watermark, run_from, marked, tracked, ready, greatest, reg_of, place_one, keep, queue, left, rest}
use Rattle.rules.specs.Model.{with_set, with_add, with_flush, initial}
use Rattle.rules.specs.Calls.{Call, run}
use Rattle.laws.specs.ModelBase.{In, bool_cases, tracked_cases, tracked_of, marked_append}
use Rattle.laws.specs.History.{lt_or_le}
use Rattle.laws.specs.ModelInv.{Inv}
use Rattle.laws.specs.CascadeInv.{left_from}
use Rattle.laws.specs.CallInv.{reg_of_old, reg_of_new, queue_from}
use Rattle.laws.specs.Kept.{Kept, kept}

run_ge : (t : ℕ → Bool) (f n : ℕ) → n ≤ run_from t f n
unfolding run_from
run_ge t zero n = omega arith
run_ge t (suc f) n = go (bool_cases (t n)) (run_ge t f (suc n))
  where
    go : (t n ≡ true) ⊎ (t n ≡ false) → suc n ≤ run_from t f (suc n) → n ≤ run_from t (suc f) n
    go (inl e) h = rw (e, run_from) (omega arith)
    go (inr e) h = rw (e, run_from) (omega arith)

run_mono : (t u : ℕ → Bool) → ((i : ℕ) → t i ≡ true → u i ≡ true) → (f n : ℕ) → run_from t f n ≤ run_from u f n
unfolding run_from
run_mono t u h zero n = omega arith
run_mono t u h (suc f) n = go (bool_cases (t n)) (run_mono t u h f (suc n))
  where
    go : (t n ≡ true) ⊎ (t n ≡ false) → run_from t f (suc n) ≤ run_from u f (suc n) → run_from t (suc f) n ≤ run_from u (suc f) n
    go (inl e) r = rw (e, h n e, run_from) r
    go (inr e) r = rw (e, run_from) (run_ge u (suc f) n)

watermark_mono : (N : ℕ) (k j : Model) → ((i : ℕ) → tracked k i ≡ true → tracked j i ≡ true) → watermark N k ≤ watermark N j
unfolding watermark
watermark_mono N k j h = run_mono (tracked k) (tracked j) h N 0

pub ready_up : (m n : ℕ) (l : List ℕ) → m ≤ n → ready m l ≡ true → ready n l ≡ true
unfolding ready
ready_up m n [] h e = refl
ready_up m n (x ∷ l) h e = lt-ltb (greatest (x ∷ l)) n (omega (arith, ltb-true (greatest (x ∷ l)) m e))

pub ready_off : (m n : ℕ) (l : List ℕ) → n ≤ greatest l → ready m l ≡ false → ready n l ≡ false
unfolding ready
ready_off m n [] h e = e
ready_off m n (x ∷ l) h e = le-ltb _ _ h

ready_on : (n : ℕ) (l : List ℕ) → greatest l < n → ready n l ≡ true
unfolding ready
ready_on n [] h = refl
ready_on n (x ∷ l) h = lt-ltb _ _ h

-- what is not ready has its greatest input at the watermark or above
pub not_ready : (n : ℕ) (l : List ℕ) → ready n l ≡ false → n ≤ greatest l
unfolding ready
not_ready n [] h = absurd (false≢true (sym h))
not_ready n (x ∷ l) h = ltb-false _ _ h

-- by ascending place, then by registration
abbrev pub Before : Pending → Pending → Type 0
Before w v = (w.under < v.under) ⊎ ((w.under ≡ v.under) × (w.reg < v.reg))

pub before_le : (w v : Pending) → Before w v → w.under ≤ v.under
before_le w v (inl h) = omega arith
before_le w v (inr h) = omega arith

-- each before all that follow it
abbrev pub Sorted : List Pending → Type 0
Sorted [] = Unit {0}
Sorted (w ∷ ws) = ((v : Pending) → Memᴰ v ws → Before w v) × Sorted ws

pub left_sorted : (m : ℕ) (ws : List Pending) → Sorted ws → Sorted (left m ws)
unfolding left
left_sorted m [] s = tt
left_sorted m (w ∷ ws) s = go (bool_cases (ltb w.under m)) (left_sorted m ws s.1)
  where
    go : (ltb w.under m ≡ true) ⊎ (ltb w.under m ≡ false) → Sorted (left m ws) → Sorted (left m (w ∷ ws))
    go (inl e) r = rw (e, left) r
    go (inr e) r = rw (e, left) s

pub left_above : (m : ℕ) (ws : List Pending) → Sorted ws → (w : Pending) → Memᴰ w (left m ws) → m ≤ w.under
unfolding left
left_above m [] s w h = absurd (Memᴰ.not-nil h)
left_above m (v ∷ ws) s w h = go (bool_cases (ltb v.under m)) (λ y. left_above m ws s.1 w y)
  where
    go : (ltb v.under m ≡ true) ⊎ (ltb v.under m ≡ false) → (Memᴰ w (left m ws) → m ≤ w.under) → m ≤ w.under
    go (inl e) r = r (rw (e, left) at h)
    go (inr e) r = past (Memᴰ.cases_cons (rw (e, left) at h))
      where
        past : (w ≡ v) ⊎ Memᴰ w ws → m ≤ w.under
        past (inl y) = rw y (ltb-false v.under m e)
        past (inr y) = omega (arith, ltb-false v.under m e, before_le v w (s.0 w y))

left_or_due : (m : ℕ) (ws : List Pending) (w : Pending) → Memᴰ w ws → Memᴰ w (left m ws) ⊎ (w.under < m)
unfolding left
left_or_due m [] w h = absurd (Memᴰ.not-nil h)
left_or_due m (v ∷ ws) w h = go (bool_cases (ltb v.under m)) (Memᴰ.cases_cons h) (λ y. left_or_due m ws w y)
  where
    go : (ltb v.under m ≡ true) ⊎ (ltb v.under m ≡ false) → (w ≡ v) ⊎ Memᴰ w ws → (Memᴰ w ws → Memᴰ w (left m ws) ⊎ (w.under < m))
        → Memᴰ w (left m (v ∷ ws)) ⊎ (w.under < m)
    go (inl e) (inl y) r = inr (rw y (ltb-true v.under m e))
    go (inl e) (inr y) r = rw (e, left) (r y)
    go (inr e) y r = inl (rw (e, left) h)

pub queue_sorted : (x : Pending) (ws : List Pending) → ((v : Pending) → Memᴰ v ws → v.reg < x.reg) → Sorted ws → Sorted (queue x ws)
unfolding queue
queue_sorted x [] n s = ((λ v h. absurd (Memᴰ.not-nil h)), tt)
queue_sorted x (w ∷ ws) n s = go (bool_cases (ltb x.under w.under)) (queue_sorted x ws (λ v h. n v (Memᴰ.tail h)) s.1)
  where
    front : ltb x.under w.under ≡ true → (v : Pending) → (v ≡ w) ⊎ Memᴰ v ws → Before x v
    front e v (inl h) = inl (rw h (omega (arith, ltb-true x.under w.under e)))
    front e v (inr h) = inl (omega (arith, ltb-true x.under w.under e, before_le w v (s.0 v h)))

    last : w.under ≤ x.under → (w.under < x.under) ⊎ (x.under ≤ w.under) → Before w x
    last a (inl b) = inl b
    last a (inr b) = inr (omega arith, n w (Memᴰ.head refl))

    back : ltb x.under w.under ≡ false → (v : Pending) → (v ≡ x) ⊎ Memᴰ v ws → Before w v
    back e v (inl h) = rw h (last (ltb-false x.under w.under e) (lt_or_le w.under x.under))
    back e v (inr h) = s.0 v h

    go : (ltb x.under w.under ≡ true) ⊎ (ltb x.under w.under ≡ false) → Sorted (queue x ws) → Sorted (queue x (w ∷ ws))
    go (inl e) r = rw (e, queue) ((λ v h. front e v (Memᴰ.cases_cons h)), s)
    go (inr e) r = rw (e, queue) ((λ v h. back e v (queue_from x ws v h)), r)

in_queue : (x : Pending) (ws : List Pending) → Memᴰ x (queue x ws)
unfolding queue
in_queue x [] = Memᴰ.head refl
in_queue x (w ∷ ws) = go (bool_cases (ltb x.under w.under)) (in_queue x ws)
  where
    go : (ltb x.under w.under ≡ true) ⊎ (ltb x.under w.under ≡ false) → Memᴰ x (queue x ws) → Memᴰ x (queue x (w ∷ ws))
    go (inl e) r = rw (e, queue) (Memᴰ.head refl)
    go (inr e) r = rw (e, queue) (Memᴰ.tail r)

stays_queued : (x : Pending) (ws : List Pending) (v : Pending) → Memᴰ v ws → Memᴰ v (queue x ws)
unfolding queue
stays_queued x [] v h = absurd (Memᴰ.not-nil h)
stays_queued x (w ∷ ws) v h = go (bool_cases (ltb x.under w.under)) (Memᴰ.cases_cons h) (λ y. stays_queued x ws v y)
  where
    go : (ltb x.under w.under ≡ true) ⊎ (ltb x.under w.under ≡ false) → (v ≡ w) ⊎ Memᴰ v ws → (Memᴰ v ws → Memᴰ v (queue x ws)) → Memᴰ v (queue x (w ∷ ws))
    go (inl e) y r = rw (e, queue) (Memᴰ.tail h)
    go (inr e) (inl y) r = rw (e, queue) (Memᴰ.head y)
    go (inr e) (inr y) r = rw (e, queue) (Memᴰ.tail (r y))

-- a registration that waits
abbrev pub IsPending : Model → ℕ → Type 0
IsPending k r = (w : Pending) × Memᴰ w k.pending × (w.reg ≡ r)

-- the sentence: those pending are not ready at the present watermark, and every other accepted one is
pub record Delaying (N : ℕ) (k : Model) (st : List ℕ) : Type 0 where
  pub sorted : Sorted k.pending
  pub above : (w : Pending) → Memᴰ w k.pending → ready (watermark N k) (reg_of k w.reg).ins ≡ false
  pub others : (r : ℕ) → r < length k.adds → IsPending k r ⊎ (ready (watermark N k) (reg_of k r).ins ≡ true)

watermark_rest : (N : ℕ) (j : Model) → watermark N (rest N j) ≡ watermark N j
unfolding watermark rest keep tracked
watermark_rest N j = refl

rest_pending : (N : ℕ) (j : Model) → (rest N j).pending ≡ left (watermark N j) j.pending
unfolding rest keep
rest_pending N j = refl

rest_adds : (N : ℕ) (j : Model) → (rest N j).adds ≡ j.adds
unfolding rest keep
rest_adds N j = refl

rest_reg : (N : ℕ) (j : Model) (r : ℕ) → reg_of (rest N j) r ≡ reg_of j r
unfolding rest keep reg_of
rest_reg N j r = refl

-- when the watermark has moved, what comes off leaves the sentence true
module _ (P N : ℕ) (k j : Model) (st st' : List ℕ) (v : Inv P N k st) (p : Delaying N k st) (adds_same : j.adds ≡ k.adds) (pending_same : j.pending ≡ k.pending)
    (reg_same : (r : ℕ) → reg_of j r ≡ reg_of k r) (grows : (i : ℕ) → tracked k i ≡ true → tracked j i ≡ true) where
  mono : watermark N k ≤ watermark N j
  mono = watermark_mono N k j grows

  rest_left : (rest N j).pending ≡ left (watermark N j) k.pending
  rest_left = rest_pending N j ∙ ap (left (watermark N j)) pending_same

  pub moved : Delaying N (rest N j) st'
  moved =
      record {
        sorted = rw rest_left (left_sorted (watermark N j) k.pending p.sorted);
        above = λ w h. over w (rw rest_left at h);
        others = λ r h. rw (watermark_rest, rest_reg, reg_same) (go r (p.others r (rw (rest_adds, adds_same) at h)));
      }
    where
      over : (w : Pending) → Memᴰ w (left (watermark N j) k.pending) → ready (watermark N (rest N j)) (reg_of (rest N j) w.reg).ins ≡ false
      over w h =
          let o = left_from (watermark N j) k.pending w h in
          rw (watermark_rest, rest_reg, reg_same) (ready_off (watermark N k) (watermark N j) (reg_of k w.reg).ins
          (omega (arith, left_above (watermark N j) k.pending p.sorted w h, (v.pending_ok w o).1)) (p.above w o))

      go : (r : ℕ) → IsPending k r ⊎ (ready (watermark N k) (reg_of k r).ins ≡ true) → IsPending (rest N j) r ⊎ (ready (watermark N j) (reg_of k r).ins ≡ true)
      go r (inr e) = inr (ready_up (watermark N k) (watermark N j) (reg_of k r).ins mono e)
      go r (inl e) = past (left_or_due (watermark N j) k.pending e.0 e.1)
        where
          past : Memᴰ e.0 (left (watermark N j) k.pending) ⊎ (e.0.under < watermark N j) → IsPending (rest N j) r ⊎ (ready (watermark N j) (reg_of k r).ins ≡ true)
          past (inl y) = inl (e.0, rw rest_left y, e.2)
          past (inr y) = inr (ready_on (watermark N j) (reg_of k r).ins (rw (← e.2) (omega (arith, (v.pending_ok e.0 e.1).1))))

tracked_place : (P c r : ℕ) (k : Model) (i : ℕ) → tracked k i ≡ true → tracked (place_one P c r k) i ≡ true
unfolding place_one
tracked_place P c r k i h = tracked_of (place_one P c r k) i (go (tracked_cases k i h))
  where
    go : In i k.sets ⊎ (marked i k.located ≡ true) → In i (place_one P c r k).sets ⊎ (marked i (place_one P c r k).located ≡ true)
    go (inl a) = inl a
    go (inr a) = inr (rw (marked_append k.located, a))

tracked_set : (x : ℕ) (k : Model) (i : ℕ) → tracked k i ≡ true → tracked (with_set x k) i ≡ true
unfolding with_set
tracked_set x k i h = tracked_of (with_set x k) i (go (tracked_cases k i h))
  where
    go : In i k.sets ⊎ (marked i k.located ≡ true) → In i (x ∷ k.sets) ⊎ (marked i k.located ≡ true)
    go (inl a) = inl (Memᴰ.tail a)
    go (inr a) = inr a

module _ (P N W : ℕ) (hP : 1 ≤ P) where
  delaying_adding : (a : Reg) (k : Model) → Inv P N k [] → ready (watermark N k) a.ins ≡ true → Delaying N k [] → Delaying N (with_add a k) (length k.adds ∷ [])
  unfolding with_add watermark tracked
  delaying_adding a k v e p =
      record {
        sorted = p.sorted;
        above = λ w h. rw (reg_of_old a k w.reg (v.pending_ok w h).0) (p.above w h);
        others = λ r h. go r (lt_or_le r (length k.adds)) (simp length-append at h);
      }
    where
      go : (r : ℕ) → (r < length k.adds) ⊎ (length k.adds ≤ r) → r < length k.adds + 1 → IsPending k r ⊎ (ready (watermark N k) (reg_of (with_add a k) r).ins ≡ true)
      go r (inl y) h = rw (reg_of_old a k r y) (p.others r y)
      go r (inr y) h = let z : r ≡ length k.adds = omega arith in inr (rw (z, reg_of_new a k) e)

  delaying_queued : (a : Reg) (k : Model) → Inv P N k [] → ready (watermark N k) a.ins ≡ false → Delaying N k []
      → Delaying N (keep (queue (record { under = greatest a.ins; reg = length k.adds }) k.pending) (with_add a k)) []
  unfolding with_add keep watermark tracked reg_of
  delaying_queued a k v e p =
      record {
        sorted = queue_sorted x k.pending (λ u h. (v.pending_ok u h).0) p.sorted;
        above = λ w h. over w (queue_from x k.pending w h);
        others = λ r h. go r (lt_or_le r (length k.adds)) (simp length-append at h);
      }
    where
      x : Pending
      x = record { under = greatest a.ins; reg = length k.adds }

      over : (w : Pending) → (w ≡ x) ⊎ Memᴰ w k.pending → ready (watermark N k) (reg_of (with_add a k) w.reg).ins ≡ false
      over w (inl y) = rw (y, reg_of_new a k) e
      over w (inr y) = rw (reg_of_old a k w.reg (v.pending_ok w y).0) (p.above w y)

      still : (r : ℕ) → IsPending k r ⊎ (ready (watermark N k) (reg_of k r).ins ≡ true) → ((w : Pending) × Memᴰ w (queue x k.pending) × (w.reg ≡ r))
          ⊎ (ready (watermark N k) (reg_of k r).ins ≡ true)
      still r (inl y) = inl (y.0, stays_queued x k.pending y.0 y.1, y.2)
      still r (inr y) = inr y

      go : (r : ℕ) → (r < length k.adds) ⊎ (length k.adds ≤ r) → r < length k.adds + 1 → ((w : Pending) × Memᴰ w (queue x k.pending) × (w.reg ≡ r))
          ⊎ (ready (watermark N k) (reg_of (with_add a k) r).ins ≡ true)
      go r (inl y) h = rw (reg_of_old a k r y) (still r (p.others r y))
      go r (inr y) h = inl (x, in_queue x k.pending, omega arith)

  pub delaying_initial : Delaying N initial []
  unfolding initial
  delaying_initial = record { sorted = tt; above = λ w h. absurd (Memᴰ.not-nil h); others = λ r h. absurd (omega arith) }

  delaying_flushing : (f : ℕ) (c : Bool) (k : Model) → Delaying N k [] → Delaying N (with_flush P f c k) []
  unfolding with_flush watermark tracked reg_of
  delaying_flushing f c k p = record { sorted = p.sorted; above = p.above; others = p.others }

  delaying_recording : (d : Recorded) (k : Model) → Delaying N k [] → Delaying N (with_record d k) []
  unfolding with_record watermark tracked reg_of
  delaying_recording d k p = record { sorted = p.sorted; above = p.above; others = p.others }

  -- every part of every call keeps it
  pub delaying_kept : Kept P N W (Delaying N)
  unfolding place_one with_set reg_of
  delaying_kept =
      record {
        placing = λ c r st k l v p. moved P N k (place_one P c r k) (r ∷ st) _ v p refl refl (λ t. refl) (tracked_place P c r k);
        setting = λ x k v a p. moved P N k (with_set x k) [] _ v p refl refl (λ t. refl) (tracked_set x k);
        adding = λ lane ins outs k v a e p. delaying_adding _ k v e p;
        delaying = λ lane ins outs k v a e p. delaying_queued _ k v e p;
        flushing = λ k v a p. delaying_flushing _ _ k p;
        closing = λ k v a p. delaying_flushing _ _ k p;
        recording = λ d k v n p. delaying_recording d k p;
      }

  -- it holds after every list of calls
  pub delaying : (cs : List Call) → Delaying N (run P N W cs initial) []
  delaying cs = kept P N W hP (Delaying N) delaying_kept delaying_initial cs
