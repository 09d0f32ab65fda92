-- One induction over the calls for every further invariant of the model. An invariant `Q k st` speaks of a model k and the stack st of
-- registrations that are still to be placed; `Kept` says that each part of each call keeps it, `kept` that it then holds after every
-- list of calls. The induction also shows that between calls the record has a row for each accepted registration.
use Rattle.std.specs.Prelude.{◌≡◌, ◌⊎◌, false, set as set_at, eqb}
use Rattle.std.proofs.Math.Path.{refl, ap}
use Rattle.std.proofs.Common.{◌∙◌, inr, arith, eqb-true}
use mathlib.Core.List.Memᴰ
use mathlib.Core.List.{List, [], ◌∷◌, ◌++◌}
use Rattle.std.proofs.Math.Logic.{inl}
use Rattle.std.proofs.Math.Bool.{true}
use Prim.Native.Nat.{ℕ, zero, suc, ◌+◌, ◌-◌, ◌≤◌}
use Rattle.std.proofs.Math.ListN.{length, length-append, length-set}
use Rattle.rules.specs.Model.{Recorded, with_record, note_add, note_flush, note_final, do_flush, do_final, Reg, Model, watermark, greatest, ready, place_one, keep, queue, push}
use Rattle.rules.specs.Model.{off, rest, with_set, with_add, with_flush, cascade, settle_all, do_set, do_add, initial}
use Rattle.rules.specs.Calls.{unless_refused, Call, set, add, flush, final, apply_call, answer, step, run}
use Rattle.laws.specs.ModelBase.{In, bool_cases}
use Rattle.laws.specs.ModelInv.{Inv, place_one_inv, record_inv}
use Rattle.laws.specs.CascadeInv.{off_inv, push_from, push_length, off_rest, place_pending}
use Rattle.laws.specs.CallInv.{with_set_inv, add_inv, flush_inv, initial_inv, step_inv, add_stack}

-- what a call may store in the record: a row for each accepted registration, with the written that it had or the order's length
pub record Notes (N : ℕ) (k : Model) (d : Recorded) : Type 0 where
  pub many : length d.written ≡ length k.adds
  pub each : (x : ℕ) → In x d.written → In x k.recorded.written ⊎ (x ≡ length k.guide.order)
  pub places_is : (d.places ≡ k.recorded.places) ⊎ (d.places ≡ watermark N k)

-- each part of each call keeps Q
pub record Kept (P N W : ℕ) (Q : Model → List ℕ → Type 0) : Type 0 where
  pub placing : (c r : ℕ) (st : List ℕ) (k : Model) → c ≤ length k.adds → Inv P N k (r ∷ st) → Q k (r ∷ st) → Q (rest N (place_one P c r k)) (push (off N (place_one P c r k)) st)
  pub setting : (x : ℕ) (k : Model) → Inv P N k [] → answer N W (set x) k ≡ 0 → Q k [] → Q (rest N (with_set x k)) (off N (with_set x k))
  pub adding : (lane : ℕ) (ins outs : List ℕ) (k : Model) → Inv P N k [] → answer N W (add lane ins outs) k ≡ 0 → ready (watermark N k) ins ≡ true → Q k []
      → Q (with_add (record { lane = lane; ins = ins; outs = outs }) k) (length k.adds ∷ [])
  pub delaying : (lane : ℕ) (ins outs : List ℕ) (k : Model) → Inv P N k [] → answer N W (add lane ins outs) k ≡ 0 → ready (watermark N k) ins ≡ false → Q k []
      → Q (keep (queue (record { under = greatest ins; reg = length k.adds }) k.pending) (with_add (record { lane = lane; ins = ins; outs = outs }) k)) []
  pub flushing : (k : Model) → Inv P N k [] → answer N W flush k ≡ 0 → Q k [] → Q (with_flush P (suc k.flushes) k.closed k) []
  pub closing : (k : Model) → Inv P N k [] → answer N W final k ≡ 0 → Q k [] → Q (with_flush P k.flushes true k) []
  pub recording : (d : Recorded) (k : Model) → Inv P N k [] → Notes N k d → Q k [] → Q (with_record d k) []

module _ (P N W : ℕ) where
  -- invariants that are kept are kept together
  pub every : (A : Type 0) (Q : A → Model → List ℕ → Type 0) → ((a : A) → Kept P N W (Q a)) → Kept P N W (λ k st. (a : A) → Q a k st)
  every A Q κ =
      record {
        placing = λ c r st k l v q a. (κ a).placing c r st k l v (q a);
        setting = λ x k v e q a. (κ a).setting x k v e (q a);
        adding = λ lane ins outs k v e h q a. (κ a).adding lane ins outs k v e h (q a);
        delaying = λ lane ins outs k v e h q a. (κ a).delaying lane ins outs k v e h (q a);
        flushing = λ k v e q a. (κ a).flushing k v e (q a);
        closing = λ k v e q a. (κ a).closing k v e (q a);
        recording = λ d k v n q a. (κ a).recording d k v n (q a);
      }

  -- what is equivalent to a kept invariant is kept
  pub equivalent : {Q R : Model → List ℕ → Type 0} → ((k : Model) (st : List ℕ) → Q k st → R k st) → ((k : Model) (st : List ℕ) → R k st → Q k st) → Kept P N W Q → Kept P N W R
  equivalent to from κ =
      record {
        placing = λ c r st k l v q. to _ _ (κ.placing c r st k l v (from _ _ q));
        setting = λ x k v e q. to _ _ (κ.setting x k v e (from _ _ q));
        adding = λ lane ins outs k v e h q. to _ _ (κ.adding lane ins outs k v e h (from _ _ q));
        delaying = λ lane ins outs k v e h q. to _ _ (κ.delaying lane ins outs k v e h (from _ _ q));
        flushing = λ k v e q. to _ _ (κ.flushing k v e (from _ _ q));
        closing = λ k v e q. to _ _ (κ.closing k v e (from _ _ q));
        recording = λ d k v n q. to _ _ (κ.recording d k v n (from _ _ q));
      }

-- between calls the record has a row for each accepted registration
abbrev pub Noted : Model → Type 0
Noted k = length k.recorded.written ≡ length k.adds

-- placing changes neither the accepted adds nor the record, closes nothing and counts no flush
abbrev SameLists : Model → Model → Type 0
SameLists j k = (j.adds ≡ k.adds) × (j.recorded ≡ k.recorded) × (j.closed ≡ k.closed) × (j.flushes ≡ k.flushes)

cascade_same : (P N c f : ℕ) (st : List ℕ) (k : Model) → SameLists (cascade P N c f st k) k
unfolding cascade rest keep place_one
cascade_same P N c zero st k = (refl, refl, refl, refl)
cascade_same P N c (suc f) [] k = (refl, refl, refl, refl)
cascade_same P N c (suc f) (r ∷ st) k = cascade_same P N c f (push (off N (place_one P c r k)) st) (rest N (place_one P c r k))

settle_same : (P N c : ℕ) (st : List ℕ) (k : Model) → SameLists (settle_all P N c st k) k
unfolding settle_all
settle_same P N c st k = cascade_same P N c _ st k

-- set, and add beside its own registration, leave adds, record, closed and flushes alone
pub set_same : (P N x : ℕ) (k : Model) → SameLists (do_set P N x k) k
unfolding do_set rest keep with_set
set_same P N x k = settle_same P N (length k.adds) (off N (with_set x k)) (rest N (with_set x k))

pub add_same : (P N : ℕ) (a : Reg) (k : Model) → SameLists (do_add P N a k) (with_add a k)
unfolding do_add keep
add_same P N a k = go (bool_cases (ready (watermark N k) a.ins))
  where
    go : (ready (watermark N k) a.ins ≡ true) ⊎ (ready (watermark N k) a.ins ≡ false) → SameLists (do_add P N a k) (with_add a k)
    go (inl e) = rw (e, do_add) (settle_same P N (length k.adds) (length k.adds ∷ []) (with_add a k))
    go (inr e) = rw (e, do_add) (refl, refl, refl, refl)

in_set : (l : List ℕ) (i v x : ℕ) → In x (set_at l i v) → In x l ⊎ (x ≡ v)
in_set [] i v x h = absurd (Memᴰ.not-nil h)
in_set (y ∷ l) zero v x h = go (Memᴰ.cases_cons h)
  where
    go : (x ≡ v) ⊎ In x l → In x (y ∷ l) ⊎ (x ≡ v)
    go (inl e) = inr e
    go (inr e) = inl (Memᴰ.tail e)
in_set (y ∷ l) (suc i) v x h = go (Memᴰ.cases_cons h) (λ z. in_set l i v x z)
  where
    lift : In x l ⊎ (x ≡ v) → In x (y ∷ l) ⊎ (x ≡ v)
    lift (inl e) = inl (Memᴰ.tail e)
    lift (inr e) = inr e

    go : (x ≡ y) ⊎ In x (set_at l i v) → (In x (set_at l i v) → In x l ⊎ (x ≡ v)) → In x (y ∷ l) ⊎ (x ≡ v)
    go (inl e) f = inl (Memᴰ.head e)
    go (inr e) f = lift (f e)

add_notes : (N : ℕ) (k : Model) → suc (length k.recorded.written) ≡ length k.adds
    → Notes N k (record { written = k.recorded.written ++ (length k.guide.order ∷ []); places = k.recorded.places })
add_notes N k h =
    record { many = simp length-append (omega arith); each = λ x y. go x (Memᴰ.append_cases k.recorded.written y); places_is = inl refl }
  where
    go : (x : ℕ) → In x k.recorded.written ⊎ In x (length k.guide.order ∷ []) → In x k.recorded.written ⊎ (x ≡ length k.guide.order)
    go x (inl y) = inl y
    go x (inr y) = inr (Memᴰ.eq_of_singleton y)

flush_notes : (N : ℕ) (k : Model) → Noted k
    → Notes N k (record { written = set_at k.recorded.written (length k.recorded.written - 1) (length k.guide.order); places = k.recorded.places })
flush_notes N k h =
    record { many = length-set k.recorded.written _ _ ∙ h; each = λ x y. in_set k.recorded.written _ _ x y; places_is = inl refl }

final_notes : (N : ℕ) (k : Model) → Noted k → Notes N k (record { written = k.recorded.written; places = watermark N k })
final_notes N k h = record { many = h; each = λ x y. inl y; places_is = inr refl }

module _ (P N : ℕ) (k : Model) (n : Noted k) where
  added_row : (a : Reg) → suc (length (do_add P N a k).recorded.written) ≡ length (do_add P N a k).adds
  unfolding with_add
  added_row a = let s = add_same P N a k in rw (s.0, s.1, length-append) (omega arith)

  -- every call leaves the record with a row for each accepted registration
  pub call_noted : (c : Call) → Noted (apply_call P N c k)
  unfolding apply_call note_add do_flush note_flush do_final note_final with_record with_flush
  call_noted (set x) = let s = set_same P N x k in rw (s.0, s.1) n
  call_noted (add lane ins outs) = (add_notes N (do_add P N _ k) (added_row _)).many
  call_noted flush = length-set k.recorded.written _ _ ∙ n
  call_noted final = length-set k.recorded.written _ _ ∙ n

  pub step_noted : (W : ℕ) (c : Call) → Noted (step P N W c k)
  unfolding step unless_refused
  step_noted W c = go (bool_cases (eqb (answer N W c k) 0))
    where
      go : (eqb (answer N W c k) 0 ≡ true) ⊎ (eqb (answer N W c k) 0 ≡ false) → Noted (step P N W c k)
      go (inl e) = rw (e, unless_refused) (call_noted c)
      go (inr e) = rw (e, unless_refused) n

module _ (P N W : ℕ) (hP : 1 ≤ P) (Q : Model → List ℕ → Type 0) (κ : Kept P N W Q) where
  cascade_kept : (c f : ℕ) (st : List ℕ) (k : Model) → length st + length k.pending ≤ f → c ≤ length k.adds → Inv P N k st → Q k st → Q (cascade P N c f st k) []
  unfolding cascade rest keep place_one
  cascade_kept c zero [] k h l v q = q
  cascade_kept c zero (r ∷ st) k h l v q = absurd (omega arith)
  cascade_kept c (suc f) [] k h l v q = q
  cascade_kept c (suc f) (r ∷ st) k h l v q =
      let j = place_one P c r k in
      cascade_kept c f (push (off N j) st) (rest N j)
      (omega (arith, push_length (off N j) st, off_rest N j, ap length (place_pending P c r k)))
      l
      (off_inv P N j st (place_one_inv P N c r st k hP v) (push (off N j) st) (push_from (off N j) st))
      (κ.placing c r st k l v q)

  -- placing a whole stack keeps Q
  pub settle_kept : (c : ℕ) (st : List ℕ) (k : Model) → c ≤ length k.adds → Inv P N k st → Q k st → Q (settle_all P N c st k) []
  unfolding settle_all
  settle_kept c st k l v q = cascade_kept c _ st k (omega arith) l v q

  set_kept : (x : ℕ) (k : Model) → Inv P N k [] → answer N W (set x) k ≡ 0 → Q k [] → Q (do_set P N x k) []
  unfolding do_set rest keep with_set
  set_kept x k v a q =
      settle_kept (length k.adds) (off N (with_set x k)) (rest N (with_set x k)) (omega arith)
      (off_inv P N (with_set x k) [] (with_set_inv P N hP k v x) (off N (with_set x k)) (λ r h. inl h)) (κ.setting x k v a q)

  add_kept : (lane : ℕ) (ins outs : List ℕ) (k : Model) → Inv P N k [] → answer N W (add lane ins outs) k ≡ 0 → Q k [] → Q (do_add P N (record { lane = lane; ins = ins; outs = outs }) k) []
  unfolding do_add with_add
  add_kept lane ins outs k v a q = go (bool_cases (ready (watermark N k) ins))
    where
      more : length k.adds ≤ length (with_add (record { lane = lane; ins = ins; outs = outs }) k).adds
      more = simp length-append (omega arith)

      go : (ready (watermark N k) ins ≡ true) ⊎ (ready (watermark N k) ins ≡ false) → Q (do_add P N (record { lane = lane; ins = ins; outs = outs }) k) []
      go (inl e) = rw (e, do_add) (settle_kept (length k.adds) (length k.adds ∷ []) (with_add _ k) more (add_stack P N hP k v (record { lane = lane; ins = ins; outs = outs }) e)
          (κ.adding lane ins outs k v a e q))
      go (inr e) = rw (e, do_add) (κ.delaying lane ins outs k v a e q)

  call_kept : (c : Call) (k : Model) → Inv P N k [] → Noted k → answer N W c k ≡ 0 → Q k [] → Q (apply_call P N c k) []
  unfolding apply_call note_add do_flush note_flush do_final note_final with_flush with_record
  call_kept (set x) k v n a q = set_kept x k v a q
  call_kept (add lane ins outs) k v n a q = κ.recording _ _ (add_inv P N hP k v _) (add_notes N (do_add P N _ k) (added_row P N k n _)) (add_kept lane ins outs k v a q)
  call_kept flush k v n a q =
      let j = with_flush P (suc k.flushes) k.closed k in
      κ.recording _ j (flush_inv P N hP k v _ _) (flush_notes N j n) (κ.flushing k v a q)
  call_kept final k v n a q =
      let j = with_flush P k.flushes true k in
      κ.recording _ (note_flush j) (record_inv P N _ _ [] (flush_inv P N hP k v _ _)) (final_notes N (note_flush j) (flush_notes N j n).many)
      (κ.recording _ j (flush_inv P N hP k v _ _) (flush_notes N j n) (κ.closing k v a q))

  -- a call keeps Q, refused or not
  pub step_kept : (c : Call) (k : Model) → Inv P N k [] → Noted k → Q k [] → Q (step P N W c k) []
  unfolding step unless_refused
  step_kept c k v n q = go (bool_cases (eqb (answer N W c k) 0))
    where
      go : (eqb (answer N W c k) 0 ≡ true) ⊎ (eqb (answer N W c k) 0 ≡ false) → Q (step P N W c k) []
      go (inl e) = rw (e, unless_refused) (call_kept c k v n (eqb-true (answer N W c k) 0 e) q)
      go (inr e) = rw (e, unless_refused) q

  -- so does a list of calls
  pub run_kept : (cs : List Call) (k : Model) → Inv P N k [] → Noted k → Q k [] → Q (run P N W cs k) []
  unfolding run
  run_kept [] k v n q = q
  run_kept (c ∷ cs) k v n q = run_kept cs (step P N W c k) (step_inv P N hP k v W c) (step_noted P N k n W c) (step_kept c k v n q)

  -- what a fresh session has and every part keeps, holds after every list of calls
  pub kept : Q initial [] → (cs : List Call) → Q (run P N W cs initial) []
  unfolding initial
  kept q cs = run_kept cs initial (initial_inv P N) refl q

pub run_noted : (P N W : ℕ) (cs : List Call) (k : Model) → Noted k → Noted (run P N W cs k)
unfolding run
run_noted P N W [] k n = n
run_noted P N W (c ∷ cs) k n = run_noted P N W cs (step P N W c k) (step_noted P N k n W c)

pub initial_noted : Noted initial
unfolding initial
initial_noted = refl
