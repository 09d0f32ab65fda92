-- No call changes an entry already written (`stays`). A session is closed after its calls exactly when one of them was an accepted final
-- (`final_closes`, `closed_by`), and then nothing is held and nothing is pending (`Done`).
use Rattle.std.specs.Prelude.{◌≡◌, ◌⊎◌, true, ℕ, ◌≤◌, length, eqb}
use Rattle.std.proofs.Math.Path.{refl, sym, ap}
use Rattle.std.proofs.Common.{◌∙◌, inl, inr, arith}
use mathlib.Core.List.{List, [], ◌∷◌, ◌++◌, append_assoc, append-nil}
use Rattle.std.proofs.Math.Bool.{false}
use Rattle.std.proofs.lemmas.Bool.{false≢true}
use Rattle.std.proofs.Math.ListN.{drop}
use Rattle.std.proofs.Math.Seq.{drop-length}
use borrow.Author.Tests.{eqb-true, eq-eqb}
use Rattle.rules.specs.Guide.{Item, Entry, released, release, flush as flush_guide}
use Rattle.laws.specs.Place.{place_step}
use Rattle.rules.specs.Model.{with_record, note_add, note_flush, note_final, do_flush, do_final, Model, reg_of, after, place_one, keep, push, off, rest, with_set, with_add, with_flush, initial}
use Rattle.rules.specs.Calls.{Call, set, add, flush, final, apply_call, answer, unless_refused, step, run}
use Rattle.laws.specs.ModelBase.{bool_cases}
use Rattle.laws.specs.ModelInv.{Inv}
use Rattle.laws.specs.CallInv.{run_inv, step_inv, initial_inv}
use Rattle.laws.specs.Accepted.{set_passed, add_passed, flush_passed, final_passed}
use Rattle.laws.specs.Kept.{Kept, run_kept, run_noted, step_noted, initial_noted, set_same, add_same}
use Rattle.laws.specs.Balance.{hsum, hsum_empties}
use Rattle.laws.specs.Demand.{FinalAccepted}

-- the order begins with o
abbrev pub Begins : List Entry → Model → List ℕ → Type 0
Begins o k st = (more : List Entry) × (k.guide.order ≡ o ++ more)

module _ (P N W : ℕ) (hP : 1 ≤ P) (o : List Entry) where
  begins_more : (k : Model) (st : List ℕ) (x : List Entry) → Begins o k st → (m : List Entry) × (k.guide.order ++ x ≡ o ++ m)
  begins_more k st x b = (b.0 ++ x, rw (b.1, append_assoc))

  begins_placing : (c r : ℕ) (st : List ℕ) (k : Model) → Inv P N k (r ∷ st) → Begins o k (r ∷ st) → Begins o (rest N (place_one P c r k)) (push (off N (place_one P c r k)) st)
  unfolding rest keep place_one
  begins_placing c r st k v b =
      let e : Item = record { value = r; added = r; accepted = c; lane = (reg_of k r).lane } in
      let s = place_step P k.guide v.past e hP v.core v.later (after k.located (reg_of k r).ins) in
      let m = begins_more k (r ∷ st) s.more b in
      (m.0, s.order_grows ∙ m.1)

  begins_kept : Kept P N W (Begins o)
  unfolding rest keep with_set with_add with_flush flush_guide release with_record
  begins_kept =
      record {
        placing = λ c r st k l v b. begins_placing c r st k v b;
        setting = λ x k v a b. b;
        adding = λ lane ins outs k v a e b. b;
        delaying = λ lane ins outs k v a e b. b;
        flushing = λ k v a b. begins_more k [] (released P 32 k.guide.spans) b;
        closing = λ k v a b. begins_more k [] (released P 32 k.guide.spans) b;
        recording = λ d k v n b. b;
      }

run_append : (P N W : ℕ) (cs ds : List Call) (k : Model) → run P N W (cs ++ ds) k ≡ run P N W ds (run P N W cs k)
unfolding run
run_append P N W [] ds k = refl
run_append P N W (c ∷ cs) ds k = run_append P N W cs ds _

-- no later call changes an entry already written
pub stays : (P N W : ℕ) → 1 ≤ P → (cs ds : List Call) → (more : List Entry) × ((run P N W (cs ++ ds) initial).guide.order ≡ (run P N W cs initial).guide.order ++ more)
stays P N W hP cs ds =
    rw (run_append P N W cs ds initial)
    (run_kept P N W hP (Begins (run P N W cs initial).guide.order) (begins_kept P N W hP (run P N W cs initial).guide.order) ds (run P N W cs initial)
    (run_inv P N W hP cs initial (initial_inv P N)) (run_noted P N W cs initial initial_noted) ([], sym (append-nil _)))

module _ (P N W : ℕ) where
  -- an accepted final closes
  pub accepted_closes : (k : Model) → answer N W final k ≡ 0 → (step P N W final k).closed ≡ true
  unfolding step unless_refused apply_call do_final note_final note_flush with_record with_flush
  accepted_closes k a = rw (eq-eqb (answer N W final k) 0 a, unless_refused)

  -- and no part of a call opens again
  closed_kept : Kept P N W (λ k st. k.closed ≡ true)
  unfolding rest keep place_one with_set with_add with_flush with_record
  closed_kept =
      record {
        placing = λ c r st k l v e. e;
        setting = λ x k v a e. e;
        adding = λ lane ins outs k v a h e. e;
        delaying = λ lane ins outs k v a h e. e;
        flushing = λ k v a e. e;
        closing = λ k v a e. refl;
        recording = λ d k v n e. e;
      }

  -- an accepted final leaves the session closed, whatever calls come later
  pub final_closes : 1 ≤ P → (before later : List Call) → answer N W final (run P N W before initial) ≡ 0 → (run P N W (before ++ (final ∷ later)) initial).closed ≡ true
  unfolding run
  final_closes hP before later a =
      let k = run P N W before initial in
      let v = run_inv P N W hP before initial (initial_inv P N) in
      rw (run_append P N W before (final ∷ later) initial)
      (run_kept P N W hP (λ j st. j.closed ≡ true) closed_kept later (step P N W final k) (step_inv P N hP k v W final)
      (step_noted P N k (run_noted P N W before initial initial_noted) W final) (accepted_closes k a))

  -- a call that closes is an accepted final
  closing_call : (c : Call) (k : Model) → k.closed ≡ false → (apply_call P N c k).closed ≡ true → c ≡ final
  unfolding apply_call note_add do_flush note_flush with_record with_flush with_add
  closing_call (set x) k o e = absurd (false≢true (sym o ∙ sym (set_same P N x k).2 ∙ e))
  closing_call (add lane ins outs) k o e = absurd (false≢true (sym o ∙ sym (add_same P N _ k).2 ∙ e))
  closing_call flush k o e = absurd (false≢true (sym o ∙ e))
  closing_call final k o e = refl

  closing_step : (c : Call) (k : Model) → k.closed ≡ false → (step P N W c k).closed ≡ true → (c ≡ final) × (answer N W final k ≡ 0)
  unfolding step unless_refused
  closing_step c k o e = go (bool_cases (eqb (answer N W c k) 0))
    where
      go : (eqb (answer N W c k) 0 ≡ true) ⊎ (eqb (answer N W c k) 0 ≡ false) → (c ≡ final) × (answer N W final k ≡ 0)
      go (inl z) = let a = eqb-true (answer N W c k) 0 z in let f = closing_call c k o (rw (z, unless_refused) at e) in (f, rw f at a)
      go (inr z) = absurd (false≢true (sym o ∙ (rw (z, unless_refused) at e)))

  closed_from : (cs : List Call) (k : Model) → k.closed ≡ false → (run P N W cs k).closed ≡ true → FinalAccepted P N W cs k
  unfolding run
  closed_from [] k o e = absurd (false≢true (sym o ∙ e))
  closed_from (c ∷ cs) k o e = go (bool_cases (step P N W c k).closed) (λ z. closed_from cs (step P N W c k) z e)
    where
      go : ((step P N W c k).closed ≡ true) ⊎ ((step P N W c k).closed ≡ false)
          → ((step P N W c k).closed ≡ false → FinalAccepted P N W cs (step P N W c k)) → FinalAccepted P N W (c ∷ cs) k
      go (inl z) f = let x = closing_step c k o z in ([], cs, ap (λ (d : Call). d ∷ cs) (sym x.0), x.1)
      go (inr z) f = let x = f z in (c ∷ x.0, x.1, ap (λ (l : List Call). c ∷ l) x.2, x.3)

  -- a session that is closed had an accepted final
  pub closed_by : (cs : List Call) → (run P N W cs initial).closed ≡ true → FinalAccepted P N W cs initial
  unfolding initial
  closed_by cs e = closed_from cs initial refl e

-- closed: nothing pending and nothing is held
abbrev pub Done : Model → List ℕ → Type 0
Done k st = k.closed ≡ true → (length st ≡ 0) × (length k.pending ≡ 0) × ((φ : ℕ → ℕ) → hsum φ k.guide.spans ≡ 0)

module _ (P N W : ℕ) (hP : 1 ≤ P) where
  flushed_empty : (k : Model) → Inv P N k [] → (φ : ℕ → ℕ) → hsum φ (flush_guide P k.guide).spans ≡ 0
  unfolding flush_guide release
  flushed_empty k v φ =
      let e : drop 32 k.guide.spans ≡ [] = rw (← v.core.window_is) (drop-length k.guide.spans) in
      rw e (hsum_empties φ 32)

  not_open : (k : Model) {X : Type 0} → k.closed ≡ false → k.closed ≡ true → X
  not_open k e c = absurd (false≢true (sym e ∙ c))

  -- every part of every call keeps it
  pub done_kept : Kept P N W Done
  unfolding rest keep place_one with_set with_add with_flush with_record
  done_kept =
      record {
        placing = λ c r st k l v d e. absurd (omega (arith, (d e).0));
        setting = λ x k v a d e. not_open k (set_passed N W x k a).not_closed e;
        adding = λ lane ins outs k v a z d e. not_open k (add_passed N W lane ins outs k a).not_closed e;
        delaying = λ lane ins outs k v a z d e. not_open k (add_passed N W lane ins outs k a).not_closed e;
        flushing = λ k v a d e. not_open k (flush_passed N W k a).not_closed e;
        closing = λ k v a d e. (refl, (final_passed N W k a).none, flushed_empty k v);
        recording = λ r k v n d. d;
      }
