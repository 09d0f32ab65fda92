-- Document 02, M-105: where the lowest untracked place is an output of an accepted registration, no later list of calls tracks it. The idea:
-- while the place is untracked the watermark stays at it, so that a writer that waits stays unready, and one that was placed is not placed
-- again; no other registration writes the place, and a set of it is refused.
use Rattle.std.specs.Prelude.{◌≡◌, refl, ◌⊎◌, ◌≢◌, Bool, false, ℕ, suc, ◌+◌, ◌≤◌, ◌<◌, length, get_or, eqb}
use Rattle.std.proofs.Math.Path.{sym}
use Rattle.std.proofs.Common.{◌∙◌, zero-add, length-append}
use mathlib.Core.List.{List, [], ◌∷◌}
use Rattle.std.proofs.Math.Logic.{inl, inr}
use Rattle.std.proofs.Math.Bool.{true}
use Rattle.std.proofs.lemmas.Bool.{false≢true}
use native.Mathlib.Omega.{arith}
use Rattle.std.proofs.Math.Dec.{ltb}
use borrow.Author.Tests.{ltb-true, ltb-false, lt-ltb, eq-eqb, ne_eqb}
use Rattle.rules.specs.Guide.{Loc}
use Rattle.rules.specs.Model.{with_record, Reg, Pending, Model, member, marked, tracked, reg_of, ready, watermark, spotted, place_one, keep, queue, push, off, rest}
use Rattle.rules.specs.Model.{with_set, with_add, with_flush}
use Rattle.rules.specs.Checks.{any, taken, written_by}
use Rattle.rules.specs.Calls.{Call, run}
use Rattle.rules.specs.Reason.{waits}
use Rattle.laws.specs.ModelBase.{In, bool_cases, or_cases, member_in, marked_append, spotted_in, watermark_tracked}
use Rattle.laws.specs.History.{lt_or_le}
use Rattle.laws.specs.GuideInv.{eq_or_ne}
use Rattle.laws.specs.CallInv.{reg_of_old}
use Rattle.laws.specs.Kept.{Kept, run_kept}
use Rattle.laws.specs.Accepted.{or_false, set_passed}
use Rattle.laws.specs.Balance.{Balance, qsum, lsum, off_sum, push_sum, queue_sum}
use Rattle.laws.specs.Apart.{free_out}
use Rattle.laws.specs.Delaying.{IsPending, ready_up}
use Rattle.laws.specs.Once.{one_of, one_same, one_other, below_le}
use Rattle.laws.specs.Sound.{Sound, Between, sound_kept}
use Rattle.laws.specs.Waits.{pending_waits, waits_not_ready}

pub not_true : (b : Bool) → (b ≡ true → ⊥) → b ≡ false
not_true true h = absurd (h refl)
not_true false h = refl

-- while a place is untracked the watermark does not pass it
pub held_down : (N x : ℕ) (k : Model) → tracked k x ≡ false → watermark N k ≤ x
held_down N x k e = go (lt_or_le x (watermark N k))
  where
    go : (x < watermark N k) ⊎ (watermark N k ≤ x) → watermark N k ≤ x
    go (inl h) = absurd (false≢true (sym e ∙ watermark_tracked N x k h))
    go (inr h) = h

-- ---- an accepted registration stays what it was

-- registration q is accepted, and it is a
abbrev Registered : ℕ → Reg → Model → Type 0
Registered q a k = (q < length k.adds) × (reg_of k q ≡ a)

registered_add : (q : ℕ) (a b : Reg) (k : Model) → Registered q a k → Registered q a (with_add b k)
unfolding with_add
registered_add q a b k e = (simp length-append (omega arith), reg_of_old b k q e.0 ∙ e.1)

registered_kept : (P N W q : ℕ) (a : Reg) → Kept P N W (λ k st. Registered q a k)
unfolding place_one rest keep with_set with_flush with_record reg_of
registered_kept P N W q a =
    record {
      placing = λ c r st k l v e. e;
      setting = λ x k v h e. e;
      adding = λ lane ins outs k v h z e. registered_add q a _ k e;
      delaying = λ lane ins outs k v h z e. registered_add q a _ k e;
      flushing = λ k v h e. e;
      closing = λ k v h e. e;
      recording = λ d k v n e. e;
    }

pub still_registered : (P N W : ℕ) → 1 ≤ P → (later : List Call) (k : Model) → Between P N W k → (q : ℕ) → q < length k.adds
    → (q < length (run P N W later k).adds) × (reg_of (run P N W later k) q ≡ reg_of k q)
still_registered P N W hP later k b q h = run_kept P N W hP (λ j st. Registered q (reg_of k q) j) (registered_kept P N W q (reg_of k q)) later k b.sound.inv b.noted (h, refl)

-- ---- the weight of one registration among those that wait

list_weight : (q : ℕ) (ws : List Pending) → any (λ (w : Pending). eqb w.reg q) ws ≡ ltb 0 (qsum (one_of q) ws)
unfolding any qsum
list_weight q [] = refl
list_weight q (w ∷ ws) = go (eq_or_ne q w.reg) (list_weight q ws)
  where
    go : (q ≡ w.reg) ⊎ (q ≢ w.reg) → any (λ (v : Pending). eqb v.reg q) ws ≡ ltb 0 (qsum (one_of q) ws)
        → any (λ (v : Pending). eqb v.reg q) (w ∷ ws) ≡ ltb 0 (qsum (one_of q) (w ∷ ws))
    go (inl e) f = rw (eq-eqb w.reg q (sym e)) (sym (lt-ltb 0 (qsum (one_of q) (w ∷ ws)) (omega (arith, one_same q w.reg e))))
    go (inr e) f = rw (ne_eqb w.reg q (λ z. e (sym z)), one_other q w.reg e, zero-add) f

waits_weight : (q : ℕ) (k : Model) → waits q k ≡ ltb 0 (qsum (one_of q) k.pending)
unfolding waits
waits_weight q k = list_weight q k.pending

-- ---- the place stays untracked

-- what a placing marks is an output
unmarked : (x : ℕ) (l : Loc) (outs : List ℕ) → (In x outs → ⊥) → marked x (spotted l outs) ≡ false
unmarked x l outs n = not_true (marked x (spotted l outs)) (λ e. n (spotted_in l outs x e).0)

-- registration q, which is a, writes x
module _ (P N W : ℕ) (hP : 1 ≤ P) (x q : ℕ) (a : Reg) (writes : In x a.outs) where
  -- q is not ready while x is untracked, or it neither waits nor is still to be placed
  abbrev NeverPlaced : List Pending → List ℕ → Type 0
  NeverPlaced ws st = (ready x a.ins ≡ false) ⊎ (qsum (one_of q) ws + lsum (one_of q) st ≡ 0)

  abbrev Stuck : Model → List ℕ → Type 0
  Stuck k st = Sound P N W k st × Registered q a k × (tracked k x ≡ false) × NeverPlaced k.pending st

  written : (k : Model) (st : List ℕ) → Stuck k st → In x (reg_of k q).outs
  written k st u = rw u.1.1 writes

  -- where it is not ready it waits
  still_waits : (k : Model) (st : List ℕ) → Stuck k st → ready x a.ins ≡ false → waits q k ≡ true
  still_waits k st u e = go (u.0.delaying.others q u.1.0)
    where
      go : IsPending k q ⊎ (ready (watermark N k) (reg_of k q).ins ≡ true) → waits q k ≡ true
      go (inl w) = pending_waits q k w
      go (inr y) = absurd (false≢true (sym e ∙ ready_up (watermark N k) x a.ins (held_down N x k u.2) (rw u.1.1 at y)))

  -- so it is not on the stack
  unstacked : (k : Model) (st : List ℕ) → Stuck k st → lsum (one_of q) st ≡ 0
  unfolding Balance
  unstacked k st u = go u.3
    where
      go : NeverPlaced k.pending st → lsum (one_of q) st ≡ 0
      go (inl e) =
          let w : ltb 0 (qsum (one_of q) k.pending) ≡ true = sym (waits_weight q k) ∙ still_waits k st u e in
          omega (arith, ltb-true 0 (qsum (one_of q) k.pending) w, u.0.balance (one_of q), below_le q (length k.adds))
      go (inr e) = omega arith

  -- the top of the stack is another registration, which does not write x
  other : (r : ℕ) (st : List ℕ) (k : Model) → Stuck k (r ∷ st) → In x (reg_of k r).outs → ⊥
  unfolding lsum
  other r st k u y = omega (arith, unstacked k (r ∷ st) u, one_same q r (u.0.apart.outs_apart x q r (written k (r ∷ st) u) y))

  -- so no placing tracks x, and no set that is accepted
  untracked_place : (c r : ℕ) (st : List ℕ) (k : Model) → Stuck k (r ∷ st) → tracked (place_one P c r k) x ≡ false
  unfolding tracked place_one
  untracked_place c r st k u =
      let n = or_false (member x k.sets) (marked x k.located) u.2 in
      rw (marked_append k.located, n.0, n.1) (unmarked x _ (reg_of k r).outs (other r st k u))

  untracked_set : (y : ℕ) (k : Model) → taken k y ≡ false → Stuck k [] → tracked (with_set y k) x ≡ false
  unfolding tracked with_set member
  untracked_set y k f u = rw (ne_eqb x y (λ e. free_out k x q (rw (← e) at f) (written k [] u))) u.2

  never_placing : (c r : ℕ) (st : List ℕ) (k : Model) → NeverPlaced k.pending (r ∷ st) → NeverPlaced (rest N (place_one P c r k)).pending (push (off N (place_one P c r k)) st)
  unfolding rest keep place_one lsum
  never_placing c r st k (inl e) = inl e
  never_placing c r st k (inr e) = let j = place_one P c r k in inr (omega (arith, off_sum (one_of q) N j, push_sum (one_of q) (off N j) st))

  never_setting : (y : ℕ) (k : Model) → NeverPlaced k.pending [] → NeverPlaced (rest N (with_set y k)).pending (off N (with_set y k))
  unfolding rest keep with_set lsum
  never_setting y k (inl e) = inl e
  never_setting y k (inr e) = inr (omega (arith, off_sum (one_of q) N (with_set y k)))

  never_adding : (n : ℕ) (ws : List Pending) → q < n → NeverPlaced ws [] → NeverPlaced ws (n ∷ [])
  unfolding lsum
  never_adding n ws h (inl e) = inl e
  never_adding n ws h (inr e) = inr (omega (arith, one_other q n (omega arith)))

  never_delaying : (w : Pending) (ws : List Pending) → q < w.reg → NeverPlaced ws [] → NeverPlaced (queue w ws) []
  never_delaying w ws h (inl e) = inl e
  never_delaying w ws h (inr e) = inr (omega (arith, one_other q w.reg (omega arith), queue_sum (one_of q) w ws))

  stuck_kept : Kept P N W Stuck
  unfolding place_one rest keep with_set with_add with_flush with_record tracked reg_of
  stuck_kept =
      let s = sound_kept P N W hP in
      let g = registered_kept P N W q a in
      record {
        placing = λ c r st k l v u. (s.placing c r st k l v u.0, u.1, untracked_place c r st k u, never_placing c r st k u.3);
        setting = λ y k v h u. (s.setting y k v h u.0, u.1, untracked_set y k (set_passed N W y k h).free u, never_setting y k u.3);
        adding = λ lane ins outs k v h z u. (s.adding lane ins outs k v h z u.0, g.adding lane ins outs k v h z u.1, u.2, never_adding (length k.adds) k.pending u.1.0 u.3);
        delaying = λ lane ins outs k v h z u. (s.delaying lane ins outs k v h z u.0, g.delaying lane ins outs k v h z u.1, u.2, never_delaying _ k.pending u.1.0 u.3);
        flushing = λ k v h u. (s.flushing k v h u.0, u.1, u.2, u.3);
        closing = λ k v h u. (s.closing k v h u.0, u.1, u.2, u.3);
        recording = λ d k v n u. (s.recording d k v n u.0, u.1, u.2, u.3);
      }

-- who writes a place that is written
writer : (x : ℕ) (l : List Reg) → written_by x l ≡ true → (q : ℕ) × (q < length l) × ((d : Reg) → In x (get_or l q d).outs)
unfolding written_by
writer x [] h = absurd (false≢true h)
writer x (a ∷ l) h = go (or_cases (member x a.outs) (written_by x l) h) (writer x l)
  where
    go : (member x a.outs ≡ true) ⊎ (written_by x l ≡ true) → (written_by x l ≡ true → (q : ℕ) × (q < length l) × ((d : Reg) → In x (get_or l q d).outs))
        → (q : ℕ) × (q < length (a ∷ l)) × ((d : Reg) → In x (get_or (a ∷ l) q d).outs)
    go (inl e) f = (0, omega arith, λ d. member_in x a.outs e)
    go (inr e) f = let w = f e in (suc w.0, omega (arith, w.1), w.2)

accepted_writer : (x : ℕ) (k : Model) → written_by x k.adds ≡ true → (q : ℕ) × (q < length k.adds) × In x (reg_of k q).outs
unfolding reg_of
accepted_writer x k h = let w = writer x k.adds h in (w.0, w.1, w.2 _)

-- the writer waits and is not ready, or it was placed
pub never_tracked : (P N W : ℕ) → 1 ≤ P → (k : Model) → Between P N W k → tracked k (watermark N k) ≡ false → written_by (watermark N k) k.adds ≡ true
    → (later : List Call) → tracked (run P N W later k) (watermark N k) ≡ false
unfolding lsum
never_tracked P N W hP k b t h later =
    let x = watermark N k in
    let w = accepted_writer x k h in
    let a = reg_of k w.0 in
    (run_kept P N W hP (Stuck P N W hP x w.0 a w.2) (stuck_kept P N W hP x w.0 a w.2) later k b.sound.inv b.noted
    (b.sound, (w.1, refl), t, start w.0 (bool_cases (waits w.0 k)))).2
  where
    start : (q : ℕ) → (waits q k ≡ true) ⊎ (waits q k ≡ false) → (ready (watermark N k) (reg_of k q).ins ≡ false) ⊎ (qsum (one_of q) k.pending + lsum (one_of q) [] ≡ 0)
    start q (inl e) = inl (waits_not_ready b q e)
    start q (inr e) = inr (omega (arith, ltb-false 0 (qsum (one_of q) k.pending) (sym (waits_weight q k) ∙ e)))
