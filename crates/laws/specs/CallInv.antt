-- Every call keeps the invariant, so it holds after every list of calls on a fresh session.
use Rattle.std.specs.Prelude.{◌≡◌, refl, ◌⊎◌, Bool, true, false, ℕ, ◌≤◌, ◌<◌, get_or, replicate, ltb, eqb}
use mathlib.Core.List.Memᴰ
use mathlib.Core.List.{List, [], ◌∷◌, ◌++◌, Memᴰ}
use Rattle.std.proofs.Math.Logic.{inl, inr}
use Rattle.std.proofs.lemmas.Bool.{false≢true}
use Rattle.std.proofs.Common.{arith, ltb-true}
use Rattle.std.proofs.Math.ListN.{length, take, length-append, get_or-append, get_or-eq_default}
use Rattle.std.proofs.Math.Seq.{get_or-append_seam}
use Rattle.rules.specs.Guide.{Loc, Item, release, released, fresh, flush as flush_guide}
use Rattle.laws.specs.History.{len}
use Rattle.laws.specs.Together.{Behind}
use Rattle.laws.specs.GuideInv.{Later, flush_core, release_later, regroup, len_empties}
use Rattle.rules.specs.Model.{note_add, note_flush, note_final, do_flush, do_final, Reg, Pending, Model, marked, tracked, watermark, greatest, loc_of, reg_of, keep, off, rest}
use Rattle.rules.specs.Model.{with_set, with_add, ready, queue, do_set, do_add, with_flush, initial}
use Rattle.rules.specs.Calls.{unless_refused, step, run, answer, apply_call, Call, set, add, flush, final}
use Rattle.laws.specs.ModelBase.{In, bool_cases, watermark_tracked, entry_at, greatest_ge, get_extend}
use Rattle.laws.specs.ModelInv.{hist, Writes, Reads, Locations, Known, Inv, record_inv}
use Rattle.laws.specs.CascadeInv.{off_inv, settle_inv}

-- the registrations after one more is accepted
pub reg_of_old : (a : Reg) (k : Model) (r : ℕ) → r < length k.adds → reg_of (with_add a k) r ≡ reg_of k r
unfolding reg_of with_add
reg_of_old a k r h = get_or-append k.adds (a ∷ []) _ r h

pub reg_of_beyond : (a : Reg) (k : Model) (r : ℕ) → length k.adds < r → (reg_of (with_add a k) r).outs ≡ []
unfolding reg_of with_add
reg_of_beyond a k r h = rw (get_or-eq_default (k.adds ++ (a ∷ [])) _ {n = r} (simp length-append (omega arith)))

pub reg_of_new : (a : Reg) (k : Model) → reg_of (with_add a k) (length k.adds) ≡ a
unfolding reg_of with_add
reg_of_new a k = get_or-append_seam k.adds a [] _

ready_below : (m : ℕ) (l : List ℕ) → ready m l ≡ true → (i : ℕ) → In i l → i < m
unfolding ready
ready_below m [] h i y = absurd (Memᴰ.not-nil y)
ready_below m (x ∷ l) h i y = omega (arith, ltb-true (greatest (x ∷ l)) m h, greatest_ge i (x ∷ l) y)

-- who stands in the queue after one more
pub queue_from : (x : Pending) (ws : List Pending) (w : Pending) → Memᴰ w (queue x ws) → (w ≡ x) ⊎ Memᴰ w ws
unfolding queue
queue_from x [] w h = Memᴰ.cases_cons h
queue_from x (y ∷ ws) w h = go (bool_cases (ltb x.under y.under)) (λ z. queue_from x ws w z)
  where
    go : (ltb x.under y.under ≡ true) ⊎ (ltb x.under y.under ≡ false) → (Memᴰ w (queue x ws) → (w ≡ x) ⊎ Memᴰ w ws) → (w ≡ x) ⊎ Memᴰ w (y ∷ ws)
    go (inl e) f = Memᴰ.cases_cons (rw (e, queue) at h)
    go (inr e) f = past (Memᴰ.cases_cons (rw (e, queue) at h))
      where
        later_one : (w ≡ x) ⊎ Memᴰ w ws → (w ≡ x) ⊎ Memᴰ w (y ∷ ws)
        later_one (inl z) = inl z
        later_one (inr z) = inr (Memᴰ.tail z)

        past : (w ≡ y) ⊎ Memᴰ w (queue x ws) → (w ≡ x) ⊎ Memᴰ w (y ∷ ws)
        past (inl z) = inr (Memᴰ.head z)
        past (inr z) = later_one (f z)

-- a history with empty spans more
abbrev Same : List (List Item) → List (List Item) → Type 0
Same H H' = (s : ℕ) → get_or H' s [] ≡ get_or H s []

module _ (k : Model) (H H' : List (List Item)) (same : Same H H') where
  same_entry : (s q : ℕ) → entry_at H' s q ≡ entry_at H s q
  unfolding entry_at
  same_entry s q = rw (same s)

  same_known : Known k H → Known k H'
  same_known f s q h = rw (same_entry s q) (f s q (rw (same s) at h))

  same_writes : (l : Loc) (i : ℕ) → Writes k H l i → Writes k H' l i
  same_writes l i w = rw (same l.span, same_entry l.span l.pos) w

  same_reads : Reads k H → Reads k H'
  same_reads f s q h i y = go (f s q (rw (same s) at h) i (rw (same_entry s q) at y))
    where
      go : In i k.sets ⊎ ((l : Loc) × Writes k H l i × Behind l.span l.pos s q) → In i k.sets ⊎ ((l : Loc) × Writes k H' l i × Behind l.span l.pos s q)
      go (inl a) = inl a
      go (inr a) = inr (a.0, same_writes a.0 i a.1, a.2)

  same_locations : Locations k H → Locations k H'
  same_locations f i h = same_writes (loc_of k.located i) i (f i h)

module _ (P N : ℕ) (hP : 1 ≤ P) (k : Model) (v : Inv P N k []) where
  -- a place that is set
  pub with_set_inv : (x : ℕ) → Inv P N (with_set x k) []
  unfolding with_set reg_of
  with_set_inv x =
      record {
        past = v.past;
        core = v.core;
        later = v.later;
        known = v.known;
        reads = λ s q h i y. go s q i (v.reads s q h i y);
        located_ok = v.located_ok;
        stack_ok = λ r h. absurd (Memᴰ.not-nil h);
        pending_ok = v.pending_ok;
      }
    where
      go : (s q i : ℕ) → In i k.sets ⊎ ((l : Loc) × Writes k (hist k v.past) l i × Behind l.span l.pos s q)
          → In i (x ∷ k.sets) ⊎ ((l : Loc) × Writes k (hist k v.past) l i × Behind l.span l.pos s q)
      go s q i (inl a) = inl (Memᴰ.tail a)
      go s q i (inr a) = inr a

  -- an accepted set
  pub set_inv : (x : ℕ) → Inv P N (do_set P N x k) []
  unfolding do_set
  set_inv x = settle_inv P N (length k.adds) (off N (with_set x k)) (rest N (with_set x k)) hP (off_inv P N (with_set x k) [] (with_set_inv x) (off N (with_set x k)) (λ r h. inl h))

  -- one registration more, ready or not
  pub with_add_inv : (a : Reg) (st : List ℕ) → ((r : ℕ) → In r st → (r ≡ length k.adds) × ((i : ℕ) → In i a.ins → tracked k i ≡ true)) → Inv P N (with_add a k) st
  unfolding with_add tracked
  with_add_inv a st f =
      record {
        past = v.past;
        core = v.core;
        later = v.later;
        known = λ s q h. simp length-append (omega (arith, v.known s q h));
        reads = λ s q h i y. go s q i (v.reads s q h i (rw (reg_of_old a k _ (v.known s q h)) at y));
        located_ok = λ i h. grow_writes (loc_of k.located i) i (v.located_ok i h);
        stack_ok = λ r h. let o = f r h in (simp length-append (omega (arith, o.0)), λ i y. rw (with_tracked i) (o.1 i (rw (o.0, reg_of_new) at y)));
        pending_ok = λ w h. let o = v.pending_ok w h in (simp length-append (omega (arith, o.0)), rw (reg_of_old a k w.reg o.0) o.1);
      }
    where
      H : List (List Item)
      H = hist k v.past

      with_tracked : (i : ℕ) → tracked (with_add a k) i ≡ tracked k i
      with_tracked i = refl

      grow_writes : (l : Loc) (i : ℕ) → Writes k H l i → Writes (with_add a k) H l i
      grow_writes l i w = (w.0, rw (reg_of_old a k _ (v.known l.span l.pos w.0)) w.1)

      go : (s q i : ℕ) → In i k.sets ⊎ ((l : Loc) × Writes k H l i × Behind l.span l.pos s q)
          → In i k.sets ⊎ ((l : Loc) × Writes (with_add a k) H l i × Behind l.span l.pos s q)
      go s q i (inl y) = inl y
      go s q i (inr y) = inr (y.0, grow_writes y.0 i y.1, y.2)

  pub queued_inv : (a : Reg) → Inv P N (keep (queue (record { under = greatest a.ins; reg = length k.adds }) k.pending) (with_add a k)) []
  unfolding keep reg_of tracked with_add
  queued_inv a =
      record {
        past = o.past;
        core = o.core;
        later = o.later;
        known = o.known;
        reads = o.reads;
        located_ok = o.located_ok;
        stack_ok = λ r h. absurd (Memᴰ.not-nil h);
        pending_ok = λ w h. go w (queue_from x k.pending w h);
      }
    where
      x : Pending
      x = record { under = greatest a.ins; reg = length k.adds }

      o : Inv P N (with_add a k) []
      o = with_add_inv a [] (λ r h. absurd (Memᴰ.not-nil h))

      go : (w : Pending) → (w ≡ x) ⊎ Memᴰ w k.pending → (w.reg < length (with_add a k).adds) × (w.under ≡ greatest (reg_of (with_add a k) w.reg).ins)
      go w (inl e) = rw (e, reg_of_new a k) (simp length-append (omega arith), refl)
      go w (inr e) = o.pending_ok w e

  pub add_stack : (a : Reg) → ready (watermark N k) a.ins ≡ true → Inv P N (with_add a k) (length k.adds ∷ [])
  add_stack a e = with_add_inv a (length k.adds ∷ []) (λ r h. (Memᴰ.eq_of_singleton h, λ i y. watermark_tracked N i k (ready_below (watermark N k) a.ins e i y)))

  pub add_inv : (a : Reg) → Inv P N (do_add P N a k) []
  unfolding do_add
  add_inv a = go (bool_cases (ready (watermark N k) a.ins))
    where
      go : (ready (watermark N k) a.ins ≡ true) ⊎ (ready (watermark N k) a.ins ≡ false) → Inv P N (do_add P N a k) []
      go (inl e) =
          rw (e, do_add) (settle_inv P N (length k.adds) (length k.adds ∷ []) (with_add a k) hP (add_stack a e))
      go (inr e) = rw (e, do_add) (queued_inv a)

  flushed : Same (hist k v.past) ((v.past ++ take 32 k.guide.spans) ++ (flush_guide P k.guide).spans)
  unfolding flush_guide release
  flushed s = rw (regroup v.past k.guide.spans 32, get_extend)

  flush_later : Later P 1 (flush_guide P k.guide)
  unfolding flush_guide
  flush_later = release_later P 1 32 k.guide (omega arith) v.core.window_is (λ j h. v.later j (omega arith))

  -- a flush
  pub flush_inv : (f : ℕ) (c : Bool) → Inv P N (with_flush P f c k) []
  unfolding with_flush reg_of
  flush_inv f c =
      record {
        past = v.past ++ take 32 k.guide.spans;
        core = flush_core P k.guide v.past hP v.core (v.later 31 (omega arith));
        later = flush_later;
        known = same_known k _ _ flushed v.known;
        reads = same_reads k _ _ flushed v.reads;
        located_ok = same_locations k _ _ flushed v.located_ok;
        stack_ok = λ r h. absurd (Memᴰ.not-nil h);
        pending_ok = v.pending_ok;
      }

  -- every call
  pub call_inv : (c : Call) → Inv P N (apply_call P N c k) []
  unfolding apply_call note_add do_flush note_flush do_final note_final
  call_inv (set x) = set_inv x
  call_inv (add lane ins outs) = record_inv P N _ _ [] (add_inv _)
  call_inv flush = record_inv P N _ _ [] (flush_inv _ _)
  call_inv final = record_inv P N _ _ [] (record_inv P N _ _ [] (flush_inv _ _))

  pub step_inv : (W : ℕ) (c : Call) → Inv P N (step P N W c k) []
  unfolding step unless_refused
  step_inv W c = go (bool_cases (eqb (answer N W c k) 0))
    where
      go : (eqb (answer N W c k) 0 ≡ true) ⊎ (eqb (answer N W c k) 0 ≡ false) → Inv P N (step P N W c k) []
      go (inl e) = rw (e, unless_refused) (call_inv c)
      go (inr e) = rw (e, unless_refused) v

-- a fresh session has it
pub initial_inv : (P N : ℕ) → Inv P N initial []
unfolding initial fresh released marked
initial_inv P N =
    record {
      past = [];
      core = record { past_is = refl; window_is = refl; order_is = refl; capped = λ s. rw (len_empties 32 s) (omega arith) };
      later = λ i h. rw (len_empties 32 i) (omega arith);
      known = λ s q h. absurd (nothing s q h);
      reads = λ s q h. absurd (nothing s q h);
      located_ok = λ i h. absurd (false≢true h);
      stack_ok = λ r h. absurd (Memᴰ.not-nil h);
      pending_ok = λ w h. absurd (Memᴰ.not-nil h);
    }
  where
    nothing : (s q : ℕ) → q < len (replicate 32 []) s → ⊥
    nothing s q h = omega (arith, len_empties 32 s)

-- so it holds after every list of calls
pub run_inv : (P N W : ℕ) → 1 ≤ P → (cs : List Call) (k : Model) → Inv P N k [] → Inv P N (run P N W cs k) []
unfolding run
run_inv P N W hP [] k v = v
run_inv P N W hP (c ∷ cs) k v = run_inv P N W hP cs (step P N W c k) (step_inv P N hP k v W c)
