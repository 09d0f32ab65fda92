-- The proof of the claims (Claims): `reached` of what the code goes by, `ascends` of all of it. Assumes nothing.
use Rattle.std.specs.Prelude.{◌≡◌, List, ◌∷◌, ◌++◌, ◌↔◌, true, ℕ, ◌+◌, ◌≤◌, ◌<◌, length}
use Rattle.std.proofs.Math.Path.{refl}
use Rattle.std.proofs.Common.{sym, ap, ◌∙◌}
use Rattle.std.proofs.lemmas.Bool.{false≢true}
use Rattle.rules.specs.Guide.{Entry}
use Rattle.rules.specs.Model.{Model, initial, tracked, member, watermark, with_flush, with_record, note_add, note_flush, note_final, do_flush, do_final}
use Rattle.rules.specs.Checks.{written_by, taken}
use Rattle.rules.specs.Calls.{Call, set, add, flush, final, apply_call}
use Rattle.rules.specs.Ascending.{lowest, answer, step, run, accepted}
use Rattle.laws.specs.ModelBase.{watermark_tracked}
use Rattle.laws.specs.Entries.{Throughout}
use Rattle.laws.specs.Sound.{between_initial, between_step}
use Rattle.laws.specs.Demand.{Demand}
use Rattle.laws.specs.DemandProof.{demand_3}
use Rattle.ascending.specs.Claims.{Packed, AtOnce, FinalAccepted, Ascends, Reached}
use Rattle.ascending.specs.Same.{accepted_by_all, step_refused, step_accepted, ordinary_step, step_keeps, run_keeps, set_alone, placed_alone, none_after}
use Rattle.ascending.specs.Lists.{same_as, accepted_first, accepted_append, accepted_split}
use Rattle.ascending.specs.Lowest.{tracked_taken, lowest_set, packed_set, lowest_add, packed_add}
use Rattle.ascending.specs.Never.{never_taken, never_still_waiting}
use Rattle.ascending.specs.Once.{at_once}

-- ---- what the code goes by

pub reached_initial : (P N W : ℕ) → 1 ≤ P → Reached P N W initial
unfolding initial taken member written_by
reached_initial P N W hP = record { between = between_initial P N W hP; none_waits = refl; packed = λ x e. absurd (false≢true e) }

-- an accepted call leaves every taken place below the lowest
packed_after : (P N W : ℕ) (c : Call) (k : Model) → Reached P N W k → answer N W c k ≡ 0 → Packed N (apply_call P N c k)
unfolding apply_call note_add do_flush note_flush do_final note_final with_record with_flush taken tracked watermark
packed_after P N W (set x) k r h = rw (set_alone P N x k r.none_waits) (packed_set N W x k r h)
packed_after P N W (add lane ins outs) k r h = rw (placed_alone P N W lane ins outs k r.none_waits h) (packed_add P N W lane ins outs k r h)
packed_after P N W flush k r h = r.packed
packed_after P N W final k r h = r.packed

pub reached_step : (P N W : ℕ) → 1 ≤ P → (c : Call) (k : Model) → Reached P N W k → Reached P N W (step P N W c k)
reached_step P N W hP c k r =
    step_keeps P N W c k (Reached P N W)
    (λ h.
    record {
      between = rw (← ordinary_step P N W c k h) (between_step P N W hP c k r.between);
      none_waits = none_after P N W c k r.none_waits h;
      packed = packed_after P N W c k r h;
    })
    r

pub reached : (P N W : ℕ) → 1 ≤ P → (cs : List Call) → Reached P N W (run P N W cs initial)
reached P N W hP cs = run_keeps P N W (Reached P N W) (reached_step P N W hP) cs initial (reached_initial P N W hP)

-- ---- the claims, first those that follow from the ordinary session's

module _ (P N W : ℕ) (hP : 1 ≤ P) (calls : List Call) where
  abbrev k : Model
  k = run P N W calls initial

  abbrev made : List Call
  made = accepted P N W calls initial

  all_of : Demand P N W made k
  all_of = rw (same_as P N W calls initial).model (demand_3 P N W hP made)

  -- where the calls are cut, the accepted ones are
  order_stays : (before later : List Call) → before ++ later ≡ calls → (more : List Entry) × (k.guide.order ≡ (run P N W before initial).guide.order ++ more)
  order_stays before later e =
      let cut = sym (accepted_append P N W before later initial) ∙ ap (λ (cs : List Call). accepted P N W cs initial) e in
      let s = all_of.stays (accepted P N W before initial) (accepted P N W later (run P N W before initial)) cut in
      (s.0, s.1 ∙ ap (λ (j : Model). j.guide.order ++ s.0) (sym (same_as P N W before initial).model))

  -- an accepted final stands among the accepted calls, and an accepted call among the calls
  closed_by_final : FinalAccepted P N W calls → k.closed ≡ true
  closed_by_final x =
      let before = x.0 in
      let j = run P N W before initial in
      let later = accepted P N W x.1 (step P N W final j) in
      let cut : accepted P N W before initial ++ (final ∷ later) ≡ made =
      ap (λ (l : List Call). accepted P N W before initial ++ l) (sym (accepted_first P N W final x.1 j x.3))
      ∙ sym (accepted_append P N W before (final ∷ x.1) initial) ∙ ap (λ (cs : List Call). accepted P N W cs initial) x.2 in
      all_of.closes.0 (accepted P N W before initial, later, cut, rw (← (same_as P N W before initial).model) (accepted_by_all N W final j x.3))

  final_of_closed : k.closed ≡ true → FinalAccepted P N W calls
  final_of_closed e = let x = all_of.closes.1 e in accepted_split P N W final x.0 x.1 calls initial x.2

-- and those about the lowest place
module _ (P N W : ℕ) (k : Model) (r : Reached P N W k) where
  below_lowest : (x : ℕ) → (tracked k x ≡ true) ↔ (x < lowest N k)
  below_lowest x = (λ e. r.packed x (tracked_taken k r.between.sound x e), λ h. watermark_tracked N x k h)

  taken_lowest : (x : ℕ) → (taken k x ≡ true) ↔ (x < lowest N k)
  taken_lowest x = (r.packed x, λ h. tracked_taken k r.between.sound x (watermark_tracked N x k h))

  set_moves : (x : ℕ) → answer N W (set x) k ≡ 0 → lowest N (step P N W (set x) k) ≡ lowest N k + 1
  unfolding apply_call
  set_moves x h = rw (step_accepted P N W (set x) k h, set_alone P N x k r.none_waits) (lowest_set N W x k r h)

  add_moves : (lane : ℕ) (ins outs : List ℕ) → answer N W (add lane ins outs) k ≡ 0 → lowest N (step P N W (add lane ins outs) k) ≡ lowest N k + length outs
  unfolding apply_call note_add with_record tracked watermark
  add_moves lane ins outs h = rw (step_accepted P N W (add lane ins outs) k h, placed_alone P N W lane ins outs k r.none_waits h) (lowest_add P N W lane ins outs k r h)

  others_stay : (lowest N (step P N W flush k) ≡ lowest N k) × (lowest N (step P N W final k) ≡ lowest N k)
  unfolding apply_call do_flush note_flush do_final note_final with_record with_flush tracked watermark
  others_stay =
      (step_keeps P N W flush k (λ j. lowest N j ≡ lowest N k) (λ h. refl) refl, step_keeps P N W final k (λ j. lowest N j ≡ lowest N k) (λ h. refl) refl)

pub ascends : (P N W : ℕ) → 1 ≤ P → (calls : List Call) → Ascends P N W calls (run P N W calls initial)
ascends P N W hP calls =
    record {
      accepts = λ c. accepted_by_all N W c k;
      same = (same_as P N W calls initial).model;
      all_accepted = (same_as P N W calls initial).numbers;
      none_waits = r.none_waits;
      set_alone = λ x h. set_alone P N x k r.none_waits;
      placed_alone = λ lane ins outs h. placed_alone P N W lane ins outs k r.none_waits h;
      at_once = (once.in_order, once.in_spans);
      never_taken = never_taken N W k r.packed;
      never_still_waiting = never_still_waiting N W k r.none_waits;
      below = below_lowest P N W k r;
      taken_below = taken_lowest P N W k r;
      set_moves = set_moves P N W k r;
      add_moves = add_moves P N W k r;
      others_stay = others_stay P N W k r;
      demand = all_of P N W hP calls;
      stays = order_stays P N W hP calls;
      unchanged = λ c. step_refused P N W c k;
      closes = (closed_by_final P N W hP calls, final_of_closed P N W hP calls);
    }
  where
    k : Model
    k = run P N W calls initial

    r : Reached P N W k
    r = reached P N W hP calls

    once : Throughout AtOnce k.guide
    once = at_once P N W calls
