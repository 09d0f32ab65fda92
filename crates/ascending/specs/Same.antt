-- What the profile accepts, every session accepts, and then both do the same. Where nothing waits, an accepted set marks its place alone and
-- an accepted add is placed within its own call, alone too. The idea: 21 is one check more, so that who passes passes in every session; and
-- check 21 puts all inputs below the watermark, so that the registration is ready. Assumes nothing.
use Rattle.std.specs.Prelude.{◌≡◌, refl, List, [], ◌∷◌, ◌⊎◌, ◌≢◌, true, false, not, ℕ, suc, ◌<◌, length, leb, eqb}
use Rattle.std.proofs.Common.{ap, inl, inr, arith, eqb-true, lt-ltb, leb-false}
use mathlib.Core.List.Memᴰ
use Rattle.std.proofs.Math.Bool.{and-eq-true_iff}
use Rattle.std.proofs.lemmas.Bool.{not-false}
use Rattle.rules.specs.Model.{Model, watermark, greatest, ready, place_one, due, left, keep, push, off, rest, cascade, settle_all, with_set, do_set, with_add, do_add}
use Rattle.rules.specs.Model.{with_flush, with_record, note_add, note_flush, note_final, do_flush, do_final}
use Rattle.rules.specs.Checks.{Check, verdict, any, check_closed, check_places}
use Rattle.rules.specs.Checks as ordinary_checks
use Rattle.rules.specs.Calls.{Call, set, add, flush, final, apply_call}
use Rattle.rules.specs.Calls as ordinary
use Rattle.rules.specs.Ascending.{lowest, ascend, first_or, add_breach, check_set, check_add, checks, answer, step, run}
use Rattle.laws.specs.GuideInv.{eq_or_ne}
use Rattle.laws.specs.ModelBase.{In}
use Rattle.laws.specs.Accepted.{verdict_head, accepted_is, refused_is, any_false, or_false}
use Rattle.laws.specs.Limits.{AllBelow}
use Rattle.laws.specs.Placeable.{greatest_below}
use Rattle.ascending.specs.Claims.{places_from}

-- ---- what is accepted

passes : (c : Check) (cs : List Check) → c.fails ≡ false → verdict cs ≡ 0 → verdict (c ∷ cs) ≡ 0
unfolding verdict
passes c cs e h = rw (e, verdict) h

-- every session accepts it: of a set's checks the fourth, of an add's the seventh is 21
pub accepted_by_all : (N W : ℕ) (c : Call) (k : Model) → answer N W c k ≡ 0 → ordinary.answer N W c k ≡ 0
unfolding answer checks check_set check_add ordinary.answer ordinary.checks ordinary_checks.check_set ordinary_checks.check_add check_closed check_places
accepted_by_all N W (set x) k h =
    let a = verdict_head _ _ h (omega arith) in
    let b = verdict_head _ _ a.1 (omega arith) in
    let c = verdict_head _ _ b.1 (omega arith) in
    let d = verdict_head _ _ c.1 (omega arith) in
    passes _ _ a.0 (passes _ _ b.0 (passes _ _ c.0 d.1))
accepted_by_all N W (add lane ins outs) k h =
    let a = verdict_head _ _ h (omega arith) in
    let l = verdict_head _ _ a.1 (omega arith) in
    let b = verdict_head _ _ l.1 (omega arith) in
    let c = verdict_head _ _ b.1 (omega arith) in
    let d = verdict_head _ _ c.1 (omega arith) in
    let e = verdict_head _ _ d.1 (omega arith) in
    let f = verdict_head _ _ e.1 (omega arith) in
    passes _ _ a.0 (passes _ _ l.0 (passes _ _ b.0 (passes _ _ c.0 (passes _ _ d.0 (passes _ _ e.0 f.1)))))
accepted_by_all N W flush k h = h
accepted_by_all N W final k h = h

-- what a call leaves, refused and accepted
pub step_refused : (P N W : ℕ) (c : Call) (k : Model) → (answer N W c k ≡ 0 → ⊥) → step P N W c k ≡ k
unfolding step
step_refused P N W c k h = refused_is (answer N W c k) k (apply_call P N c k) h

pub step_accepted : (P N W : ℕ) (c : Call) (k : Model) → answer N W c k ≡ 0 → step P N W c k ≡ apply_call P N c k
unfolding step
step_accepted P N W c k h = accepted_is (answer N W c k) k (apply_call P N c k) h

pub ordinary_step : (P N W : ℕ) (c : Call) (k : Model) → answer N W c k ≡ 0 → ordinary.step P N W c k ≡ apply_call P N c k
unfolding ordinary.step
ordinary_step P N W c k h = accepted_is (ordinary.answer N W c k) k (apply_call P N c k) (accepted_by_all N W c k h)

-- what an accepted call keeps, every call keeps
pub step_keeps : (P N W : ℕ) (c : Call) (k : Model) (Q : Model → Type 0) → (answer N W c k ≡ 0 → Q (apply_call P N c k)) → Q k → Q (step P N W c k)
step_keeps P N W c k Q f q = go (eq_or_ne (answer N W c k) 0)
  where
    go : (answer N W c k ≡ 0) ⊎ (answer N W c k ≢ 0) → Q (step P N W c k)
    go (inl h) = rw (step_accepted P N W c k h) (f h)
    go (inr h) = rw (step_refused P N W c k h) q

-- what every call keeps, a list of calls keeps
pub run_keeps : (P N W : ℕ) (Q : Model → Type 0) → ((c : Call) (k : Model) → Q k → Q (step P N W c k)) → (cs : List Call) (k : Model) → Q k → Q (run P N W cs k)
unfolding run
run_keeps P N W Q f [] k q = q
run_keeps P N W Q f (c ∷ cs) k q = run_keeps P N W Q f cs (step P N W c k) (f c k q)

-- ---- nothing is set off

pub set_alone : (P N x : ℕ) (k : Model) → k.pending ≡ [] → do_set P N x k ≡ with_set x k
unfolding do_set settle_all cascade off rest keep with_set due left
set_alone P N x k e = rw (e, due, left)

-- a registration placed where nothing waits
place_alone : (P N c r : ℕ) (k : Model) → k.pending ≡ [] → settle_all P N c (r ∷ []) k ≡ place_one P c r k
unfolding settle_all cascade place_one off rest keep push due left
place_alone P N c r k e = rw (e, due, left)

-- ---- what an add has passed

-- places that ascend from m on
pub ascend_outs : (m : ℕ) (xs : List ℕ) → ascend m xs ≡ true → xs ≡ places_from m (length xs)
unfolding ascend places_from
ascend_outs m [] e = refl
ascend_outs m (x ∷ xs) e =
    let b = (and-eq-true_iff (eqb x m) (ascend (suc m) xs)).0 e in
    rw (eqb-true x m b.0) (ap (λ (l : List ℕ). m ∷ l) (ascend_outs (suc m) xs b.1))

ascend_first : (m : ℕ) (xs : List ℕ) → ascend m xs ≡ true → first_or m xs ≡ m
unfolding ascend first_or
ascend_first m [] e = refl
ascend_first m (x ∷ xs) e = eqb-true x m ((and-eq-true_iff (eqb x m) (ascend (suc m) xs)).0 e).0

-- no breach by an add
pub no_breach : (m : ℕ) (ins outs : List ℕ) → add_breach m ins outs ≡ false → (ascend m outs ≡ true) × (any (λ i. leb (first_or m outs) i) ins ≡ false)
unfolding add_breach
no_breach m ins outs e =
    let p = or_false (not (ascend m outs)) (any (λ i. leb (first_or m outs) i) ins) e in
    (not-false (ascend m outs) p.0, p.1)

-- its outputs are the lowest places, and its inputs lie below them
pub record AddPassed (N W lane : ℕ) (ins outs : List ℕ) (k : Model) : Type 0 where
  pub outs_are : outs ≡ places_from (lowest N k) (length outs)
  pub ins_below : (i : ℕ) → In i ins → i < lowest N k

pub add_passed : (N W lane : ℕ) (ins outs : List ℕ) (k : Model) → answer N W (add lane ins outs) k ≡ 0 → AddPassed N W lane ins outs k
unfolding answer checks check_add check_closed check_places
add_passed N W lane ins outs k h =
    let a = verdict_head _ _ h (omega arith) in
    let l = verdict_head _ _ a.1 (omega arith) in
    let b = verdict_head _ _ l.1 (omega arith) in
    let c = verdict_head _ _ b.1 (omega arith) in
    let d = verdict_head _ _ c.1 (omega arith) in
    let e = verdict_head _ _ d.1 (omega arith) in
    let f = verdict_head _ _ e.1 (omega arith) in
    let m = lowest N k in
    let p = no_breach m ins outs f.0 in
    record {
      outs_are = ascend_outs m outs p.0;
      ins_below = λ i y. rw (ascend_first m outs p.0) at (leb-false (first_or m outs) i (any_false (λ x. leb (first_or m outs) x) ins i p.1 y));
    }

below_ready : (m : ℕ) (l : List ℕ) → AllBelow m l → ready m l ≡ true
unfolding ready
below_ready m [] b = refl
below_ready m (x ∷ l) b = lt-ltb (greatest (x ∷ l)) m (greatest_below m (x ∷ l) (omega (arith, b x (Memᴰ.head refl))) b)

-- so it is ready
pub all_ready : (N W lane : ℕ) (ins outs : List ℕ) (k : Model) → answer N W (add lane ins outs) k ≡ 0 → ready (watermark N k) ins ≡ true
all_ready N W lane ins outs k h = below_ready (watermark N k) ins (add_passed N W lane ins outs k h).ins_below

pub placed_alone : (P N W lane : ℕ) (ins outs : List ℕ) (k : Model) → k.pending ≡ [] → answer N W (add lane ins outs) k ≡ 0
    → do_add P N (record { lane = lane; ins = ins; outs = outs }) k
    ≡ place_one P (length k.adds) (length k.adds) (with_add (record { lane = lane; ins = ins; outs = outs }) k)
unfolding do_add with_add
placed_alone P N W lane ins outs k e h =
    let n = length k.adds in
    rw (all_ready N W lane ins outs k h, do_add) (place_alone P N n n (with_add (record { lane = lane; ins = ins; outs = outs }) k) e)

-- an accepted call leaves nothing waiting
pub none_after : (P N W : ℕ) (c : Call) (k : Model) → k.pending ≡ [] → answer N W c k ≡ 0 → (apply_call P N c k).pending ≡ []
unfolding apply_call note_add do_flush note_flush do_final note_final with_record with_flush place_one with_add with_set
none_after P N W (set x) k e h = rw (set_alone P N x k e) e
none_after P N W (add lane ins outs) k e h = rw (placed_alone P N W lane ins outs k e h) e
none_after P N W flush k e h = e
none_after P N W final k e h = e
