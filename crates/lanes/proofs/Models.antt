-- Models and lanes: a call on a bare model has the number that it has on the model itself, and a bare call does there what the call does,
-- bare. Assumes nothing.
use Rattle.std.specs.Prelude.{List, [], ◌∷◌, map, Bool, true, false, ◌||◌, ◌⊎◌, ◌≡◌, refl, ℕ, zero, suc, ◌+◌, ◌≤◌, length, ltb, eqb}
use Rattle.std.proofs.lemmas.List.{map-append, length-map}
use Rattle.std.proofs.Common.{inl, inr, sym, ap, ◌∙◌, le-ltb}
use Rattle.std.proofs.Math.ListN.{get_or-map}
use Rattle.rules.specs.Limits.{most_lane}
use Rattle.rules.specs.Guide.{Item}
use Rattle.rules.specs.Model.{Reg, Pending, Model, member, tracked, watermark, ready, after, reg_of, place_one, due, left, keep, push, off}
use Rattle.rules.specs.Model.{rest, cascade, settle_all, with_set, do_set, with_add, do_add}
use Rattle.rules.specs.Model.{with_record, note_add, note_flush, note_final, with_flush, do_flush, do_final}
use Rattle.rules.specs.Checks.{any, written_by, taken, pooled, check_closed, check_set, check_add, check_flush, check_final}
use Rattle.rules.specs.Calls.{Call, set, add, flush, final, checks, answer, apply_call, unless_refused, step}
use Rattle.laws.specs.ModelBase.{bool_cases}
use Rattle.lanes.specs.Claims.{bare_item, bare_entry, bare_guide, bare_reg, bare, bare_call}
use Rattle.lanes.proofs.Guides.{place_bare, flush_bare}

-- ---- what a bare model has

pub count_bare : (k : Model) → length (bare k).adds ≡ length k.adds
unfolding bare
count_bare k = length-map k.adds bare_reg

order_bare : (k : Model) → length (bare k).guide.order ≡ length k.guide.order
unfolding bare bare_guide
order_bare k = length-map k.guide.order bare_entry

reg_bare : (k : Model) (r : ℕ) → reg_of (bare k) r ≡ bare_reg (reg_of k r)
unfolding reg_of bare bare_reg
reg_bare k r = get_or-map bare_reg k.adds r _

pub watermark_bare : (N : ℕ) (k : Model) → watermark N (bare k) ≡ watermark N k
unfolding watermark tracked bare
watermark_bare N k = refl

-- ---- what calls are made of

-- a registration's item by its parts: bare, only its lane is another
item_bare : (r c lane : ℕ) → record { value = r; added = r; accepted = c; lane = 0 } ≡ bare_item (record { value = r; added = r; accepted = c; lane = lane })
unfolding bare_item
item_bare r c lane = refl

place_one_bare : (P c r : ℕ) (k : Model) → place_one P c r (bare k) ≡ bare (place_one P c r k)
unfolding place_one bare bare_reg
place_one_bare P c r k =
    let e : Item = record { value = r; added = r; accepted = c; lane = (reg_of k r).lane } in
    let s = place_bare P (after k.located (reg_of k r).ins) e k.guide in
    rw (reg_bare k r, item_bare r c (reg_of k r).lane, s.guide_is, s.loc_is)

off_bare : (N : ℕ) (k : Model) → off N (bare k) ≡ off N k
unfolding off bare
off_bare N k = ap (λ (m : ℕ). due m k.pending) (watermark_bare N k)

rest_bare : (N : ℕ) (k : Model) → rest N (bare k) ≡ bare (rest N k)
unfolding rest keep bare
rest_bare N k = ap (λ (m : ℕ). keep (left m k.pending) (bare k)) (watermark_bare N k)

cascade_bare : (P N c f : ℕ) (st : List ℕ) (k : Model) → cascade P N c f st (bare k) ≡ bare (cascade P N c f st k)
unfolding cascade
cascade_bare P N c zero st k = refl
cascade_bare P N c (suc f) [] k = refl
cascade_bare P N c (suc f) (r ∷ st) k =
    let j : Model = place_one P c r k in
    rw (place_one_bare P c r k, off_bare N j, rest_bare N j) (cascade_bare P N c f (push (off N j) st) (rest N j))

settle_all_bare : (P N c : ℕ) (st : List ℕ) (k : Model) → settle_all P N c st (bare k) ≡ bare (settle_all P N c st k)
unfolding settle_all bare
settle_all_bare P N c st k = cascade_bare P N c (length st + length k.pending) st k

with_set_bare : (x : ℕ) (k : Model) → with_set x (bare k) ≡ bare (with_set x k)
unfolding with_set bare
with_set_bare x k = refl

do_set_bare : (P N x : ℕ) (k : Model) → do_set P N x (bare k) ≡ bare (do_set P N x k)
unfolding do_set
do_set_bare P N x k =
    let j : Model = with_set x k in
    rw (count_bare k, with_set_bare x k, off_bare N j, rest_bare N j) (settle_all_bare P N (length k.adds) (off N j) (rest N j))

with_add_bare : (a : Reg) (k : Model) → with_add (bare_reg a) (bare k) ≡ bare (with_add a k)
unfolding with_add bare
with_add_bare a k = rw (map-append bare_reg k.adds (a ∷ []))

keep_bare : (ws : List Pending) (k : Model) → keep ws (bare k) ≡ bare (keep ws k)
unfolding keep bare
keep_bare ws k = refl

do_add_bare : (P N : ℕ) (a : Reg) (k : Model) → do_add P N (bare_reg a) (bare k) ≡ bare (do_add P N a k)
unfolding do_add bare_reg bare
do_add_bare P N a k = go (bool_cases (ready (watermark N k) a.ins))
  where
    go : (ready (watermark N k) a.ins ≡ true) ⊎ (ready (watermark N k) a.ins ≡ false) → do_add P N (bare_reg a) (bare k) ≡ bare (do_add P N a k)
    go (inl e) =
        rw (do_add, watermark_bare N k, e, count_bare k, with_add_bare a k) (settle_all_bare P N (length k.adds) (length k.adds ∷ []) (with_add a k))
    go (inr e) = rw (do_add, watermark_bare N k, e, count_bare k, with_add_bare a k) (keep_bare _ (with_add a k))

note_add_bare : (k : Model) → note_add (bare k) ≡ bare (note_add k)
unfolding note_add with_record bare
note_add_bare k = rw (order_bare k)

note_flush_bare : (k : Model) → note_flush (bare k) ≡ bare (note_flush k)
unfolding note_flush with_record bare
note_flush_bare k = rw (order_bare k)

note_final_bare : (N : ℕ) (k : Model) → note_final N (bare k) ≡ bare (note_final N k)
unfolding note_final with_record bare
note_final_bare N k = rw (watermark_bare N k)

with_flush_bare : (P f : ℕ) (c : Bool) (k : Model) → with_flush P f c (bare k) ≡ bare (with_flush P f c k)
unfolding with_flush bare
with_flush_bare P f c k = rw (flush_bare P k.guide)

call_bare : (P N : ℕ) (c : Call) (k : Model) → apply_call P N (bare_call c) (bare k) ≡ bare (apply_call P N c k)
unfolding apply_call bare_call do_flush do_final bare_reg bare
call_bare P N (set x) k = do_set_bare P N x k
call_bare P N (add lane ins outs) k =
    let a : Reg = record { lane = lane; ins = ins; outs = outs } in
    ap note_add (do_add_bare P N a k) ∙ note_add_bare (do_add P N a k)
call_bare P N flush k = let j : Model = with_flush P (suc k.flushes) k.closed k in ap note_flush (with_flush_bare P (suc k.flushes) k.closed k) ∙ note_flush_bare j
call_bare P N final k =
    let j : Model = with_flush P k.flushes true k in
    ap (λ (i : Model). note_final N (note_flush i)) (with_flush_bare P k.flushes true k)
    ∙ (ap (note_final N) (note_flush_bare j) ∙ note_final_bare N (note_flush j))

-- ---- checks: they look at no lane but the call's own

written_bare : (x : ℕ) (l : List Reg) → written_by x (map bare_reg l) ≡ written_by x l
unfolding written_by bare_reg
written_bare x [] = refl
written_bare x (a ∷ l) = ap (λ (b : Bool). member x a.outs || b) (written_bare x l)

taken_bare : (k : Model) (x : ℕ) → taken (bare k) x ≡ taken k x
unfolding taken bare
taken_bare k x = ap (λ (b : Bool). member x k.sets || b) (written_bare x k.adds)

any_bare : (k : Model) (l : List ℕ) → any (taken (bare k)) l ≡ any (taken k) l
unfolding any
any_bare k [] = refl
any_bare k (x ∷ l) = rw (taken_bare k x, any_bare k l)

pooled_bare : (l : List Reg) → pooled (map bare_reg l) ≡ pooled l
unfolding pooled bare_reg
pooled_bare [] = refl
pooled_bare (a ∷ l) = ap (λ (n : ℕ). length a.ins + length a.outs + n) (pooled_bare l)

pool_bare : (k : Model) → pooled (bare k).adds ≡ pooled k.adds
unfolding bare
pool_bare k = pooled_bare k.adds

closed_bare : (k : Model) → check_closed (bare k) ≡ check_closed k
unfolding check_closed bare
closed_bare k = refl

flush_checks : (k : Model) → check_flush (bare k) ≡ check_flush k
unfolding check_flush check_closed bare
flush_checks k = refl

final_checks : (k : Model) → check_final (bare k) ≡ check_final k
unfolding check_final check_closed bare
final_checks k = refl

pub answer_bare : (N W : ℕ) (c : Call) (k : Model) → answer N W c (bare k) ≡ answer N W c k
unfolding answer checks check_set check_add
answer_bare N W (set x) k = rw (closed_bare k, taken_bare k x)
answer_bare N W (add lane ins outs) k = rw (closed_bare k, any_bare k outs, count_bare k, pool_bare k)
answer_bare N W flush k = rw (flush_checks k)
answer_bare N W final k = rw (final_checks k)

-- ---- a call

module _ (P N W : ℕ) (c : Call) (k : Model) where
  -- the model after it, bare, by its number and what it does when accepted
  step_is : bare (step P N W c k) ≡ unless_refused (answer N W c k) (bare k) (apply_call P N (bare_call c) (bare k))
  unfolding step unless_refused
  step_is = rw (call_bare P N c k) (go (bool_cases (eqb (answer N W c k) 0)))
    where
      go : (eqb (answer N W c k) 0 ≡ true) ⊎ (eqb (answer N W c k) 0 ≡ false)
          → bare (step P N W c k) ≡ unless_refused (answer N W c k) (bare k) (bare (apply_call P N c k))
      go (inl e) = rw (unless_refused, e)
      go (inr e) = rw (unless_refused, e)

  pub step_bare : answer N W (bare_call c) (bare k) ≡ answer N W c k → step P N W (bare_call c) (bare k) ≡ bare (step P N W c k)
  unfolding step
  step_bare e = rw (step_is, e)

-- check 18 does not tell these lanes apart
abbrev pub SameLane : ℕ → ℕ → Type 0
SameLane x y = ltb most_lane x ≡ ltb most_lane y

pub low_lanes : (x y : ℕ) → x ≤ most_lane → y ≤ most_lane → SameLane x y
low_lanes x y h i = le-ltb most_lane x h ∙ sym (le-ltb most_lane y i)

-- two calls that differ at most in such lanes
pub data SameCall : Call → Call → Type 0 where
  equal : {c : Call} → SameCall c c
  lanes : {x y : ℕ} {ins outs : List ℕ} → SameLane x y → SameCall (add x ins outs) (add y ins outs)

calls_bare : {c d : Call} → SameCall c d → bare_call c ≡ bare_call d
unfolding bare_call
calls_bare equal = refl
calls_bare (lanes e) = refl

pub answer_alike : (N W : ℕ) {c d : Call} → SameCall c d → (k : Model) → answer N W c k ≡ answer N W d k
unfolding answer checks check_add
answer_alike N W equal k = refl
answer_alike N W (lanes e) k = rw e

-- on two models that are the same but for lanes
module _ (P N W : ℕ) {c d : Call} (s : SameCall c d) (k j : Model) (h : bare k ≡ bare j) where
  pub answer_same : answer N W c k ≡ answer N W d j
  answer_same = sym (answer_bare N W c k) ∙ (ap (answer N W c) h ∙ (answer_bare N W c j ∙ answer_alike N W s j))

  pub step_same : bare (step P N W c k) ≡ bare (step P N W d j)
  step_same = step_is P N W c k ∙ (rw (answer_same, h, calls_bare s) (sym (step_is P N W d j)))
