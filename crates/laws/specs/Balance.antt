-- Every accepted registration is written, held, pending or on the stack, once. For any weight of registrations the sum over the order,
-- the window, the pending ones and the stack is the sum over the accepted ones; each use picks its weight.
use Rattle.std.specs.Prelude.{◌≡◌, ◌⊎◌, true, false, replicate, ltb}
use Rattle.std.proofs.Math.Path.{refl, ap}
use mathlib.Core.List.{List, [], ◌∷◌, ◌++◌, append-nil}
use Rattle.std.proofs.Common.{inl, inr, length-append}
use Prim.Native.Nat.{ℕ, zero, suc, ◌+◌, ◌≤◌, ◌<◌}
use native.Mathlib.Omega.{arith}
use Rattle.std.proofs.Math.ListN.{length, take}
use Rattle.std.proofs.Math.Numerals.{add-one}
use Rattle.rules.specs.Guide.{Item, Entry, Guide, annotate, released, fresh, Placed, place, release, flush as flush_guide}
use Rattle.laws.specs.GuideInv.{Core, grow, flush_core, regroup}
use Rattle.laws.specs.Place.{Step, place_step}
use Rattle.rules.specs.Model.{with_record, Reg, Pending, Model, watermark, greatest, reg_of, after, place_one, keep, queue, push, due, left, off, rest, with_set, with_add, with_flush, initial}
use Rattle.laws.specs.ModelBase.{bool_cases}
use Rattle.laws.specs.ModelInv.{Inv}
use Rattle.laws.specs.Kept.{Kept}

module _ (φ : ℕ → ℕ) where
  -- the sums of a weight over a span, spans, the order, the pending ones, a stack, and the numbers below n
  unfoldable pub esum : List Item → ℕ
  esum [] = 0
  esum (e ∷ l) = φ e.added + esum l

  unfoldable pub hsum : List (List Item) → ℕ
  hsum [] = 0
  hsum (l ∷ H) = esum l + hsum H

  unfoldable pub wsum : List Entry → ℕ
  wsum [] = 0
  wsum (w ∷ l) = φ w.item.added + wsum l

  unfoldable pub qsum : List Pending → ℕ
  qsum [] = 0
  qsum (w ∷ l) = φ w.reg + qsum l

  unfoldable pub lsum : List ℕ → ℕ
  lsum [] = 0
  lsum (r ∷ l) = φ r + lsum l

  unfoldable pub below : ℕ → ℕ
  below zero = 0
  below (suc n) = below n + φ n

  annotate_sum : (f : ℕ → ℕ) (q : ℕ) (l : List Item) → wsum (annotate f q l) ≡ esum l
  unfolding annotate wsum esum
  annotate_sum f q [] = refl
  annotate_sum f q (e ∷ l) = omega (arith, annotate_sum f (suc q) l)

  wsum_append : (l m : List Entry) → wsum (l ++ m) ≡ wsum l + wsum m
  unfolding wsum
  wsum_append [] m = omega arith
  wsum_append (w ∷ l) m = omega (arith, wsum_append l m)

  esum_append : (l m : List Item) → esum (l ++ m) ≡ esum l + esum m
  unfolding esum
  esum_append [] m = omega arith
  esum_append (w ∷ l) m = omega (arith, esum_append l m)

  pub hsum_append : (H G : List (List Item)) → hsum (H ++ G) ≡ hsum H + hsum G
  unfolding hsum
  hsum_append [] G = omega arith
  hsum_append (l ∷ H) G = omega (arith, hsum_append H G)

  pub hsum_empties : (n : ℕ) → hsum (replicate n []) ≡ 0
  unfolding hsum esum
  hsum_empties zero = refl
  hsum_empties (suc n) = omega (arith, hsum_empties n)

  released_sum : (P : ℕ) (past ss : List (List Item)) → 1 ≤ length ss → wsum (released P (length past) (past ++ ss)) ≡ hsum past
  unfolding released hsum wsum
  released_sum P [] ss h = refl
  released_sum P (p ∷ []) [] h = absurd (omega arith)
  released_sum P (p ∷ []) (s ∷ ss) h = simp (append-nil, annotate_sum) (omega arith)
  released_sum P (p ∷ (p' ∷ past)) ss h = simp (wsum_append, annotate_sum) (omega (arith, released_sum P (p' ∷ past) ss h))

  -- order and window together weigh what the history weighs
  pub core_sum : (P : ℕ) (g : Guide) (past : List (List Item)) → Core P g past → wsum g.order + hsum g.spans ≡ hsum (past ++ g.spans)
  core_sum P g past c = rw c.order_is (omega (arith, released_sum P past g.spans (omega (arith, c.window_is)), hsum_append past g.spans))

  grow_sum : (H : List (List Item)) (s : ℕ) (e : Item) → s < length H → hsum (grow H s e) ≡ hsum H + φ e.added
  unfolding grow hsum esum
  grow_sum [] s e h = absurd (omega arith)
  grow_sum (l ∷ H) zero e h = omega (arith, esum_append l (e ∷ []))
  grow_sum (l ∷ H) (suc s) e h = omega (arith, grow_sum H s e (omega arith))

  -- a placing adds the weight of what is placed, a flush adds nothing
  pub step_sum : (P : ℕ) (g : Guide) (past : List (List Item)) (e : Item) (p : Placed) → Core P g past → Step P g past e p → wsum p.guide.order + hsum p.guide.spans
      ≡ wsum g.order + hsum g.spans + φ e.added
  step_sum P g past e p c s =
      omega (
        arith,
        core_sum P p.guide s.past' s.core,
        core_sum P g past c,
        ap hsum s.hist,
        grow_sum ((past ++ g.spans) ++ replicate s.fresh_spans []) p.loc.span e s.fits,
        hsum_append (past ++ g.spans) (replicate s.fresh_spans []),
        hsum_empties s.fresh_spans,
      )

  pub flush_sum : (P : ℕ) (g : Guide) (past : List (List Item)) → Core P g past → Core P (flush_guide P g) (past ++ take 32 g.spans)
      → wsum (flush_guide P g).order + hsum (flush_guide P g).spans ≡ wsum g.order + hsum g.spans
  unfolding flush_guide release
  flush_sum P g past c d =
      omega (
        arith,
        core_sum P (flush_guide P g) (past ++ take 32 g.spans) d,
        core_sum P g past c,
        ap hsum (regroup past g.spans 32),
        hsum_append (past ++ g.spans) (replicate 32 []),
        hsum_empties 32,
      )

  due_sum : (m : ℕ) (ws : List Pending) → lsum (due m ws) + qsum (left m ws) ≡ qsum ws
  unfolding due left lsum qsum
  due_sum m [] = refl
  due_sum m (w ∷ ws) = go (bool_cases (ltb w.under m)) (due_sum m ws)
    where
      go : (ltb w.under m ≡ true) ⊎ (ltb w.under m ≡ false) → lsum (due m ws) + qsum (left m ws) ≡ qsum ws → lsum (due m (w ∷ ws)) + qsum (left m (w ∷ ws)) ≡ φ w.reg + qsum ws
      go (inl e) f = rw (e, due, left) (omega arith)
      go (inr e) f = rw (e, due, left) (omega arith)

  pub off_sum : (N : ℕ) (k : Model) → lsum (off N k) + qsum (rest N k).pending ≡ qsum k.pending
  unfolding off rest keep
  off_sum N k = due_sum (watermark N k) k.pending

  pub push_sum : (rs st : List ℕ) → lsum (push rs st) ≡ lsum rs + lsum st
  unfolding push lsum
  push_sum [] st = omega arith
  push_sum (r ∷ rs) st = omega (arith, push_sum rs (r ∷ st))

  pub queue_sum : (w : Pending) (ws : List Pending) → qsum (queue w ws) ≡ φ w.reg + qsum ws
  unfolding queue qsum
  queue_sum w [] = refl
  queue_sum w (v ∷ ws) = go (bool_cases (ltb w.under v.under)) (queue_sum w ws)
    where
      go : (ltb w.under v.under ≡ true) ⊎ (ltb w.under v.under ≡ false) → qsum (queue w ws) ≡ φ w.reg + qsum ws → qsum (queue w (v ∷ ws)) ≡ φ w.reg + (φ v.reg + qsum ws)
      go (inl e) f = rw (e, queue) (omega arith)
      go (inr e) f = rw (e, queue) (omega arith)

  -- the balance
  unfoldable pub Balance : Model → List ℕ → Type 0
  Balance k st = wsum k.guide.order + hsum k.guide.spans + qsum k.pending + lsum st ≡ below (length k.adds)

  below_add : (l : List Reg) (a : Reg) → below (length (l ++ (a ∷ []))) ≡ below (length l) + φ (length l)
  unfolding below
  below_add l a = rw (length-append, add-one, below_suc)
    where
      below_suc : (n : ℕ) → below (suc n) ≡ below n + φ n
      below_suc n = refl

  pub balance_initial : Balance initial []
  unfolding Balance initial fresh wsum qsum lsum below
  balance_initial = omega (arith, hsum_empties 32)

  module _ (P N W : ℕ) (hP : 1 ≤ P) where
    balance_placing : (c r : ℕ) (st : List ℕ) (k : Model) → Inv P N k (r ∷ st) → Balance k (r ∷ st) → Balance (rest N (place_one P c r k)) (push (off N (place_one P c r k)) st)
    unfolding Balance rest keep place_one lsum
    balance_placing c r st k v b =
        let j = place_one P c r k in
        let e : Item = record { value = r; added = r; accepted = c; lane = (reg_of k r).lane } in
        let a = after k.located (reg_of k r).ins in
        let s = place_step P k.guide v.past e hP v.core v.later a in
        omega (arith, step_sum P k.guide v.past e (place P a e k.guide) v.core s, off_sum N j, push_sum (off N j) st, b)

    pub balance_kept : Kept P N W Balance
    unfolding Balance rest keep with_set with_add with_flush lsum qsum with_record
    balance_kept =
        record {
          placing = λ c r st k l v b. balance_placing c r st k v b;
          setting = λ x k v a b. omega (arith, off_sum N (with_set x k), b);
          adding = λ lane ins outs k v a e b. omega (arith, below_add k.adds (record { lane = lane; ins = ins; outs = outs }), b);
          delaying = λ lane ins outs k v a e b. omega (
            arith,
            below_add k.adds (record { lane = lane; ins = ins; outs = outs }),
            queue_sum (record { under = greatest ins; reg = length k.adds }) k.pending,
            b,
          );
          flushing = λ k v a b. omega (arith, flush_sum P k.guide v.past v.core (flush_core P k.guide v.past hP v.core (v.later 31 (omega arith))), b);
          closing = λ k v a b. omega (arith, flush_sum P k.guide v.past v.core (flush_core P k.guide v.past hP v.core (v.later 31 (omega arith))), b);
          recording = λ d k v n b. b;
        }
