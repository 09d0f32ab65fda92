-- Demand 3 holds of the model after every list of calls. The idea: an index of the order is a position of a released span; a reader
-- was placed behind its writer's location, so that the parallelism rules keep it a writer's parallelism away; the balance of weights
-- says that each registration has one location.
use Rattle.std.specs.Prelude.{◌≡◌, ◌⊎◌, ◌≢◌, ◌↔◌, true, false, ℕ, suc, ◌+◌, ◌≤◌, ◌<◌, get_or, eqb}
use Rattle.std.proofs.Math.Path.{refl, ap}
use Rattle.std.proofs.Common.{sym, ◌∙◌, inl, inr, zero-add, arith, eqb-true}
use mathlib.Core.List.{List, [], ◌∷◌, map}
use Rattle.std.proofs.lemmas.Bool.{false≢true}
use Rattle.std.proofs.Math.ListN.{length}
use Rattle.rules.specs.Limits.{most_lane}
use Rattle.rules.specs.Guide.{Loc, Item, Entry, held}
use Rattle.rules.specs.Model.{Pending, Model, watermark, ready, reg_of, initial}
use Rattle.rules.specs.Record.{unfilled, fill, row_of}
use Rattle.rules.specs.Calls.{Call, answer, step, unless_refused, run}
use Rattle.laws.specs.History.{len, start, start_suc, start_mono}
use Rattle.laws.specs.Together.{Behind, frontier, distance}
use Rattle.laws.specs.ModelBase.{In, bool_cases, entry_at}
use Rattle.laws.specs.ModelInv.{Inv, hist, Writes}
use Rattle.laws.specs.Balance.{esum, hsum, wsum, qsum, lsum, below, Balance, core_sum}
use Rattle.laws.specs.Once.{one_place, wsum_one, qsum_one, hsum_one, below_all, below_one, one_of}
use Rattle.laws.specs.Delaying.{IsPending}
use Rattle.laws.specs.Closed.{stays, final_closes, closed_by}
use Rattle.laws.specs.Order.{nth, written, wd, At, order_here, order_at, bounds}
use Rattle.laws.specs.Entries.{OfSession, LaneKept, order_entry}
use Rattle.laws.specs.Tally.{tally_sum, tally_each}
use Rattle.laws.specs.Sound.{Sound, sound}
use Rattle.laws.specs.Rows.{count_cons, row_once}
use Rattle.laws.specs.Demand.{reads, writes, Covered, count, times, held_times, pending_times, FinalAccepted, Demand}

-- counting a registration is summing its weight
times_sum : (r : ℕ) (l : List Entry) → times r l ≡ wsum (one_of r) l
unfolding count wsum
times_sum r [] = refl
times_sum r (e ∷ l) = omega (arith, count_cons r e.item.added (map (λ x. x.item.added) l), times_sum r l)

span_sum : (r : ℕ) (l : List Item) → count r (map (λ x. x.added) l) ≡ esum (one_of r) l
unfolding count esum
span_sum r [] = refl
span_sum r (e ∷ l) = omega (arith, count_cons r e.added (map (λ x. x.added) l), span_sum r l)

held_sum : (r : ℕ) (H : List (List Item)) → held_times r H ≡ hsum (one_of r) H
unfolding hsum
held_sum r [] = refl
held_sum r (l ∷ H) = omega (arith, span_sum r l, held_sum r H)

pending_sum : (r : ℕ) (l : List Pending) → pending_times r l ≡ qsum (one_of r) l
unfolding count qsum
pending_sum r [] = refl
pending_sum r (w ∷ l) = omega (arith, count_cons r w.reg (map (λ x. x.reg) l), pending_sum r l)

behind_before : (H : List (List Item)) (s q t r : ℕ) → q < len H s → r < len H t → Behind s q t r → start H s + q < start H t + r
behind_before H s q t r h i (inl b) = omega (arith, start_suc H s, start_mono H (suc s) t (omega arith))
behind_before H s q t r h i (inr b) = omega (arith, start_suc H s, start_mono H (suc s) t (omega arith))

behind_span : (s q t r : ℕ) → Behind s q t r → s < t
behind_span s q t r (inl b) = omega arith
behind_span s q t r (inr b) = omega arith

module _ (P N W : ℕ) (hP : 1 ≤ P) (k : Model) (o : Sound P N W k []) where
  abbrev v : Inv P N k []
  v = o.inv

  abbrev H : List (List Item)
  H = hist k v.past

  at : (j : ℕ) → j < written k → At P hP k.guide v.past v.core j
  at j h = order_at P hP k.guide v.past v.core j h

  never_falls : (i j : ℕ) → i ≤ j → j < written k → i + (nth k i).parallelism ≤ j + (nth k j).parallelism
  unfolding wd
  never_falls i j h g =
      let x = at i (omega arith) in
      let y = at j g in
      omega (arith, x.index, y.index, x.width_is, y.width_is, frontier P H hP v.core.capped x.s x.q y.s y.q x.within y.within (omega (arith, x.index, y.index)))

  -- the location of the one that writes what entry j reads
  source : (j i : ℕ) (h : j < written k) → reads k j i → In i k.sets ⊎ ((l : Loc) × Writes k H l i × Behind l.span l.pos (at j h).s (at j h).q)
  unfolding at
  source j i h y = let a = at j h in v.reads a.s a.q a.within i (rw a.entry_is at y)

  before : (j i : ℕ) → j < written k → reads k j i → In i k.sets ⊎ ((m : ℕ) × (m < j) × writes k m i)
  before j i h y = go (source j i h y)
    where
      a : At P hP k.guide v.past v.core j
      a = at j h

      go : In i k.sets ⊎ ((l : Loc) × Writes k H l i × Behind l.span l.pos a.s a.q) → In i k.sets ⊎ ((m : ℕ) × (m < j) × writes k m i)
      go (inl x) = inl x
      go (inr x) =
          let l = x.0 in
          inr (
            start H l.span + l.pos,
            omega (arith, a.index, behind_before H l.span l.pos a.s a.q x.1.0 a.within x.2),
            rw
                (order_here P hP k.guide v.past v.core l.span l.pos (omega (arith, a.out, behind_span l.span l.pos a.s a.q x.2)) x.1.0) x.1.1,
          )

  -- the history weighs no more than the accepted registrations
  light : (φ : ℕ → ℕ) → hsum φ H ≤ below φ (length k.adds)
  unfolding Balance
  light φ = omega (arith, o.balance φ, core_sum φ P k.guide v.past v.core)

  -- the reader lies behind the writer
  behind : (a b i : ℕ) (h : a < written k) (g : b < written k) → writes k a i → reads k b i → Behind (at a h).s (at a h).q (at b g).s (at b g).q
  behind a b i h g y z = go (source b i g z)
    where
      x : At P hP k.guide v.past v.core a
      x = at a h

      u : At P hP k.guide v.past v.core b
      u = at b g

      go : In i k.sets ⊎ ((l : Loc) × Writes k H l i × Behind l.span l.pos u.s u.q) → Behind x.s x.q u.s u.q
      go (inl c) = absurd (o.apart.sets_apart i _ c y)
      go (inr c) =
          let l = c.0 in
          let same : (entry_at H l.span l.pos).added ≡ (entry_at H x.s x.q).added = o.apart.outs_apart i _ _ c.1.1 (rw x.entry_is at y) in
          let p = one_place H (length k.adds) light l.span l.pos x.s x.q c.1.0 x.within same in
          rw (p.0, p.1) at c.2

  far : (a c i : ℕ) → a < written k → c < written k → writes k a i → reads k c i → a + (nth k a).parallelism ≤ c
  unfolding wd
  far a c i h g y z =
      let x = at a h in
      let u = at c g in
      omega (arith, x.index, u.index, x.width_is, distance P H hP v.core.capped x.s x.q u.s u.q x.within u.within (behind a c i h g y z))

  -- a writer a covered from j on has its reader c at a + p_a or later, which is j + p_j or later
  none : (j a c i : ℕ) → Covered k j a → Covered k j c → writes k a i → reads k c i → ⊥
  none j a c i x u y z = omega (arith, far a c i x.2 u.2 y z, never_falls j a x.0 x.2)

  of_add : (j : ℕ) → j < written k → (nth k j).item.added < length k.adds
  of_add j h = let a = at j h in rw a.entry_is (v.known a.s a.q a.within)

  one_number : (j : ℕ) → j < written k → (nth k j).item.value ≡ (nth k j).item.added
  one_number j h = (order_entry (OfSession (length k.adds)) k.guide.order j o.entries.all.in_order h).0

  own_lane : (j : ℕ) → j < written k → ((nth k j).item.lane ≡ (reg_of k (nth k j).item.added).lane) × ((nth k j).item.lane ≤ most_lane)
  own_lane j h =
      let e = (order_entry (LaneKept k) k.guide.order j o.entries.lanes.in_order h).1 in
      (e, omega (arith, e, (o.inside.lists (nth k j).item.added).lane_few))

  -- the balance of one registration's weight
  in_one_place : (r : ℕ) → r < length k.adds → times r k.guide.order + held_times r k.guide.spans + pending_times r k.pending ≡ 1
  unfolding Balance lsum
  in_one_place r h = omega (arith, times_sum r k.guide.order, held_sum r k.guide.spans, pending_sum r k.pending, o.balance (one_of r), below_one r (length k.adds) h)

  row_filled : (j : ℕ) → j < written k → row_of k (nth k j).item.added ≡ fill j (nth k j) (unfilled (get_or k.recorded.written (nth k j).item.added 0))
  unfolding row_of
  row_filled j h =
      let row = unfilled (get_or k.recorded.written (nth k j).item.added 0) in
      row_once k.guide.order 0 j row h (omega (arith, in_one_place (nth k j).item.added (of_add j h)))
      ∙ ap (λ (i : ℕ). fill i (nth k j) row) (zero-add j)

  sum_up : length k.adds ≡ written k + held k.guide.spans + length k.pending
  unfolding Balance lsum
  sum_up = omega (arith, o.balance (λ x. 1), wsum_one k.guide.order, hsum_one k.guide.spans, qsum_one k.pending, below_all (length k.adds))

  exactly : (r : ℕ) → r < length k.adds → IsPending k r ↔ (ready (watermark N k) (reg_of k r).ins ≡ false)
  exactly r h = (there, back (o.delaying.others r h))
    where
      there : IsPending k r → ready (watermark N k) (reg_of k r).ins ≡ false
      there x = rw (← x.2) (o.delaying.above x.0 x.1)

      back : IsPending k r ⊎ (ready (watermark N k) (reg_of k r).ins ≡ true) → ready (watermark N k) (reg_of k r).ins ≡ false → IsPending k r
      back (inl x) e = x
      back (inr x) e = absurd (false≢true (sym e ∙ x))

  exactly_once : k.closed ≡ true → (r : ℕ) → r < length k.adds → times r k.guide.order ≡ 1
  unfolding Balance lsum qsum
  exactly_once c r h = let e = o.done c in omega (arith, times_sum r k.guide.order, o.balance (one_of r), below_one r (length k.adds) h, e.2 (one_of r), no_weight k.pending e.1)
    where
      no_weight : (l : List Pending) → length l ≡ 0 → qsum (one_of r) l ≡ 0
      no_weight [] e = refl
      no_weight (x ∷ l) e = absurd (omega arith)

  refused : (c : Call) → answer N W c k ≢ 0 → step P N W c k ≡ k
  unfolding step unless_refused
  refused c h = go (bool_cases (eqb (answer N W c k) 0))
    where
      go : (eqb (answer N W c k) 0 ≡ true) ⊎ (eqb (answer N W c k) 0 ≡ false) → step P N W c k ≡ k
      go (inl e) = absurd (h (eqb-true (answer N W c k) 0 e))
      go (inr e) = rw (e, unless_refused)

-- demand 3, for every list of calls on a fresh session
pub demand_3 : (P N W : ℕ) → 1 ≤ P → (calls : List Call) → Demand P N W calls (run P N W calls initial)
demand_3 P N W hP calls =
    record {
      parallelisms = bounds P hP k.guide o.inv.past o.inv.core;
      frontier = never_falls P N W hP k o;
      earlier = before P N W hP k o;
      together = none P N W hP k o;
      distance = far P N W hP k o;
      known = of_add P N W hP k o;
      value_is_added = one_number P N W hP k o;
      lanes = own_lane P N W hP k o;
      rows = row_filled P N W hP k o;
      somewhere = in_one_place P N W hP k o;
      counted = sum_up P N W hP k o;
      pending = exactly P N W hP k o;
      pending_known = λ w h. (o.inv.pending_ok w h).0;
      pending_under = λ w h. (o.inv.pending_ok w h).1;
      pending_sorted = o.delaying.sorted;
      tallied = tally_each P k.guide.order (λ j h. (bounds P hP k.guide o.inv.past o.inv.core j h).1);
      tally_sum = tally_sum P k.guide.order (λ j h. (bounds P hP k.guide o.inv.past o.inv.core j h).1);
      stays = λ before later e. rw e at (stays P N W hP before later);
      unchanged = refused P N W hP k o;
      closes = (closes, closed_by P N W calls);
      none_pending = λ c. (o.done c).1;
      none_held = λ c. omega (arith, (o.done c).2 (λ x. 1), hsum_one k.guide.spans);
      once = exactly_once P N W hP k o;
    }
  where
    k : Model
    k = run P N W calls initial

    o : Sound P N W k []
    o = sound P N W hP calls

    closes : FinalAccepted P N W calls initial → k.closed ≡ true
    closes x = rw x.2 at (final_closes P N W hP x.0 x.1 x.3)
