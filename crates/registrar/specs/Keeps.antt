-- What each function does to the delayed registrations in storage, over plain variables: opening, delaying one, stacking and popping,
-- advancing after a set and after a placing; and that only heads and links matter. Assumes nothing.
use Rattle.std.specs.Prelude.{◌≡◌, refl, ◌⊎◌, [], cond, ℕ, zero, suc, ◌+◌, ◌-◌, ◌*◌, ◌≤◌, ◌<◌, eqb, length, get_or, set}
use Rattle.std.proofs.Common.{sym, ◌∙◌, inl, inr, suc-ne-zero, get_or-set_same, get_or-set_other, get_or-drop, drop-set-lt, eq-eqb, ne_eqb}
use Rattle.std.proofs.Math.Path.{ap, subst}
use Rattle.std.proofs.Math.Logic.{⊎_elim}
use mathlib.Core.List.Memᴰ
use mathlib.Core.List.{List, [], ◌∷◌, ◌++◌, Memᴰ}
use Rattle.std.proofs.Math.Numerals.{add-one}
use native.Mathlib.Omega.{arith}
use Rattle.std.proofs.Math.ListN.{length-set}
use Rattle.rules.specs.Model.{Pending, due, left, queue, push}
use Rattle.rules.specs.Checks.{waiting_needed}
use Rattle.laws.specs.Delaying.{left_sorted, left_above, queue_sorted}
use Rattle.registrar.specs.Reading.{head_at, link_at}
use Rattle.registrar.specs.Delayed.{with_head, with_link, newest, occurs, pends, Chain, Linked, Delayed, Later, Joins, Stacks, Aside, LinksOnly}
use Rattle.registrar.specs.Delayed.{relinked, top_of, spliced, head_of, last_of, Chained, Oldest, Splices, Advancing, AdvancesSet}
use Rattle.registrar.specs.Queue.{From, lt_or_le, eq_or_ne, push_append, push_onto, push_twice, due_none, left_all, due_split, left_split, left_in}
use Rattle.registrar.specs.Queue.{newest_left, newest_due, down, down_due, occurs_push, pends_split, newest_pends, newest_apart, queue_in, queue_pends, queue_newest, queue_others, pends_none}
use Rattle.registrar.specs.Chains.{In, in_occurs, chain_same, linked_same, chain_frame, linked_frame, chain_below, chain_bound, links_set, links_refl, links_trans}
use Rattle.registrar.specs.Chains.{chain_turn, head_turn, length_turn, links_turn, linked_turn, splice_linked, chain_splice, head_splice, length_splice, links_splice, last_in}
use Rattle.registrar.specs.Loops.{ChainsAt}
use Rattle.registrar.specs.Delayed.{AdvancesPlaced}

-- what is neither head nor link, number by number
pub aside_at : (w : List ℕ) (v : ℕ) (w' : List ℕ) → Aside w v w' → (i : ℕ) → 2 * v ≤ i → get_or w' i 0 ≡ get_or w i 0
aside_at w v w' a i h =
    let j : 2 * v + (i - 2 * v) ≡ i = omega arith in
    subst (λ (x : ℕ). get_or w' x 0 ≡ get_or w x 0) j (sym (get_or-drop (2 * v) w' (i - 2 * v) 0) ∙ ap (λ (l : List ℕ). get_or l (i - 2 * v) 0) a.rest ∙ get_or-drop (2 * v) w (i - 2 * v) 0)

-- where all heads are 0 nothing is delayed
pub delayed_open : (w : List ℕ) (v : ℕ) → waiting_needed v ≤ length w → ((p : ℕ) → p < v → head_at w p ≡ 0) → Delayed w v 0 [] 0 []
unfolding newest pends occurs
delayed_open w v long z =
    record { long = long; chains = λ p l h. z p h; stack = refl; sorted = tt; within = λ x h. absurd (Memᴰ.not-nil h); apart = λ r. omega arith }

-- the stack's first is taken off
pub popped : (w : List ℕ) (v lo : ℕ) (ps : List Pending) (top r : ℕ) (st : List ℕ) → Delayed w v lo ps top (r ∷ st) → Delayed w v lo ps (link_at w v r) st
unfolding occurs
popped w v lo ps top r st d =
    record { long = d.long; chains = d.chains; stack = d.stack.2; sorted = d.sorted; within = d.within; apart = λ x. omega (arith, d.apart x) }

module _ (w : List ℕ) (v lo : ℕ) (ps : List Pending) (top : ℕ) (st : List ℕ) (d : Delayed w v lo ps top st) where
  -- only heads and links matter
  pub delayed_same : (w' : List ℕ) → length w' ≡ length w → ((p : ℕ) → p < v → head_at w' p ≡ head_at w p) → ((r : ℕ) → r < v → link_at w' v r ≡ link_at w v r) → Delayed w' v lo ps top st
  delayed_same w' long heads links =
      record {
        long = omega (arith, d.long);
        chains = λ p l h. rw (heads p h)
            (chain_same w w' v v (head_at w p) (newest p ps) (λ r m. links r (chain_below w v v (head_at w p) (newest p ps) (d.chains p l h) r m)) (d.chains p l h));
        stack = linked_same w w' v top st (λ r m. links r (stacked top st d.stack r m)) d.stack;
        sorted = d.sorted;
        within = d.within;
        apart = d.apart;
      }
    where
      stacked : (h : ℕ) (s : List ℕ) → Linked w v h s → (r : ℕ) → In r s → r < v
      stacked h [] k r m = elim m [ ]
      stacked h (q ∷ s) k r (inl e) = omega (arith, k.1)
      stacked h (q ∷ s) k r (inr m) = stacked (link_at w v q) s k.2 r m

  -- where the top link is 0 the stack is empty
  stack_empty : top ≡ 0 → st ≡ []
  stack_empty z = go st d.stack
    where
      go : (s : List ℕ) → Linked w v top s → s ≡ []
      go [] k = refl
      go (r ∷ s) k = absurd (suc-ne-zero r (sym k.0 ∙ z))

  -- a delayed registration is below v
  pub delayed_below : (p r : ℕ) → lo ≤ p → p < v → In r (newest p ps) → r < v
  delayed_below p r l h m = chain_below w v v (head_at w p) (newest p ps) (d.chains p l h) r m

  -- no chain shares a registration with the stack
  unstacked : (p r : ℕ) → In r (newest p ps) → In r st → ⊥
  unstacked p r a b = omega (arith, d.apart r, newest_pends r p ps, in_occurs r (newest p ps) a, in_occurs r st b)

  -- delaying one more
  pub delay_keeps : (p r : ℕ) → Later r ps st → lo ≤ p → p < v → r < v → Delayed (with_head (with_link w v r (head_at w p)) p (r + 1)) v lo (queue (record { under = p; reg = r }) ps) top st
  unfolding occurs
  delay_keeps p r n lp pv rv =
      record {
        long = simp length-set d.long;
        chains = λ q l h. ⊎_elim (λ e. here q e) (λ ne. other q l h ne) (eq_or_ne q p);
        stack = linked_frame w₁ v p (r + 1) top st (λ q m e. omega arith) (linked_frame w v (v + r) (head_at w p) top st (λ q m e. new q m (omega arith)) d.stack);
        sorted = queue_sorted x ps n.above d.sorted;
        within = λ y h. ⊎_elim (λ e. rw e (lp, pv)) (λ k. d.within y k) (queue_in x ps y h);
        apart = λ q. counts q (eq_or_ne q r);
      }
    where
      x : Pending
      x = record { under = p; reg = r }

      w₁ : List ℕ
      w₁ = with_link w v r (head_at w p)

      w₂ : List ℕ
      w₂ = set w₁ p (r + 1)

      new : (q : ℕ) → In q st → q ≡ r → ⊥
      new q m e = let a : 1 ≤ occurs r st = subst (λ (z : ℕ). 1 ≤ occurs z st) e (in_occurs q st m) in omega (arith, a, n.unstacked)

      earlier : (q m : ℕ) → In m (newest q ps) → m < r
      earlier q m h = ⊎_elim (λ k. k) (λ k. absurd (late k)) (lt_or_le m r)
        where
          late : r ≤ m → ⊥
          late k = omega (arith, pends_none m ps (λ y z. omega (arith, n.above y z)), newest_pends m q ps, in_occurs m (newest q ps) h)

      counts : (q : ℕ) → (q ≡ r) ⊎ (q ≡ r → ⊥) → pends q (queue x ps) + occurs q st ≤ 1
      counts q (inl e) =
          rw (queue_pends q x ps, eq-eqb q r e) (rw e (omega (arith, pends_none r ps n.above, n.unstacked)))
      counts q (inr ne) = rw (queue_pends q x ps, ne_eqb q r ne) (omega (arith, d.apart q))

      kept : (q : ℕ) → lo ≤ q → q < v → Chain w₂ v v (head_at w q) (newest q ps)
      kept q l h =
          chain_frame w₁ v v p (r + 1) (head_at w q) (newest q ps) (λ m k e. omega arith)
          (chain_frame w v v (v + r) (head_at w p) (head_at w q) (newest q ps) (λ m k e. omega (arith, earlier q m k)) (d.chains q l h))

      here : (q : ℕ) → q ≡ p → Chain w₂ v v (head_at w₂ q) (newest q (queue x ps))
      here q e =
          rw (e, queue_newest x ps d.sorted) (
            get_or-set_same w₁ p (r + 1) 0 (simp length-set (omega (arith, d.long))) ∙ add-one r,
            rv,
            subst (λ (k : ℕ). Chain w₂ v r k (newest p ps))
                (sym (get_or-set_other w₁ p (v + r) (r + 1) 0 (λ f. omega arith) ∙ get_or-set_same w (v + r) (head_at w p) 0 (omega (arith, d.long))))
                (chain_bound w₂ v v r (head_at w p) (newest p ps) (earlier p) (kept p lp pv)),
          )

      other : (q : ℕ) → lo ≤ q → q < v → (q ≡ p → ⊥) → Chain w₂ v v (head_at w₂ q) (newest q (queue x ps))
      other q l h ne =
          rw (queue_others q x ps (λ e. ne (sym e)), get_or-set_other w₁ p q (r + 1) 0 ne, get_or-set_other w (v + r) q (head_at w p) 0 (λ e. omega arith)) (kept q l h)

  -- one more on the stack
  pub stack_keeps : (r : ℕ) → r < v → pends r ps + occurs r st ≡ 0 → Delayed (with_link w v r top) v lo ps (r + 1) (r ∷ st)
  unfolding occurs
  stack_keeps r rv none =
      record {
        long = rw (length-set w (v + r) top) d.long;
        chains = λ p l h.
            rw (get_or-set_other w (v + r) p top 0 (λ e. omega arith))
            (chain_frame w v v (v + r) top (head_at w p) (newest p ps) (λ m k e. undelayed p m k (omega arith)) (d.chains p l h));
        stack = (
          add-one r,
          rv,
          rw (get_or-set_same w (v + r) top 0 (omega (arith, d.long))) (linked_frame w v (v + r) top top st (λ m k e. off m k (omega arith)) d.stack),
        );
        sorted = d.sorted;
        within = d.within;
        apart = λ q. counts q (eq_or_ne q r);
      }
    where
      undelayed : (p m : ℕ) → In m (newest p ps) → m ≡ r → ⊥
      undelayed p m k e =
          let a : 1 ≤ pends r ps = subst (λ (z : ℕ). 1 ≤ pends z ps) e (omega (arith, in_occurs m (newest p ps) k, newest_pends m p ps)) in
          omega (arith, a, none)

      off : (m : ℕ) → In m st → m ≡ r → ⊥
      off m k e = let a : 1 ≤ occurs r st = subst (λ (z : ℕ). 1 ≤ occurs z st) e (in_occurs m st k) in omega (arith, a, none)

      counts : (q : ℕ) → (q ≡ r) ⊎ (q ≡ r → ⊥) → pends q ps + (cond {A = ℕ} (eqb q r) 1 0 + occurs q st) ≤ 1
      counts q (inl e) = rw (eq-eqb q r e) (rw e (omega (arith, none)))
      counts q (inr ne) = rw (ne_eqb q r ne) (omega (arith, d.apart q))

  low : From lo ps
  low x h = (d.within x h).0

  -- what is left above m stays within
  kept_within : (m : ℕ) → (x : Pending) → Memᴰ x (left m ps) → (m ≤ x.under) × (x.under < v)
  kept_within m x h = (left_above m ps d.sorted x h, (d.within x (left_in m ps x h)).1)

  -- the lowest place's chain is put on the stack as it is
  pub place_splice : lo < v → Delayed (spliced w v top (newest lo ps)) v (suc lo) (left (suc lo) ps) (head_of top (newest lo ps)) (push (due (suc lo) ps) st)
  place_splice h =
      record {
        long = rw (length_splice l w v top) d.long;
        chains = λ q a b.
            rw (newest_left (suc lo) q ps a, head_splice l w v top q b)
            (chain_splice l w v v (head_at w q) top (newest q ps) (λ r x y. omega (arith, d.apart r, newest_apart r q lo ps (λ e. omega arith), in_occurs r (newest q ps) x, in_occurs r l y))
            (d.chains q (omega arith) b));
        stack =
            subst (λ (s : List ℕ). Linked (spliced w v top l) v (head_of top l) s) stack_is
            (splice_linked w v (head_at w lo) top l st (omega (arith, d.long)) (d.chains lo (omega arith) h) d.stack (unstacked lo));
        sorted = left_sorted (suc lo) ps d.sorted;
        within = kept_within (suc lo);
        apart = λ r. rw (occurs_push r (due (suc lo) ps) st) (omega (arith, d.apart r, pends_split r (suc lo) ps));
      }
    where
      l : List ℕ
      l = newest lo ps

      stack_is : newest lo ps ++ st ≡ push (due (suc lo) ps) st
      stack_is = ap (λ (s : List ℕ). s ++ st) (newest_due lo ps d.sorted low) ∙ sym (push_onto (due (suc lo) ps) st)

  pub splice_links : lo < v → LinksOnly w v (spliced w v top (newest lo ps))
  splice_links h = links_splice (newest lo ps) w v top (λ r m. delayed_below lo r (omega arith) h m)

in_append : (r : ℕ) (a b : List ℕ) → In r (a ++ b) → In r a ⊎ In r b
in_append r [] b h = inr h
in_append r (x ∷ a) b (inl e) = inl (inl e)
in_append r (x ∷ a) b (inr h) = ⊎_elim (λ y. inl (inr y)) (λ y. inr y) (in_append r a b h)

-- what is in the chains of some places is in one of them
in_down : (Q : ℕ → Type 0) (ch : ℕ → List ℕ) (lo n : ℕ) → ((p r : ℕ) → lo ≤ p → p < lo + n → In r (ch p) → Q r) → (r : ℕ) → In r (down ch lo n) → Q r
in_down Q ch lo zero all r h = elim h [ ]
in_down Q ch lo (suc n) all r h =
    ⊎_elim (λ k. all (lo + n) r (omega arith) (omega arith) k) (λ k. in_down Q ch lo n (λ p q a b. all p q a (omega arith)) r k) (in_append r (ch (lo + n)) (down ch lo n) h)

-- the chains of the places below hi
places_of : (w : List ℕ) (v lo hi : ℕ) (ps : List Pending) (top : ℕ) (st : List ℕ) → Delayed w v lo ps top st → hi ≤ v → ChainsAt w v lo hi (λ q. newest q ps)
places_of w v lo hi ps top st d high =
    record {
      long = d.long;
      high = high;
      at = λ p a b. d.chains p a (omega arith);
      apart = λ p q r a b x y. ⊎_elim (λ e. e) (λ n. absurd (two p q r n x y)) (eq_or_ne p q);
    }
  where
    two : (p q r : ℕ) → (p ≡ q → ⊥) → In r (newest p ps) → In r (newest q ps) → ⊥
    two p q r n x y = omega (arith, d.apart r, newest_apart r p q ps n, in_occurs r (newest p ps) x, in_occurs r (newest q ps) y)

module _ (w : List ℕ) (v lo hi : ℕ) (ps : List Pending) (d : Delayed w v lo ps 0 []) (order : lo ≤ hi) (high : hi ≤ v) where
  -- the chains of the places below hi, the highest place first
  abbrev pub chains_down : List ℕ
  chains_down = down (λ q. newest q ps) lo (hi - lo)

  down_is : chains_down ≡ push (due hi ps) []
  down_is =
      let e : lo + (hi - lo) ≡ hi = omega arith in
      down_due lo (hi - lo) ps d.sorted (λ x h. (d.within x h).0) ∙ ap (λ (m : ℕ). push (due m ps) []) e

  down_occurs : (r : ℕ) → occurs r chains_down ≡ occurs r (due hi ps)
  unfolding occurs
  down_occurs r = ap (occurs r) down_is ∙ occurs_push r (due hi ps) [] ∙ omega arith

  down_below : (r : ℕ) → In r chains_down → r < v
  down_below r h = in_down (λ x. x < v) (λ q. newest q ps) lo (hi - lo) (λ p q a b k. delayed_below w v lo ps 0 [] d p q a (omega arith) k) r h

  -- they are turned round onto an empty stack
  pub set_turn : Delayed (relinked w v 0 chains_down) v hi (left hi ps) (top_of 0 chains_down) (due hi ps)
  unfolding push occurs
  set_turn =
      record {
        long = rw (length_turn chains_down w v 0) d.long;
        chains = λ q a b.
            rw (newest_left hi q ps a, head_turn chains_down w v 0 q b)
            (chain_turn chains_down w v v (head_at w q) 0 (newest q ps) (λ r x y. apartly q r a x y) (d.chains q (omega arith) b));
        stack =
            subst (λ (s : List ℕ). Linked (relinked w v 0 chains_down) v (top_of 0 chains_down) s) stack_is
            (linked_turn chains_down w v 0 [] (omega (arith, d.long)) down_below (λ r. single r) refl);
        sorted = left_sorted hi ps d.sorted;
        within = λ x h. (left_above hi ps d.sorted x h, (d.within x (left_in hi ps x h)).1);
        apart = λ r. omega (arith, d.apart r, pends_split r hi ps);
      }
    where
      apartly : (q r : ℕ) → hi ≤ q → In r (newest q ps) → In r chains_down → ⊥
      apartly q r a x y =
          let n : occurs r (newest q ps) ≤ pends r (left hi ps) = rw (sym (newest_left hi q ps a)) (newest_pends r q (left hi ps)) in
          omega (arith, d.apart r, pends_split r hi ps, n, in_occurs r (newest q ps) x, in_occurs r chains_down y, down_occurs r)

      single : (r : ℕ) → occurs r chains_down + 0 ≤ 1
      single r = omega (arith, d.apart r, pends_split r hi ps, down_occurs r)

      stack_is : push chains_down [] ≡ due hi ps
      stack_is = ap (λ (s : List ℕ). push s []) down_is ∙ push_twice (due hi ps) []

  pub set_links : LinksOnly w v (relinked w v 0 chains_down)
  set_links = links_turn chains_down w v 0 down_below

  set_places : ChainsAt w v lo hi (λ q. newest q ps)
  set_places = places_of w v lo hi ps 0 [] d high

-- ---- the promises of delay, stack and splice

pub joins : (w : List ℕ) (v p r : ℕ) → p < v → r < v → Joins w v p r (with_head (with_link w v r (head_at w p)) p (r + 1))
joins w v p r hp hr =
    record {
      delayed = λ lo ps top st d n l. delay_keeps w v lo ps top st d p r n l hp hr;
      aside = record { rest = drop-set-lt (2 * v) (with_link w v r (head_at w p)) p (r + 1) (omega arith) ∙ drop-set-lt (2 * v) w (v + r) (head_at w p) (omega arith) };
    }

pub stacks : (w : List ℕ) (v r top : ℕ) → r < v → Stacks w v r top (r + 1) (with_link w v r top)
stacks w v r top h = record { delayed = λ lo ps st d n. stack_keeps w v lo ps top st d r h n; top_is = refl; kept = links_set w v r top h }

-- the oldest is below v
pub oldest_below : (w : List ℕ) (v h last : ℕ) → Chained w v h → (h ≡ 0 → ⊥) → Oldest w v h last → last < v
oldest_below w v h last c n o = go c.l c.chain
  where
    go : (l : List ℕ) → Chain w v v h l → last < v
    go [] k = absurd (n k)
    go (r ∷ l) k = rw (o.found r l k) (chain_below w v v h (r ∷ l) k (last_of r l) (last_in r l))

-- ---- the loop of advance_placed: the places below p are done

pub record Placing (w₀ : List ℕ) (v lo top₀ : ℕ) (w : List ℕ) (p top : ℕ) : Type 0 where
  pub delayed : (ps : List Pending) (st : List ℕ) → Delayed w₀ v lo ps top₀ st → Delayed w v p (left p ps) top (push (due p ps) st)
  pub kept : LinksOnly w₀ v w

pub placing_start : (w : List ℕ) (v lo top : ℕ) → Placing w v lo top w lo top
unfolding push
placing_start w v lo top = record { delayed = λ ps st d. go ps st d; kept = links_refl w v }
  where
    go : (ps : List Pending) (st : List ℕ) → Delayed w v lo ps top st → Delayed w v lo (left lo ps) top (push (due lo ps) st)
    go ps st d =
        let f : From lo ps = λ x h. (d.within x h).0 in
        rw (left_all lo ps f, due_none lo ps f) d

module _ {w₀ : List ℕ} {v lo hi top₀ : ℕ} (a : Advancing w₀ v lo hi top₀) {w : List ℕ} {p top : ℕ} (g : Placing w₀ v lo top₀ w p top) (lt : p < hi) where
  there : Delayed w v p (left p a.ps) top (push (due p a.ps) a.st)
  there = g.delayed a.ps a.st a.delayed

  pub placing_chained : Chained w v (head_at w p)
  placing_chained = record { l = newest p (left p a.ps); chain = there.chains p (omega arith) (omega (arith, a.high)); long = there.long }

  pub placing_next : {t : ℕ} {w' : List ℕ} → Splices w v (head_at w p) top t w' → Placing w₀ v lo top₀ w' (p + 1) t
  placing_next {t} {w'} s = record { delayed = λ ps st d. step ps st d; kept = links_trans w₀ w w' v g.kept links }
    where
      inside : p < v
      inside = omega (arith, a.high)

      step : (ps : List Pending) (st : List ℕ) → Delayed w₀ v lo ps top₀ st → Delayed w' v (p + 1) (left (p + 1) ps) t (push (due (p + 1) ps) st)
      step ps st d =
          let b = g.delayed ps st d in
          let k = s.placed (newest p (left p ps)) (b.chains p (omega arith) inside) in
          let m = place_splice w v p (left p ps) top (push (due p ps) st) b inside in
          let e : left (suc p) (left p ps) ≡ left (suc p) ps = left_split p (suc p) ps (omega arith) in
          let f : push (due (suc p) (left p ps)) (push (due p ps) st) ≡ push (due (suc p) ps) st =
          sym (push_append (due p ps) (due (suc p) (left p ps)) st) ∙ ap (λ (l : List ℕ). push l st) (sym (due_split p (suc p) ps (omega arith))) in
          rw (add-one p, ← e, ← f, k.0, k.1) m

      links : LinksOnly w v w'
      links =
          let k = s.placed (newest p (left p a.ps)) (there.chains p (omega arith) inside) in
          rw k.1 (splice_links w v p (left p a.ps) top (push (due p a.ps) a.st) there inside)

-- ---- the loop of advance_set

pub set_advances : (w : List ℕ) (v lo hi : ℕ) (a : Advancing w v lo hi 0) (t : ℕ) (w' : List ℕ)
    → ((ch : ℕ → List ℕ) → ChainsAt w v lo hi ch → (t ≡ top_of 0 (down ch lo (hi - lo))) × (w' ≡ relinked w v 0 (down ch lo (hi - lo)))) → AdvancesSet w v lo hi t w'
set_advances w v lo hi a t w' h = record { delayed = λ ps d. go ps d; kept = links }
  where
    go : (ps : List Pending) → Delayed w v lo ps 0 [] → Delayed w' v hi (left hi ps) t (due hi ps)
    go ps d = let k = h (λ q. newest q ps) (set_places w v lo hi ps d a.order a.high) in rw (k.0, k.1) (set_turn w v lo hi ps d a.order a.high)

    links : LinksOnly w v w'
    links =
        let d : Delayed w v lo a.ps 0 [] = subst (λ (s : List ℕ). Delayed w v lo a.ps 0 s) (stack_empty w v lo a.ps 0 a.st a.delayed refl) a.delayed in
        let k = h (λ q. newest q a.ps) (set_places w v lo hi a.ps d a.order a.high) in
        rw k.1 (set_links w v lo hi a.ps d a.order a.high)

-- the chains of a caller's delayed registrations
pub advancing_places : (w : List ℕ) (v lo hi top : ℕ) (a : Advancing w v lo hi top) → ChainsAt w v lo hi (λ q. newest q a.ps)
advancing_places w v lo hi top a = places_of w v lo hi a.ps top a.st a.delayed a.high

pub splices_none : (w : List ℕ) (v h onto : ℕ) → h ≡ 0 → Splices w v h onto onto w
splices_none w v h onto z = record { placed = go }
  where
    go : (l : List ℕ) → Chain w v v h l → (onto ≡ head_of onto l) × (w ≡ spliced w v onto l)
    go [] c = (refl, refl)
    go (r ∷ l) c = absurd (suc-ne-zero r (sym c.0 ∙ z))

pub splices_some : (w : List ℕ) (v h onto last : ℕ) → (h ≡ 0 → ⊥) → Oldest w v h last → Splices w v h onto h (with_link w v last onto)
splices_some w v h onto last n o = record { placed = go }
  where
    go : (l : List ℕ) → Chain w v v h l → (h ≡ head_of onto l) × (with_link w v last onto ≡ spliced w v onto l)
    go [] c = absurd (n c)
    go (r ∷ l) c = (c.0, ap (λ (x : ℕ). with_link w v x onto) (o.found r l c))

pub placing_end : {w₀ : List ℕ} {v lo hi top₀ : ℕ} {w : List ℕ} {p top : ℕ} → Placing w₀ v lo top₀ w p top → p ≡ hi → AdvancesPlaced w₀ v lo hi top₀ top w
placing_end {w₀} {v} {lo} {hi} {top₀} {w} {p} {top} g e =
    record { delayed = λ ps st d. subst (λ (x : ℕ). Delayed w v x (left x ps) top (push (due x ps) st)) e (g.delayed ps st d); kept = g.kept }
