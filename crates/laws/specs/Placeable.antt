-- What a sound model gives to code that changes storage: numbers fit, there is room, and what is on the stack may be placed.
-- `Fits` holds of every sound model, `Delays` says the order and distinctness of who waits, `Placeable` is what placing the top of the
-- stack asks. They are consequences of `Sound` for V up to 16,777,216.
use Rattle.std.specs.Prelude.{◌≡◌, refl, Bool, true, false, ◌⊎◌, ℕ, ◌+◌, ◌≤◌, ◌<◌, length}
use Rattle.std.proofs.Common.{sym, inl, inr, arith, length-append, get_or-append-add}
use Rattle.std.proofs.Math.Path.{ap}
use mathlib.Core.List.Memᴰ
use mathlib.Core.List.{List, [], ◌∷◌, ◌++◌, map, Memᴰ}
use Rattle.std.proofs.lemmas.Bool.{false≢true}
use Rattle.std.proofs.Math.ListN.{get_or}
use Rattle.rules.specs.Limits.{most_places}
use Rattle.rules.specs.Guide.{Item, held}
use Rattle.rules.specs.Model.{Model, Pending, member, marked, watermark, greatest, ready, loc_of, top, reg_of}
use Rattle.laws.specs.History.{len}
use Rattle.laws.specs.GuideInv.{Later, len_append}
use Rattle.laws.specs.ModelBase.{In, bool_cases, member_in, entry_at, no_entry, in_range, top_le, loc_of_none, watermark_le}
use Rattle.laws.specs.ModelInv.{hist}
use Rattle.laws.specs.Balance.{hsum, qsum, lsum, Balance, core_sum}
use Rattle.laws.specs.Once.{hsum_at, one_of, one_same, below_le, wsum_one, qsum_one, hsum_one, below_all}
use Rattle.laws.specs.Ceiling.{ended}
use Rattle.laws.specs.Delaying.{Sorted, not_ready}
use Rattle.laws.specs.Limits.{AllBelow, Bounded}
use Rattle.laws.specs.Order.{nth, order_at, bounds}
use Rattle.laws.specs.Sound.{Sound}

-- of every sound model: the window's spans are within their rows, what is held and what is still to be placed fits the order, and span
-- numbers stay within 32 bits through another flush
pub record Fits (P N : ℕ) (k : Model) : Type 0 where
  pub many : length k.adds ≤ N
  pub window : length k.guide.spans ≡ 32
  pub later : Later P 1 k.guide
  pub capped : (i : ℕ) → len k.guide.spans i ≤ P + 1
  pub room : length k.guide.order + held k.guide.spans ≤ length k.adds
  pub low : k.guide.first + 63 < 4294967294
  pub held_known : (s q : ℕ) → q < len k.guide.spans s → (entry_at k.guide.spans s q).added < length k.adds
  pub order_known : (j : ℕ) → j < length k.guide.order → (nth k j).item.added < length k.adds
  pub parallelisms : (j : ℕ) → j < length k.guide.order → (1 ≤ (nth k j).parallelism) × ((nth k j).parallelism ≤ P)
  pub watermark_low : watermark N k ≤ N
  pub located_below : (x : ℕ) → marked x k.located ≡ true → x < N
  pub sets_below : AllBelow N k.sets

-- no number stands twice
abbrev pub Distinct : List ℕ → Type 0
Distinct [] = Unit {0}
Distinct (x ∷ l) = (In x l → ⊥) × Distinct l

-- the registrations that wait
abbrev pub regs : List Pending → List ℕ
regs ws = map (λ w. w.reg) ws

-- who waits and who is on the stack
pub record Delays (N : ℕ) (k : Model) (st : List ℕ) : Type 0 where
  pub distinct : Distinct (st ++ regs k.pending)
  pub sorted : Sorted k.pending
  pub stack_known : (r : ℕ) → In r st → r < length k.adds
  pub pending_known : (w : Pending) → Memᴰ w k.pending → w.reg < length k.adds
  pub under_is : (w : Pending) → Memᴰ w k.pending → w.under ≡ greatest (reg_of k w.reg).ins
  pub above : (w : Pending) → Memᴰ w k.pending → watermark N k ≤ w.under
  pub below : (w : Pending) → Memᴰ w k.pending → w.under < N

-- what placing registration r asks of the model
pub record Placeable (P N r : ℕ) (k : Model) : Type 0 where
  pub fits : Fits P N k
  pub mine : r < length k.adds
  pub room : length k.guide.order + len k.guide.spans 0 + len k.guide.spans 1 ≤ N
  pub room_all : length k.guide.order + held k.guide.spans < N
  pub near : (top k.located (reg_of k r).ins).span ≤ k.guide.first + 31
  pub lists : Bounded N (reg_of k r)
  pub unset : (x : ℕ) → In x (reg_of k r).outs → member x k.sets ≡ false
  pub unplaced : (x : ℕ) → In x (reg_of k r).outs → marked x k.located ≡ false

pub greatest_below : (N : ℕ) (l : List ℕ) → 0 < N → AllBelow N l → greatest l < N
unfolding greatest
greatest_below N [] h b = h
greatest_below N (x ∷ l) h b = omega (arith, b x (Memᴰ.head refl), greatest_below N l h (λ i y. b i (Memᴰ.tail y)))

delayed_below : (N m : ℕ) (l : List ℕ) → ready m l ≡ false → AllBelow N l → greatest l < N
unfolding ready
delayed_below N m [] e b = absurd (false≢true (sym e))
delayed_below N m (x ∷ l) e b = greatest_below N (x ∷ l) (omega (arith, b x (Memᴰ.head refl))) b

-- weights of a list of registrations
lsum_in : (l : List ℕ) (r : ℕ) → In r l → 1 ≤ lsum (one_of r) l
unfolding lsum
lsum_in [] r h = absurd (Memᴰ.not-nil h)
lsum_in (x ∷ l) r (Memᴰ.head e) = omega (arith, one_same r x e)
lsum_in (x ∷ l) r (Memᴰ.tail h) = omega (arith, lsum_in l r h)

lsum_append : (φ : ℕ → ℕ) (l m : List ℕ) → lsum φ (l ++ m) ≡ lsum φ l + lsum φ m
unfolding lsum
lsum_append φ [] m = omega arith
lsum_append φ (x ∷ l) m = omega (arith, lsum_append φ l m)

lsum_regs : (φ : ℕ → ℕ) (ws : List Pending) → lsum φ (regs ws) ≡ qsum φ ws
unfolding lsum qsum
lsum_regs φ [] = refl
lsum_regs φ (w ∷ ws) = omega (arith, lsum_regs φ ws)

light_distinct : (l : List ℕ) → ((r : ℕ) → lsum (one_of r) l ≤ 1) → Distinct l
unfolding lsum
light_distinct [] h = tt
light_distinct (x ∷ l) h = ((λ y. omega (arith, h x, lsum_in l x y, one_same x x refl)), light_distinct l (λ r. omega (arith, h r)))

two_held : (ss : List (List Item)) → length ss ≡ 32 → len ss 0 + len ss 1 ≤ held ss
unfolding held
two_held [] h = absurd (omega arith)
two_held (s ∷ []) h = absurd (omega arith)
two_held (s ∷ (t ∷ ss)) h = omega arith

ended_le : (t : Bool) → ended t ≤ 1
unfolding ended
ended_le true = omega arith
ended_le false = omega arith

module _ (P N W : ℕ) (hP : 1 ≤ P) (k : Model) (st : List ℕ) (s : Sound P N W k st) where
  abbrev H : List (List Item)
  H = hist k s.inv.past

  -- the balance of the weight 1: accepted = written + held + waiting + still to be placed
  counted : length k.guide.order + held k.guide.spans + length k.pending + lsum (λ x. 1) st ≡ length k.adds
  unfolding Balance
  counted = omega (arith, s.balance (λ x. 1), wsum_one k.guide.order, hsum_one k.guide.spans, qsum_one k.pending, below_all (length k.adds))

  -- the balance of one registration's weight
  single : (r : ℕ) → hsum (one_of r) H + qsum (one_of r) k.pending + lsum (one_of r) st ≤ 1
  unfolding Balance
  single r = omega (arith, s.balance (one_of r), core_sum (one_of r) P k.guide s.inv.past s.inv.core, below_le r (length k.adds))

  -- what is still to be placed has no output with a location
  not_placed : (r i : ℕ) → In r st → In i (reg_of k r).outs → marked i k.located ≡ false
  not_placed r i y z = go (bool_cases (marked i k.located))
    where
      go : (marked i k.located ≡ true) ⊎ (marked i k.located ≡ false) → marked i k.located ≡ false
      go (inr e) = e
      go (inl e) =
          let l = loc_of k.located i in
          let w = s.inv.located_ok i e in
          let same : r ≡ (entry_at H l.span l.pos).added = s.apart.outs_apart i r _ z w.1 in
          absurd (omega (arith, hsum_at (one_of r) H l.span l.pos w.0, one_same r _ same, lsum_in st r y, single r))

  pub located_span : (i : ℕ) → (loc_of k.located i).span ≤ k.guide.first + 31
  located_span i = go (bool_cases (marked i k.located))
    where
      go : (marked i k.located ≡ true) ⊎ (marked i k.located ≡ false) → (loc_of k.located i).span ≤ k.guide.first + 31
      go (inl e) =
          let l = loc_of k.located i in
          omega (arith, in_range H l.span l.pos (s.inv.located_ok i e).0, length-append s.inv.past k.guide.spans, s.inv.core.past_is, s.inv.core.window_is)
      go (inr e) = omega (arith, (loc_of_none k.located i e).0)

  -- the window is the end of the history
  window_len : (i : ℕ) → len k.guide.spans i ≡ len H (length s.inv.past + i)
  window_len i = sym (len_append s.inv.past k.guide.spans i)

  window_entry : (i q : ℕ) → entry_at k.guide.spans i q ≡ entry_at H (length s.inv.past + i) q
  unfolding entry_at
  window_entry i q = ap (λ (l : List Item). get_or l q no_entry) (sym (get_or-append-add s.inv.past k.guide.spans i []))

  -- every sound model fits
  pub fits_of : N ≤ most_places → Fits P N k
  fits_of hN =
      record {
        many = s.limits.many;
        window = s.inv.core.window_is;
        later = s.inv.later;
        capped = λ i. omega (arith, window_len i, s.inv.core.capped (length s.inv.past + i));
        room = omega (arith, counted);
        low = omega (arith, s.ceiling, ended_le k.closed, s.limits.many, s.limits.few);
        held_known = λ i q h. rw (window_entry i q) (s.inv.known (length s.inv.past + i) q (omega (arith, window_len i)));
        order_known = λ j h. let a = order_at P hP k.guide s.inv.past s.inv.core j h in rw a.entry_is (s.inv.known a.s a.q a.within);
        parallelisms = bounds P hP k.guide s.inv.past s.inv.core;
        watermark_low = watermark_le N k;
        located_below = λ x h. (s.inside.lists _).outs_below x (s.inv.located_ok x h).1;
        sets_below = s.inside.sets_below;
      }

  -- and has its pending registrations and its stack in order
  pub delays_of : Delays N k st
  delays_of =
      record {
        distinct = light_distinct (st ++ regs k.pending) (λ r. omega (arith, single r, lsum_append (one_of r) st (regs k.pending), lsum_regs (one_of r) k.pending));
        sorted = s.delaying.sorted;
        stack_known = λ r h. (s.inv.stack_ok r h).0;
        pending_known = λ w h. (s.inv.pending_ok w h).0;
        under_is = λ w h. (s.inv.pending_ok w h).1;
        above = λ w h. omega (arith, not_ready (watermark N k) (reg_of k w.reg).ins (s.delaying.above w h), (s.inv.pending_ok w h).1);
        below = λ w h. omega (arith, delayed_below N (watermark N k) (reg_of k w.reg).ins (s.delaying.above w h) (s.inside.lists w.reg).ins_below, (s.inv.pending_ok w h).1);
      }

-- the top of the stack may be placed
pub placeable : (P N W : ℕ) → 1 ≤ P → N ≤ most_places → (r : ℕ) (st : List ℕ) (k : Model) → Sound P N W k (r ∷ st) → Placeable P N r k
unfolding lsum
placeable P N W hP hN r st k s =
    record {
      fits = fits_of P N W hP k (r ∷ st) s hN;
      mine = (s.inv.stack_ok r (Memᴰ.head refl)).0;
      room = omega (arith, counted P N W hP k (r ∷ st) s, two_held k.guide.spans s.inv.core.window_is, s.limits.many);
      room_all = omega (arith, counted P N W hP k (r ∷ st) s, s.limits.many);
      near = top_le k.located (k.guide.first + 31) (reg_of k r).ins (λ x y. located_span P N W hP k (r ∷ st) s x);
      lists = s.inside.lists r;
      unset = λ x h. out x h (bool_cases (member x k.sets));
      unplaced = λ x h. not_placed P N W hP k (r ∷ st) s r x (Memᴰ.head refl) h;
    }
  where
    out : (x : ℕ) → In x (reg_of k r).outs → (member x k.sets ≡ true) ⊎ (member x k.sets ≡ false) → member x k.sets ≡ false
    out x h (inr e) = e
    out x h (inl e) = absurd (s.apart.sets_apart x r (member_in x k.sets e) h)
