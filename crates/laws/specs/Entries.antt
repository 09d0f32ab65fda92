-- What holds of every entry, held or written: in a session value equals added, accepted counts no more than the accepted adds, and the lane
-- is the registration's.
-- And of the record: each row's written is at most the order's length, and final's counts are at most those of the session.
use Rattle.std.specs.Prelude.{◌≡◌, refl, ◌⊎◌, Bool, true, false, drop, get_or, set, replicate, leb}
use Rattle.std.proofs.Common.{sym, ◌∙◌, inl, inr, arith}
use Rattle.std.proofs.Math.Path.{ap}
use mathlib.Core.List.Memᴰ
use mathlib.Core.List.{List, [], ◌∷◌, ◌++◌}
use Rattle.std.proofs.Math.Option.{Option}
use Prim.Native.Nat.{ℕ, zero, suc, ◌≤◌, ◌<◌}
use Rattle.std.proofs.Math.ListN.{length, length-append}
use Rattle.rules.specs.Guide.{Loc, Item, Entry, Guide, parallelism, last_parallelism, annotate, released, fresh, release, flush as flush_guide, Choice, existing, opened, choose}
use Rattle.rules.specs.Guide.{put, settle, apply, place}
use Rattle.rules.specs.Model.{Recorded, with_record, Reg, Model, watermark, reg_of, after, place_one, keep, rest, with_set, with_add, with_flush, initial}
use Rattle.laws.specs.History.{len}
use Rattle.laws.specs.ModelBase.{In, bool_cases, entry_at, no_entry, watermark_le}
use Rattle.laws.specs.Place.{place_step}
use Rattle.laws.specs.CallInv.{reg_of_old}
use Rattle.laws.specs.Kept.{Kept}
use Rattle.laws.specs.Order.{no_written}

module _ (Φ : Item → Type 0) where
  -- a property of each item of a span, of spans, of the order
  abbrev pub Each : List Item → Type 0
  Each [] = Unit {0}
  Each (e ∷ l) = Φ e × Each l

  abbrev pub EachSpan : List (List Item) → Type 0
  EachSpan [] = Unit {0}
  EachSpan (s ∷ ss) = Each s × EachSpan ss

  abbrev pub EachEntry : List Entry → Type 0
  EachEntry [] = Unit {0}
  EachEntry (x ∷ l) = Φ x.item × EachEntry l

  each_append : (a b : List Item) → Each a → Each b → Each (a ++ b)
  each_append [] b h k = k
  each_append (e ∷ a) b h k = (h.0, each_append a b h.1 k)

  entries_append : (a b : List Entry) → EachEntry a → EachEntry b → EachEntry (a ++ b)
  entries_append [] b h k = k
  entries_append (e ∷ a) b h k = (h.0, entries_append a b h.1 k)

  spans_append : (a b : List (List Item)) → EachSpan a → EachSpan b → EachSpan (a ++ b)
  spans_append [] b h k = k
  spans_append (s ∷ a) b h k = (h.0, spans_append a b h.1 k)

  spans_empty : (n : ℕ) → EachSpan (replicate n [])
  spans_empty zero = tt
  spans_empty (suc n) = (tt, spans_empty n)

  spans_drop : (n : ℕ) (ss : List (List Item)) → EachSpan ss → EachSpan (drop n ss)
  spans_drop zero ss h = h
  spans_drop (suc n) [] h = h
  spans_drop (suc n) (s ∷ ss) h = spans_drop n ss h.1

  spans_get : (ss : List (List Item)) (i : ℕ) → EachSpan ss → Each (get_or ss i [])
  spans_get [] i h = tt
  spans_get (s ∷ ss) zero h = h.0
  spans_get (s ∷ ss) (suc i) h = spans_get ss i h.1

  spans_set : (ss : List (List Item)) (i : ℕ) (l : List Item) → EachSpan ss → Each l → EachSpan (set ss i l)
  spans_set [] i l h k = h
  spans_set (s ∷ ss) zero l h k = (k, h.1)
  spans_set (s ∷ ss) (suc i) l h k = (h.0, spans_set ss i l h.1 k)

  annotated : (f : ℕ → ℕ) (q : ℕ) (l : List Item) → Each l → EachEntry (annotate f q l)
  unfolding annotate
  annotated f q [] h = tt
  annotated f q (e ∷ l) h = (h.0, annotated f (suc q) l h.1)

  released_each : (P n : ℕ) (ss : List (List Item)) → EachSpan ss → EachEntry (released P n ss)
  unfolding released
  released_each P zero ss h = tt
  released_each P (suc n) [] h = tt
  released_each P (suc n) (s ∷ []) h = annotated (last_parallelism (length s)) 0 s h.0
  released_each P (suc n) (s ∷ (t ∷ ss)) h = entries_append (annotate (parallelism P (length s) (length t)) 0 s) (released P n (t ∷ ss))
      (annotated (parallelism P (length s) (length t)) 0 s h.0) (released_each P n (t ∷ ss) h.1)

  -- of what the window holds and of what the order has
  pub record Throughout (g : Guide) : Type 0 where
    pub in_order : EachEntry g.order
    pub in_spans : EachSpan g.spans

  -- releasing and placing keep it, where what is placed has it
  pub release_each : (P n : ℕ) (g : Guide) → Throughout g → Throughout (release P n g)
  unfolding release
  release_each P n g h =
      record {
        in_order = entries_append g.order (released P n g.spans) h.in_order (released_each P n g.spans h.in_spans);
        in_spans = spans_append (drop n g.spans) (replicate n []) (spans_drop n g.spans h.in_spans) (spans_empty n);
      }

  put_each : (i : ℕ) (e : Item) (g : Guide) → Φ e → Throughout g → Throughout (put i e g)
  unfolding put
  put_each i e g k h =
      record { in_order = h.in_order; in_spans = spans_set g.spans i _ h.in_spans (each_append (get_or g.spans i []) (e ∷ []) (spans_get g.spans i h.in_spans) (k, tt)) }

  settle_each : (P n : ℕ) (g : Guide) → Throughout g → Throughout (settle P n g)
  unfolding settle
  settle_each P n g h = go (bool_cases (leb P n))
    where
      go : (leb P n ≡ true) ⊎ (leb P n ≡ false) → Throughout (settle P n g)
      go (inl e) = rw (e, settle) (release_each P 1 g h)
      go (inr e) = rw (e, settle) h

  apply_each : (P : ℕ) (e : Item) (g : Guide) (c : Choice) → Φ e → Throughout g → Throughout (apply P e g c).guide
  unfolding apply
  apply_each P e g (existing i) k h = settle_each P _ (put i e g) (put_each i e g k h)
  apply_each P e g (opened n) k h = put_each 31 e (release P n g) k (release_each P n g h)

  pub place_each : (P : ℕ) (a : Option Loc) (e : Item) (g : Guide) → Φ e → Throughout g → Throughout (place P a e g).guide
  unfolding place
  place_each P a e g k h = apply_each P e g (choose P g a) k h

  pub fresh_each : Throughout fresh
  unfolding fresh
  fresh_each = record { in_order = tt; in_spans = spans_empty 32 }

  -- by index
  pub each_at : (l : List Item) (q : ℕ) → Each l → q < length l → Φ (get_or l q no_entry)
  each_at [] q h k = absurd (omega arith)
  each_at (e ∷ l) zero h k = h.0
  each_at (e ∷ l) (suc q) h k = each_at l q h.1 (omega arith)

  pub span_at : (ss : List (List Item)) (s q : ℕ) → EachSpan ss → q < len ss s → Φ (entry_at ss s q)
  unfolding entry_at
  span_at ss s q h k = each_at (get_or ss s []) q (spans_get ss s h) k

  pub order_entry : (l : List Entry) (j : ℕ) → EachEntry l → j < length l → Φ (get_or l j no_written).item
  order_entry [] j h k = absurd (omega arith)
  order_entry (x ∷ l) zero h k = h.0
  order_entry (x ∷ l) (suc j) h k = order_entry l j h.1 (omega arith)

module _ (Φ Ψ : Item → Type 0) (f : (e : Item) → Φ e → Ψ e) where
  each_map : (l : List Item) → Each Φ l → Each Ψ l
  each_map [] h = tt
  each_map (e ∷ l) h = (f e h.0, each_map l h.1)

  spans_map : (ss : List (List Item)) → EachSpan Φ ss → EachSpan Ψ ss
  spans_map [] h = tt
  spans_map (s ∷ ss) h = (each_map s h.0, spans_map ss h.1)

  entries_map : (l : List Entry) → EachEntry Φ l → EachEntry Ψ l
  entries_map [] h = tt
  entries_map (x ∷ l) h = (f x.item h.0, entries_map l h.1)

  throughout_map : (g : Guide) → Throughout Φ g → Throughout Ψ g
  throughout_map g h = record { in_order = entries_map g.order h.in_order; in_spans = spans_map g.spans h.in_spans }

-- an entry of a session with n accepted registrations
abbrev pub OfSession : ℕ → Item → Type 0
OfSession n e = (e.value ≡ e.added) × (e.accepted ≤ n)

-- an entry of an accepted registration, with its lane
abbrev pub LaneKept : Model → Item → Type 0
LaneKept k e = (e.added < length k.adds) × (e.lane ≡ (reg_of k e.added).lane)

-- the sentence
pub record Entries (N : ℕ) (k : Model) (st : List ℕ) : Type 0 where
  pub all : Throughout (OfSession (length k.adds)) k.guide
  pub lanes : Throughout (LaneKept k) k.guide
  pub rows_written : (x : ℕ) → In x k.recorded.written → x ≤ length k.guide.order
  pub places_few : k.recorded.places ≤ N

module _ (P N W : ℕ) (hP : 1 ≤ P) where
  more_adds : (k : Model) (n : ℕ) → length k.adds ≤ n → Throughout (OfSession (length k.adds)) k.guide → Throughout (OfSession n) k.guide
  more_adds k n h t = throughout_map (OfSession (length k.adds)) (OfSession n) (λ e x. (x.0, omega (arith, x.1))) k.guide t

  lanes_more : (a : Reg) (k : Model) → Throughout (LaneKept k) k.guide → Throughout (LaneKept (with_add a k)) k.guide
  unfolding with_add
  lanes_more a k t =
      throughout_map (LaneKept k) (LaneKept (with_add a k))
      (λ e x. (simp length-append (omega (arith, x.0)), x.1 ∙ ap (λ (g : Reg). g.lane) (sym (reg_of_old a k e.added x.0)))) k.guide t

  added : (a : Reg) (k : Model) (st : List ℕ) → Entries N k [] → Entries N (with_add a k) st
  unfolding with_add reg_of
  added a k st h =
      record { all = more_adds k _ (simp length-append (omega arith)) h.all; lanes = lanes_more a k h.lanes; rows_written = h.rows_written; places_few = h.places_few }

  -- every part of every call keeps it
  pub entries_kept : Kept P N W (Entries N)
  unfolding rest keep with_set place_one with_flush with_record flush_guide release reg_of
  entries_kept =
      record {
        placing = λ c r st k l v h.
            let e : Item = record { value = r; added = r; accepted = c; lane = (reg_of k r).lane } in
            let s = place_step P k.guide v.past e hP v.core v.later (after k.located (reg_of k r).ins) in
            record {
              all = place_each (OfSession (length k.adds)) P (after k.located (reg_of k r).ins) e k.guide (refl, l) h.all;
              lanes = place_each (LaneKept k) P (after k.located (reg_of k r).ins) e k.guide ((v.stack_ok r (Memᴰ.head refl)).0, refl) h.lanes;
              rows_written = λ x y. omega (arith, h.rows_written x y, ap length s.order_grows, length-append k.guide.order s.more);
              places_few = h.places_few;
            };
        setting = λ x k v a h. record { all = h.all; lanes = h.lanes; rows_written = h.rows_written; places_few = h.places_few };
        adding = λ lane ins outs k v a e h. added _ k _ h;
        delaying = λ lane ins outs k v a e h. let n = added _ k [] h in record { all = n.all; lanes = n.lanes; rows_written = n.rows_written; places_few = n.places_few };
        flushing = λ k v a h. flushed k h;
        closing = λ k v a h. flushed k h;
        recording = λ d k v n h. record { all = h.all; lanes = h.lanes; rows_written = λ x y. noted k h x (n.each x y); places_few = fixed k d h n.places_is };
      }
    where
      flushed : {f : ℕ} {c : Bool} (k : Model) → Entries N k [] → Entries N (with_flush P f c k) []
      flushed k h =
          record {
            all = release_each (OfSession (length k.adds)) P 32 k.guide h.all;
            lanes = release_each (LaneKept k) P 32 k.guide h.lanes;
            rows_written = λ x y. simp length-append (omega (arith, h.rows_written x y));
            places_few = h.places_few;
          }

      noted : (k : Model) → Entries N k [] → (x : ℕ) → In x k.recorded.written ⊎ (x ≡ length k.guide.order) → x ≤ length k.guide.order
      noted k h x (inl y) = h.rows_written x y
      noted k h x (inr y) = omega arith

      fixed : (k : Model) (d : Recorded) → Entries N k [] → (d.places ≡ k.recorded.places) ⊎ (d.places ≡ watermark N k) → d.places ≤ N
      fixed k d h (inl e) = omega (arith, h.places_few)
      fixed k d h (inr e) = omega (arith, watermark_le N k)

pub entries_initial : (N : ℕ) → Entries N initial []
unfolding initial reg_of
entries_initial N = record { all = fresh_each (OfSession 0); lanes = fresh_each (LaneKept initial); rows_written = λ x y. absurd (Memᴰ.not-nil y); places_few = omega arith }
