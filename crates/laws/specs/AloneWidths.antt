-- Every number of the guide alone fits the width that document 01 gives it, after every list of requests, P up to 64,999 and V up to
-- 16,777,216: 32 bits for span numbers, positions, order index and the counts, 16 for parallelism. Value, added and accepted are the
-- caller's: they fit 32 bits where the requests' do.
use mathlib.Core.List.{List, [], ◌∷◌, ◌++◌}
use Rattle.std.specs.Prelude.{true, false, ◌⊎◌, ◌≡◌, ℕ, ◌+◌, ◌≤◌, ◌<◌, length, get_or, eqb}
use Rattle.std.proofs.Common.{inl, inr, sym, ◌∙◌, arith}
use Rattle.std.proofs.Math.Option.{Option}
use Rattle.std.proofs.Math.Path.{ap}
use Rattle.std.proofs.Math.ListN.{replicate, length-append}
use Rattle.rules.specs.Limits.{most_parallelism, most_places, last_span_limit}
use Rattle.rules.specs.Guide.{Loc, Item, flush as flush_guide, place, tally}
use Rattle.rules.specs.Calls.{unless_refused}
use Rattle.rules.specs.Alone.{Alone, alone, Request, push, flush, location, reply, serve, serve_step, serve_all}
use Rattle.laws.specs.History.{len}
use Rattle.laws.specs.GuideInv.{len_append, len_grow_same}
use Rattle.laws.specs.Place.{place_step}
use Rattle.laws.specs.ModelBase.{bool_cases, in_range}
use Rattle.laws.specs.Order.{order_nth}
use Rattle.laws.specs.Tally.{tally_each}
use Rattle.laws.specs.Entries.{Throughout, place_each, release_each, fresh_each}
use Rattle.laws.specs.Alone.{AloneSound, alone_initial, alone_sound, alone_parallelisms}
use Rattle.laws.specs.Widths.{In32, In16, Item32, having_le}

-- the widths of document 01
pub record AloneWidths (P : ℕ) (a : Alone) : Type 0 where
  pub last_span : In32 (a.guide.first + 31)
  pub span_lengths : (i : ℕ) → In32 (len a.guide.spans i)
  pub order_index : (j : ℕ) → j ≤ length a.guide.order → In32 j
  pub parallelisms : (j : ℕ) → j < length a.guide.order → In16 (order_nth a.guide j).parallelism
  pub tally_counts : (p : ℕ) → In32 (get_or (tally P a.guide.order) p 0)
  pub pushes : In32 a.pushes
  -- no entry ever gets span 0: wherever the next is placed
  pub not_span_0 : (after : Option Loc) (e : Item) → 1 ≤ (location P after e a).span
  -- the location that the next push returns, where it is accepted
  pub locations : (after : Option Loc) (e : Item) → a.guide.first + 31 < last_span_limit → In32 (location P after e a).span × In32 (location P after e a).pos

module _ (P N : ℕ) (hP : 1 ≤ P) (tP : P ≤ most_parallelism) (hN : N ≤ most_places) (a : Alone) (s : AloneSound P N a) where
  next_fits : (after : Option Loc) (e : Item) → a.guide.first + 31 < last_span_limit → In32 (location P after e a).span × In32 (location P after e a).pos
  unfolding location
  next_fits after e h =
      let p = place P after e a.guide in
      let t = place_step P a.guide s.past e hP s.core s.later after in
      let wide = (s.past ++ a.guide.spans) ++ replicate t.fresh_spans [] in
      let one_more : len (t.past' ++ p.guide.spans) p.loc.span ≡ len wide p.loc.span + 1 = ap (λ (H : List (List Item)). len H p.loc.span) t.hist
      ∙ len_grow_same wide p.loc.span e t.fits in (
        omega (arith, in_range (t.past' ++ p.guide.spans) p.loc.span 0 (omega (arith, one_more)), length-append t.past' p.guide.spans, t.core.past_is, t.core.window_is, t.advances),
        omega (arith, t.pos_is, s.core.capped p.loc.span),
      )

  not_0 : (after : Option Loc) (e : Item) → 1 ≤ (location P after e a).span
  unfolding location
  not_0 after e = omega (arith, (place_step P a.guide s.past e hP s.core s.later after).not_first)

  pub alone_widths : AloneWidths P a
  alone_widths =
      record {
        last_span = s.low;
        span_lengths = λ i. omega (arith, sym (len_append s.past a.guide.spans i), s.core.capped (length s.past + i));
        order_index = λ j h. omega (arith, s.counted, s.few);
        parallelisms = λ j h. omega (arith, (alone_parallelisms P N hP a s j h).1);
        tally_counts = λ p. omega (arith, tally_each P a.guide.order (λ j h. (alone_parallelisms P N hP a s j h).1) p, having_le p a.guide.order, s.counted, s.few);
        pushes = omega (arith, s.few);
        not_span_0 = not_0;
        locations = next_fits;
      }

-- after every list of requests
pub alone_numbers_fit : (P N : ℕ) → 1 ≤ P → P ≤ most_parallelism → N ≤ most_places → (rs : List Request) → AloneWidths P (serve_all P N rs alone)
alone_numbers_fit P N hP tP hN rs = alone_widths P N hP tP hN (serve_all P N rs alone) (alone_sound P N hP rs alone (alone_initial P N hP))

-- what a request brings fits 32 bits
abbrev pub Brings32 : Request → Type 0
Brings32 (push after e) = Item32 e
Brings32 flush = Unit {0}

abbrev pub Each32 : List Request → Type 0
Each32 [] = Unit {0}
Each32 (r ∷ rs) = Brings32 r × Each32 rs

-- then so does all that the window and the order have
module _ (P N : ℕ) where
  serve_items : (r : Request) (a : Alone) → Brings32 r → Throughout Item32 a.guide → Throughout Item32 (serve P r a).guide
  unfolding serve flush_guide
  serve_items (push after e) a b t = place_each Item32 P after e a.guide b t
  serve_items flush a b t = release_each Item32 P 32 a.guide t

  step_items : (r : Request) (a : Alone) → Brings32 r → Throughout Item32 a.guide → Throughout Item32 (serve_step P N r a).guide
  unfolding serve_step unless_refused
  step_items r a b t = go (bool_cases (eqb (reply N r a) 0))
    where
      go : (eqb (reply N r a) 0 ≡ true) ⊎ (eqb (reply N r a) 0 ≡ false) → Throughout Item32 (serve_step P N r a).guide
      go (inl e) = rw (e, unless_refused) (serve_items r a b t)
      go (inr e) = rw (e, unless_refused) t

  all_items : (rs : List Request) (a : Alone) → Each32 rs → Throughout Item32 a.guide → Throughout Item32 (serve_all P N rs a).guide
  unfolding serve_all
  all_items [] a b t = t
  all_items (r ∷ rs) a b t = all_items rs (serve_step P N r a) b.1 (step_items r a b.0 t)

  pub alone_items_fit : (rs : List Request) → Each32 rs → Throughout Item32 (serve_all P N rs alone).guide
  unfolding alone
  alone_items_fit rs b = all_items rs alone b (fresh_each Item32)
