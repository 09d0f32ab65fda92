-- Every number of a session fits the width that document 01 gives it: 32 bits for span numbers, positions, value, added, accepted,
-- written and order index, and for the counts; 16 bits for parallelism, plain flushes and the lengths of lists; 8 for a lane
-- (document 02, M-104), and 40 for where lists start in the pool. For every list of calls, P up to 64,999 and V up to 16,777,216.
use Rattle.std.specs.Prelude.{◌≡◌, List, [], ◌∷◌, Bool, true, false, ◌⊎◌, ℕ, ◌+◌, ◌^◌, ◌≤◌, ◌<◌, length, get_or}
use Rattle.std.proofs.Common.{inl, inr, arith}
use Rattle.std.proofs.Math.Option.{Option}
use Rattle.rules.specs.Limits.{most_parallelism, most_places}
use Rattle.rules.specs.Guide.{Loc, Item, Entry, place, tally}
use Rattle.rules.specs.Model.{Model, marked, loc_of, reg_of, watermark, initial, registrations as registered}
use Rattle.rules.specs.Checks.{pooled}
use Rattle.rules.specs.Calls.{Call, run}
use Rattle.laws.specs.History.{len}
use Rattle.laws.specs.ModelBase.{In, bool_cases, entry_at, loc_of_none}
use Rattle.laws.specs.Place.{place_step}
use Rattle.laws.specs.Once.{one_le}
use Rattle.laws.specs.Order.{nth, written}
use Rattle.laws.specs.Tally.{having, tally_each}
use Rattle.laws.specs.Entries.{OfSession, LaneKept, order_entry, span_at}
use Rattle.laws.specs.Sound.{Sound, sound}
use Rattle.laws.specs.ListStarts.{start_few}
use Rattle.laws.specs.Placeable.{Fits, fits_of, located_span}

-- fits 32 bits, 16 bits, 8 bits
abbrev pub In32 : ℕ → Type 0
In32 n = n < 2 ^ 32

abbrev pub In16 : ℕ → Type 0
In16 n = n < 2 ^ 16

abbrev pub In8 : ℕ → Type 0
In8 n = n < 2 ^ 8

-- an entry's value, added and accepted
abbrev pub Item32 : Item → Type 0
Item32 e = In32 e.value × In32 e.added × In32 e.accepted

-- the widths of document 01
pub record Widths (P N : ℕ) (k : Model) : Type 0 where
  pub last_span : In32 (k.guide.first + 31)
  pub span_numbers : (x : ℕ) → In32 (loc_of k.located x).span
  -- no entry ever gets span 0: wherever the next is placed
  pub not_span_0 : (after : Option Loc) (e : Item) → 1 ≤ (place P after e k.guide).loc.span
  pub positions : (x : ℕ) → In32 (loc_of k.located x).pos
  pub span_lengths : (i : ℕ) → In32 (len k.guide.spans i)
  pub order_index : (j : ℕ) → j ≤ written k → In32 j
  pub order_items : (j : ℕ) → j < written k → Item32 (nth k j).item
  pub held_items : (s q : ℕ) → q < len k.guide.spans s → Item32 (entry_at k.guide.spans s q)
  pub parallelisms : (j : ℕ) → j < written k → In16 (nth k j).parallelism
  pub rows_written : (x : ℕ) → In x k.recorded.written → In32 x
  pub tally_counts : (p : ℕ) → In32 (get_or (tally P k.guide.order) p 0)
  pub registrations : In32 (length k.adds)
  pub watermark_fits : In32 (watermark N k)
  pub fixed : In32 (registered k) × In32 k.recorded.places
  pub flushes : In16 k.flushes
  pub lists : (r : ℕ) → In16 (length (reg_of k r).ins) × In16 (length (reg_of k r).outs)
  -- the lanes of registrations, of the order's entries and of held ones
  pub lanes : (r : ℕ) → In8 (reg_of k r).lane
  pub order_lanes : (j : ℕ) → j < written k → In8 (nth k j).item.lane
  pub held_lanes : (s q : ℕ) → q < len k.guide.spans s → In8 (entry_at k.guide.spans s q).lane
  -- where the lists of one more registration start
  pub list_start : length k.adds < N → pooled k.adds < 2 ^ 40

pub having_le : (p : ℕ) (l : List Entry) → having p l ≤ length l
unfolding having
having_le p [] = omega arith
having_le p (x ∷ l) = omega (arith, having_le p l, one_le p x.parallelism)

module _ (P N W : ℕ) (hP : 1 ≤ P) (tP : P ≤ most_parallelism) (hN : N ≤ most_places) (k : Model) (st : List ℕ) (s : Sound P N W k st) where
  f : Fits P N k
  f = fits_of P N W hP k st s hN

  low_position : (x : ℕ) → In32 (loc_of k.located x).pos
  low_position x = go (bool_cases (marked x k.located))
    where
      go : (marked x k.located ≡ true) ⊎ (marked x k.located ≡ false) → In32 (loc_of k.located x).pos
      go (inl e) = omega (arith, (s.inv.located_ok x e).0, s.inv.core.capped (loc_of k.located x).span)
      go (inr e) = omega (arith, (loc_of_none k.located x e).1)

  low_registered : (b : Bool) → In32 (elim b [ true ↦ length k.adds | false ↦ 0 ])
  low_registered true = omega (arith, f.many)
  low_registered false = omega arith

  item_fits : (e : Item) → e.added < length k.adds → OfSession (length k.adds) e → Item32 e
  item_fits e h o = (omega (arith, f.many, o.0), omega (arith, f.many), omega (arith, f.many, o.1))

  lane_fits : (r : ℕ) → In8 (reg_of k r).lane
  lane_fits r = omega (arith, (s.inside.lists r).lane_few)

  own_lane : (e : Item) → LaneKept k e → In8 e.lane
  own_lane e x = omega (arith, x.1, lane_fits e.added)

  -- a sound model's numbers have them
  pub widths : Widths P N k
  widths =
      record {
        last_span = omega (arith, f.low);
        span_numbers = λ x. omega (arith, located_span P N W hP k st s x, f.low);
        not_span_0 = λ after e. omega (arith, (place_step P k.guide s.inv.past e hP s.inv.core s.inv.later after).not_first);
        positions = low_position;
        span_lengths = λ i. omega (arith, f.capped i);
        order_index = λ j h. omega (arith, f.room, f.many);
        order_items = λ j h. item_fits (nth k j).item (f.order_known j h) (order_entry (OfSession (length k.adds)) k.guide.order j s.entries.all.in_order h);
        held_items = λ i q h. item_fits (entry_at k.guide.spans i q) (f.held_known i q h) (span_at (OfSession (length k.adds)) k.guide.spans i q s.entries.all.in_spans h);
        parallelisms = λ j h. omega (arith, (f.parallelisms j h).1);
        rows_written = λ x h. omega (arith, s.entries.rows_written x h, f.room, f.many);
        tally_counts = λ p. omega (arith, tally_each P k.guide.order (λ j h. (f.parallelisms j h).1) p, having_le p k.guide.order, f.room, f.many);
        registrations = omega (arith, f.many);
        watermark_fits = omega (arith, f.watermark_low);
        fixed = (low_registered k.closed, omega (arith, s.entries.places_few));
        flushes = omega (arith, s.limits.few);
        lists = λ r. (omega (arith, (s.inside.lists r).ins_few), omega (arith, (s.inside.lists r).outs_few));
        lanes = lane_fits;
        order_lanes = λ j h. own_lane (nth k j).item (order_entry (LaneKept k) k.guide.order j s.entries.lanes.in_order h);
        held_lanes = λ i q h. own_lane (entry_at k.guide.spans i q) (span_at (LaneKept k) k.guide.spans i q s.entries.lanes.in_spans h);
        list_start = start_few P N W k st s hN;
      }

-- after every list of calls
pub numbers_fit : (P N W : ℕ) → 1 ≤ P → P ≤ most_parallelism → N ≤ most_places → (calls : List Call) → Widths P N (run P N W calls initial)
numbers_fit P N W hP tP hN calls = widths P N W hP tP hN (run P N W calls initial) [] (sound P N W hP calls)
