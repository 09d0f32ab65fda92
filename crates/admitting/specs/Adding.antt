-- An accepted add: from what storing its lists and flags leaves, the session stands for the model with that registration, which is still
-- to be put on the stack or to join those that wait. Assumes nothing.
use Rattle.std.specs.Prelude.{◌≡◌, refl, ℕ, ◌+◌, ◌<◌}
use Rattle.std.proofs.Common.{◌∙◌, subst, arith}
use mathlib.Core.List.Memᴰ
use mathlib.Core.List.{List, [], ◌∷◌, ◌++◌}
use Rattle.std.proofs.Math.ListN.{length, length-append}
use Rattle.rules.specs.Record.{row_of}
use Rattle.rules.specs.Model.{Reg, Model, watermark as watermark_of, tracked, with_add}
use Rattle.rules.specs.Checks.{taken, pooled}
use Rattle.laws.specs.Accepted.{AddPassed}
use Rattle.laws.specs.Limits.{AllBelow}
use Rattle.lists.specs.Part.{Below, below_at}
use Rattle.taken.specs.Flags.{Flags, claimed}
use Rattle.taken.specs.FlagLaws.{flags_add, claimed_length}
use Rattle.pool.specs.Lists.{start_limit, Lists, stored}
use Rattle.pool.specs.ListLaws.{lists_add, stored_length, cell_length}
use Rattle.registrar.specs.Delayed.{Delayed}
use Rattle.waiting.specs.Apart.{lists_claimed, delayed_claimed, beyond_claimed, flags_cell, delayed_cell, beyond_cell}
use Rattle.entering.specs.Entering.{entered_waiting, entered_pool, Storing}
use Rattle.session.specs.declared.Session.{Session}
use Rattle.session.specs.Storage.{Storage, with_lists, Frame, frame_refl}
use Rattle.session.specs.Rep.{Counted, Core, Rep}

-- all but the stack, and one registration more than those that wait is still to be placed or delayed
pub record Unplaced (P N : ℕ) (k : Model) (s : Session) (σ : Storage) : Type 0 where
  pub core : Core P N k s.guide s.watermark σ
  pub counted : Counted k s
  pub delayed : Delayed σ.waiting N s.watermark k.pending 0 []
  pub delayed_is : s.delayed ≡ 1 + length k.pending

-- the session with one registration more
abbrev pub with_added : Session → ℕ → Session
with_added s n =
    record {
      guide = s.guide;
      watermark = s.watermark;
      added = s.added + 1;
      used = s.used + n;
      delayed = s.delayed + 1;
      flushes = s.flushes;
      closed = s.closed;
      registrations = s.registrations;
      places = s.places;
    }

module _ (P N : ℕ) (k : Model) (s : Session) (σ : Storage) (R : Rep P N k s σ) (lane : ℕ) (ins outs : List ℕ) (A : AddPassed N (length σ.pool) lane ins outs k) where
  abbrev a : Reg
  a = record { lane = lane; ins = ins; outs = outs }

  abbrev r : ℕ
  r = length k.adds

  abbrev w : List ℕ
  w = entered_waiting σ.waiting N r (pooled k.adds) lane ins outs

  abbrev pool : List ℕ
  pool = entered_pool σ.pool (pooled k.adds) ins outs

  all_below : (xs : List ℕ) → AllBelow N xs → Below N xs
  unfolding Below
  all_below [] h = tt
  all_below (x ∷ xs) h = (h x (Memᴰ.head refl), all_below xs (λ i y. h i (Memᴰ.tail y)))

  below : Below N outs
  below = all_below outs A.outs_inside

  pub may_enter : pooled k.adds < start_limit → Storing σ.waiting σ.pool N r (pooled k.adds) lane ins outs
  may_enter low =
      record {
        inside = A.more;
        long = R.delayed.long;
        small = low;
        low = omega (arith, A.lane_few);
        few = omega (arith, A.ins_few);
        room = A.room;
        ins_fit = λ j h. omega (arith, below_at N ins (all_below ins A.ins_inside) j h, R.core.guided.stands.small, R.core.guided.v_is);
        outs_fit = λ j h. omega (arith, below_at N outs below j h, R.core.guided.stands.small, R.core.guided.v_is);
      }

  -- the waiting storage with the outputs flagged
  abbrev flagged : List ℕ
  flagged = claimed σ.waiting N outs

  entered : Lists N (k.adds ++ (a ∷ [])) (pooled k.adds + length ins + length outs) w pool
  unfolding entered_waiting entered_pool
  entered = lists_add N k.adds (pooled k.adds) flagged σ.pool (lists_claimed outs below R.core.stored.lists) a A.more A.room A.lane_few A.ins_few

  lists' : Lists N (k.adds ++ (a ∷ [])) (pooled (k.adds ++ (a ∷ []))) w pool
  lists' = subst (λ (u : ℕ). Lists N (k.adds ++ (a ∷ [])) u w pool) entered.used_is entered

  flags' : Flags N (taken (with_add a k)) w
  unfolding entered_waiting
  flags' = flags_cell flagged (pooled k.adds) (length ins) lane A.more (flags_add N a k σ.waiting below R.core.stored.flags)

  entered_delayed : Delayed w N s.watermark k.pending 0 []
  unfolding entered_waiting
  entered_delayed = delayed_cell flagged (pooled k.adds) (length ins) lane A.more (delayed_claimed outs below R.delayed)

  counted_add : Counted (with_add a k) (with_added s (length ins + length outs))
  unfolding with_add
  counted_add =
      record {
        added_is = omega (arith, R.counted.added_is, length-append k.adds (a ∷ []));
        used_is = omega (arith, R.counted.used_is, entered.used_is);
        flushes_is = R.counted.flushes_is;
        closed_is = R.counted.closed_is;
        registrations_is = rw A.not_closed (rw A.not_closed at R.counted.registrations_is);
        places_is = R.counted.places_is;
      }

  -- its lists are stored; it is neither on the stack nor waiting yet
  pub entered_rep : Unplaced P N (with_add a k) (with_added s (length ins + length outs)) (with_lists σ w pool)
  unfolding with_add watermark_of tracked row_of
  entered_rep =
      record {
        core = record {
          guided = record { p_is = R.core.guided.p_is; v_is = R.core.guided.v_is; places = R.core.guided.places; stands = R.core.guided.stands; view_is = R.core.guided.view_is };
          rowed = record { long = R.core.rowed.long; rows = R.core.rowed.rows };
          tracked = record { places = R.core.tracked.places; watermark_is = R.core.tracked.watermark_is };
          stored = record { lists = lists'; flags = flags' };
        };
        counted = counted_add;
        delayed = entered_delayed;
        delayed_is = omega (arith, R.delayed_is);
      }

  pub frame_entered : (n : ℕ) → Frame P N n n σ (with_lists σ w pool)
  unfolding entered_waiting entered_pool
  frame_entered n =
      let f = frame_refl P N n σ in
      let q = stored_length σ.pool (pooled k.adds) ins (omega (arith, A.room)) in
      record {
        grows = f.grows;
        spans = f.spans;
        order = f.order;
        before = f.before;
        tally = f.tally;
        rows = f.rows;
        marks = f.marks;
        locations = f.locations;
        waiting = record {
          long = cell_length flagged N r (pooled k.adds) (length ins) lane ∙ claimed_length σ.waiting N outs;
          same = λ j h. beyond_cell flagged (pooled k.adds) (length ins) lane A.more j h ∙ beyond_claimed σ.waiting N outs below j h;
        };
        pool = stored_length (stored σ.pool (pooled k.adds) ins) (pooled k.adds + length ins) outs (omega (arith, A.room)) ∙ q;
      }
