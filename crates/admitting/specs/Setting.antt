-- A set place: from what marking it leaves of marks and waiting storage, the session stands for the model with that place set, and what
-- comes off is on the stack; so the set is admitted. Assumes nothing.
use Rattle.std.specs.Prelude.{◌≡◌, refl, ℕ, ◌<◌, length}
use Rattle.std.proofs.Common.{sym, ◌∙◌, arith, length-set, get_or-set_other}
use Rattle.std.proofs.Math.Path.{ap, subst}
use mathlib.Core.List.{List, ◌∷◌}
use Rattle.rules.specs.Limits.{mark_set}
use Rattle.rules.specs.Record.{row_of}
use Rattle.rules.specs.Model.{Model, watermark as watermark_of, tracked, due, left, keep, off, rest, with_set, settle_all, do_set}
use Rattle.rules.specs.Checks.{taken, pooled}
use Rattle.rules.specs.Calls.{set as set_call, apply_call}
use Rattle.laws.specs.CascadeInv.{off_rest}
use Rattle.laws.specs.Accepted.{set_passed}
use Rattle.laws.specs.Sound.{sound_setting}
use Rattle.tracking.specs.Places.{Places as Tracking, places_set, run_is}
use Rattle.taken.specs.Flag.{with_flag, flag_length}
use Rattle.taken.specs.Flags.{Flags}
use Rattle.taken.specs.FlagLaws.{flags_set}
use Rattle.pool.specs.Lists.{Lists}
use Rattle.waiting.specs.Apart.{beyond_aside, lists_aside, flags_aside, beyond_flag, lists_flag}
use Rattle.registrar.specs.Delayed.{Delayed}
use Rattle.marking.specs.Marking.{Marking, Marks}
use Rattle.session.specs.declared.Session.{Session}
use Rattle.session.specs.Storage.{Storage, with_rows, with_marks, Frame, frame_refl}
use Rattle.session.specs.Settle.{Along}
use Rattle.session.specs.Rep.{RepSt, Rep}
use Rattle.session.specs.Noting.{noted_none}
use Rattle.admitting.specs.Told.{Told}
use Rattle.admitting.specs.Promise.{Asks, MayDo, Does, may_do, framed, positive}
use Rattle.admitting.specs.Numbers.{Number}
use Rattle.admitting.specs.Admitted.{counted, Places, Admits}
use Rattle.admitting.specs.Begun.{Begun, goal_reached, goal_frame, admits}

-- the session with another watermark
abbrev pub with_watermark : Session → ℕ → Session
with_watermark s watermark =
    record {
      guide = s.guide;
      watermark = watermark;
      added = s.added;
      used = s.used;
      delayed = s.delayed;
      flushes = s.flushes;
      closed = s.closed;
      registrations = s.registrations;
      places = s.places;
    }

module _ (P N : ℕ) (k : Model) (s : Session) (σ : Storage) (R : Rep P N k s σ) (x : ℕ) (hx : x < N) where
  -- what marking asks
  pub may_mark : Marking σ.marks σ.waiting N s.watermark x
  may_mark =
      record {
        inside = hx;
        long = R.core.tracked.places.marks_long;
        low = omega (arith, R.core.tracked.watermark_is, run_is N k σ.marks σ.locations R.core.tracked.places);
        pending = k.pending;
        delayed = R.delayed;
      }

  module _ (to top : ℕ) (m w : List ℕ) (lw : length w ≡ length σ.waiting) (M : Marks σ.marks σ.waiting N s.watermark x to top m w) where
    places' : Tracking N (x ∷ k.sets) k.located m σ.locations
    places' = rw M.marks_are (places_set N k.sets k.located σ.marks σ.locations x R.core.tracked.places)

    watermark_is' : to ≡ watermark_of N (with_set x k)
    unfolding with_set
    watermark_is' = M.watermark_is ∙ run_is N (with_set x k) m σ.locations places'

    flagged : length w ≡ length (with_flag σ.waiting N x 1)
    flagged = lw ∙ sym (flag_length σ.waiting N x 1)

    flags' : Flags N (taken (with_set x k)) w
    flags' = flags_aside M.aside flagged (flags_set N x k σ.waiting hx R.core.stored.flags)

    lists' : Lists N k.adds (pooled k.adds) w σ.pool
    lists' = lists_aside M.aside flagged (lists_flag σ.waiting 1 hx R.core.stored.lists)

    -- the model with x set, what comes off on the stack
    pub rep_set : RepSt P N (rest N (with_set x k)) (with_watermark s to) (with_marks σ m w) top (off N (with_set x k))
    unfolding rest keep with_set watermark_of tracked taken off row_of
    rep_set =
        record {
          core = record {
            guided = record { p_is = R.core.guided.p_is; v_is = R.core.guided.v_is; places = R.core.guided.places; stands = R.core.guided.stands; view_is = R.core.guided.view_is };
            rowed = record { long = R.core.rowed.long; rows = R.core.rowed.rows };
            tracked = record { places = places'; watermark_is = watermark_is' };
            stored = record { lists = lists'; flags = flags' };
          };
          counted = record {
            added_is = R.counted.added_is;
            used_is = R.counted.used_is;
            flushes_is = R.counted.flushes_is;
            closed_is = R.counted.closed_is;
            registrations_is = R.counted.registrations_is;
            places_is = R.counted.places_is;
          };
          delayed = subst (λ (z : ℕ). Delayed w N to (left z k.pending) top (due z k.pending)) watermark_is' (M.delayed k.pending R.delayed);
          delayed_is = omega (arith, R.delayed_is, off_rest N (with_set x k));
        }

    pub frame_set : (n : ℕ) → Frame P N n n σ (with_marks σ m w)
    frame_set n =
        let f = frame_refl P N n σ in
        record {
          grows = f.grows;
          spans = f.spans;
          order = f.order;
          before = f.before;
          tally = f.tally;
          rows = f.rows;
          marks = record { long = ap length M.marks_are ∙ length-set σ.marks x mark_set; same = λ j h. rw M.marks_are (get_or-set_other σ.marks x j mark_set 0 (omega arith)) };
          locations = f.locations;
          waiting = record { long = lw; same = λ j h. beyond_aside M.aside j h ∙ beyond_flag σ.waiting 1 hx j h };
          pool = refl;
        }

-- set's own part, u being V as an index
module _ (x : ℕ) (s : Session) (σ : Storage) (u : ℕ) (eu : u ≡ s.guide.v) where
  pub set_marks : MayDo (set_call x) s σ → Marking σ.marks σ.waiting u s.watermark x
  set_marks a =
      rw (eu ∙ a.rep.core.guided.v_is)
      (may_mark a.parallelism a.places a.model s σ a.rep x (set_passed a.places (length σ.pool) x a.model a.accepted).inside)

  module _ (to top : ℕ) (m w : List ℕ) (lw : length w ≡ length σ.waiting) (M : Marks σ.marks σ.waiting u s.watermark x to top m w) where
    -- what is admitted
    abbrev marked : Told
    marked = record { number = 0; watermark = to; added = s.added; used = s.used; delayed = s.delayed; top = top }

    module _ (a : MayDo (set_call x) s σ) where
      inside : x < a.places
      inside = (set_passed a.places (length σ.pool) x a.model a.accepted).inside

      here : Marks σ.marks σ.waiting a.places s.watermark x to top m w
      here = rw (eu ∙ a.rep.core.guided.v_is) at M

      set_along : Along a.parallelism a.places (length σ.pool) s.added (do_set a.parallelism a.places x a.model) (counted s marked) (with_marks σ m w) top
      unfolding do_set rest keep with_set
      set_along =
          record {
            j = rest a.places (with_set x a.model);
            st = off a.places (with_set x a.model);
            rep = rep_set a.parallelism a.places a.model s σ a.rep x inside to top m w lw here;
            sound = sound_setting a.parallelism a.places (length σ.pool) (positive a.parallelism a.places a.model s σ a.rep) x a.model a.accepted a.between.sound;
            ended = omega (arith, a.rep.counted.added_is);
            ends = ap (λ (c : ℕ). settle_all a.parallelism a.places c (off a.places (with_set x a.model)) (rest a.places (with_set x a.model))) a.rep.counted.added_is;
          }

      set_frame : Frame s.guide.p s.guide.v s.guide.written s.guide.written σ (with_marks σ m w)
      set_frame =
          framed a.parallelism a.places s.guide.written s.guide.written s σ (with_marks σ m w) a.rep.core.guided.p_is a.rep.core.guided.v_is
          (frame_set a.parallelism a.places a.model s σ a.rep x inside to top m w lw here s.guide.written)

    set_begun : MayDo (set_call x) s σ → Begun (set_call x) (λ P N k. do_set P N x k) s marked σ (with_marks σ m w)
    set_begun a = record { along = set_along; frame = set_frame a }

    set_does : MayDo (set_call x) s σ → (s' : Session) (υ : Storage) → Places s marked s' (with_marks σ m w) υ → Does (set_call x) s s' σ υ
    unfolding apply_call
    set_does a s' υ Q =
        let D = set_begun a in
        rw (Q.is ∙ ap (λ (rs : List ℕ). with_rows Q.settled rs) (noted_none s.added s.added s'.guide.written Q.settled.rows (omega arith)))
        (record {
          rep = λ P N k R B e. goal_reached _ _ s marked σ _ D s' Q.settled Q.settles (record { parallelism = P; places = N; model = k; rep = R; between = B; accepted = e });
          frame = goal_frame _ _ s marked σ _ D s' Q.settled Q.settles;
        })

    pub set_admits : (n : ℕ) → Number (set_call x) n s σ → n ≡ 0 → Asks s σ → Admits (set_call x) s marked σ (with_marks σ m w)
    set_admits n h z q = let a = may_do (set_call x) n s σ h z q in admits _ _ s marked σ _ (set_begun a) n h z refl q (set_does a)
