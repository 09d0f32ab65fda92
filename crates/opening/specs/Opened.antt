-- A fresh session over storage that was cleared where it must be: it stands for the model at the start (by Parts). What opening promises,
-- and the promise from the zeros. Assumes nothing.
use Rattle.std.specs.Prelude.{◌≡◌, List, false, ℕ, ◌+◌, ◌/◌, ◌≤◌, ◌<◌, ltb}
use Rattle.std.proofs.Math.Path.{refl}
use Rattle.std.proofs.Common.{sym, ap, subst, arith, ltb-false}
use Rattle.std.proofs.Math.ListN.{length}
use Rattle.rules.specs.Limits.{most_parallelism, most_places}
use Rattle.rules.specs.Checks.{pooled, verdict, any, Sizes, spans_needed, waiting_needed, check_open, check_range, too_short}
use Rattle.rules.specs.Model.{initial}
use Rattle.laws.specs.Accepted.{verdict_head, or_false}
use Rattle.pool.specs.ListLaws.{lists_open}
use Rattle.taken.specs.FlagLaws.{flags_open}
use Rattle.registrar.specs.Keeps.{delayed_open}
use Rattle.guide.specs.Fresh.{first_guide}
use Rattle.entries.specs.Entries.{entry_size, capacity, fits}
use Rattle.records.specs.Filling.{row_size, row_extent, row_capacity, rows_fit}
use Rattle.zeros.specs.Zeros.{Cleared}
use Rattle.waiting.specs.Cleared.{Emptied}
use Rattle.session.specs.declared.Session.{Session}
use Rattle.placing.specs.Slices.{Borrowed}
use Rattle.session.specs.Storage.{Storage, Frame, beyond_refl}
use Rattle.session.specs.Rep.{Rep}
use Rattle.opening.specs.Parts.{fresh_guided, fresh_rowed, fresh_tracked, cleared_beyond}

-- lengths of storage, in entries and rows where it holds those
abbrev pub sizes_of : ℕ → ℕ → ℕ → ℕ → ℕ → ℕ → ℕ → Sizes
sizes_of spans order tally rows marks locations waiting =
    record { spans = spans / entry_size; order = order / entry_size; rows = rows / row_size; marks = marks; locations = locations; waiting = waiting; tally = tally }

abbrev pub sizes : Storage → Sizes
sizes σ = sizes_of (length σ.spans) (length σ.order) (length σ.tally) (length σ.rows) (length σ.marks) (length σ.locations) (length σ.waiting)

-- a session just opened
abbrev pub first_session : ℕ → ℕ → Session
first_session P N =
    record { guide = first_guide P N; watermark = 0; added = 0; used = 0; delayed = 0; flushes = 0; closed = false; registrations = 0; places = 0 }

-- rows, places with their locations, and tally are zeros over the needed lengths, the waiting storage has no head and no flag, and all else
-- is as it was
pub record Fresh (P N : ℕ) (σ τ : Storage) : Type 0 where
  pub spans : τ.spans ≡ σ.spans
  pub order : τ.order ≡ σ.order
  pub tally : Cleared 0 (P + 1) σ.tally τ.tally
  pub rows : Cleared 0 (row_extent N) σ.rows τ.rows
  pub marks : Cleared 0 N σ.marks τ.marks
  pub locations : Cleared 0 N σ.locations τ.locations
  pub waiting : Emptied N σ.waiting τ.waiting
  pub pool : τ.pool ≡ σ.pool

-- what opening promises: its number is that of the checks; refused, it leaves the storage as it was, and the session is the fresh one of P 0
-- and V 0; accepted, the session is the fresh one of P and N and stands, with the storage, for the model at the start
pub record Opens (P N n : ℕ) (s : Session) (σ τ : Storage) : Type 0 where
  pub number : n ≡ verdict (check_open P N (sizes σ))
  pub refused : (n ≡ 0 → ⊥) → τ ≡ σ
  pub unopened : (n ≡ 0 → ⊥) → s ≡ first_session 0 0
  pub session : n ≡ 0 → s ≡ first_session P N
  pub cleared : n ≡ 0 → Fresh P N σ τ
  pub rep : n ≡ 0 → Rep P N initial s τ
  pub frame : n ≡ 0 → Frame P N 0 0 σ τ

-- what the checks tell
pub record Enough (P N : ℕ) (σ : Storage) : Type 0 where
  pub one : 1 ≤ P
  pub few : P ≤ most_parallelism
  pub places : 1 ≤ N
  pub small : N ≤ most_places
  pub spans : fits σ.spans (spans_needed P)
  pub order : fits σ.order N
  pub tally : P < length σ.tally
  pub rows : rows_fit σ.rows N
  pub marks : N ≤ length σ.marks
  pub locations : N ≤ length σ.locations
  pub waiting : waiting_needed N ≤ length σ.waiting

pub enough_of : (P N : ℕ) (σ : Storage) → 0 ≡ verdict (check_open P N (sizes σ)) → Enough P N σ
unfolding check_open check_range too_short any
enough_of P N σ e =
    let a = verdict_head _ _ (sym e) (omega arith) in
    let b = verdict_head _ _ a.1 (omega arith) in
    let c = verdict_head _ _ b.1 (omega arith) in
    let p = or_false (ltb P 1) (ltb most_parallelism P) a.0 in
    let v = or_false (ltb N 1) (ltb most_places N) b.0 in
    let d = or_false _ _ c.0 in
    let f = or_false _ _ d.1 in
    let g = or_false _ _ f.1 in
    let h = or_false _ _ g.1 in
    let i = or_false _ _ h.1 in
    let j = or_false _ _ i.1 in
    let k = or_false _ _ j.1 in
    record {
      one = ltb-false P 1 p.0;
      few = ltb-false most_parallelism P p.1;
      places = ltb-false N 1 v.0;
      small = ltb-false most_places N v.1;
      spans = omega (arith, ltb-false (capacity σ.spans) (spans_needed P) d.0);
      order = omega (arith, ltb-false (capacity σ.order) N f.0);
      tally = omega (arith, ltb-false (length σ.tally) (P + 1) k.0);
      rows = omega (arith, ltb-false (row_capacity σ.rows) N g.0);
      marks = ltb-false (length σ.marks) N h.0;
      locations = ltb-false (length σ.locations) N i.0;
      waiting = ltb-false (length σ.waiting) (waiting_needed N) j.0;
    }

module _ (P N : ℕ) (σ τ : Storage) (E : Enough P N σ) (F : Fresh P N σ τ) where
  pub fresh_rep : Rep P N initial (first_session P N) τ
  unfolding initial pooled
  fresh_rep =
      record {
        core = record {
          guided =
              fresh_guided P N σ.tally τ E.one E.few E.places E.small (rw F.spans E.spans) (rw F.order E.order) E.tally F.tally;
          rowed = fresh_rowed N σ.rows τ E.rows F.rows;
          tracked = fresh_tracked N σ.marks σ.locations τ E.marks E.locations F.marks F.locations;
          stored = record { lists = lists_open N τ.waiting τ.pool long; flags = flags_open N τ.waiting long F.waiting.flags };
        };
        counted = record { added_is = refl; used_is = refl; flushes_is = refl; closed_is = refl; registrations_is = refl; places_is = refl };
        delayed = delayed_open τ.waiting N long F.waiting.heads;
        delayed_is = refl;
      }
    where
      long : waiting_needed N ≤ length τ.waiting
      long = omega (arith, F.waiting.long, E.waiting)

  pub fresh_frame : Frame P N 0 0 σ τ
  fresh_frame =
      record {
        grows = omega arith;
        spans = rw F.spans (beyond_refl _ σ.spans);
        order = rw F.order (beyond_refl _ σ.order);
        before = λ j h. absurd (omega arith);
        tally = cleared_beyond (P + 1) σ.tally τ.tally F.tally;
        rows = cleared_beyond (row_extent N) σ.rows τ.rows F.rows;
        marks = cleared_beyond N σ.marks τ.marks F.marks;
        locations = cleared_beyond N σ.locations τ.locations F.locations;
        waiting = record { long = F.waiting.long; same = F.waiting.beyond };
        pool = ap length F.pool;
      }

-- the lengths suffice for clearing: those that either profile has, and with the waiting storage
pub record PlaceLengths (p v tally rows marks locations : ℕ) : Type 0 where
  pub low_p : p ≤ most_parallelism
  pub low_v : v ≤ most_places
  pub tally_long : p + 1 ≤ tally
  pub rows_long : row_extent v ≤ rows
  pub marks_long : v ≤ marks
  pub locations_long : v ≤ locations

pub record Lengths (p v : ℕ) (σ : Storage) : Type 0 where
  pub places : PlaceLengths p v (length σ.tally) (length σ.rows) (length σ.marks) (length σ.locations)
  pub waiting_long : waiting_needed v ≤ length σ.waiting

pub lengths_of : (P N : ℕ) (σ : Storage) → 0 ≡ verdict (check_open P N (sizes σ)) → Lengths P N σ
lengths_of P N σ e =
    let E = enough_of P N σ e in
    record {
      places = record { low_p = E.few; low_v = E.small; tally_long = omega (arith, E.tally); rows_long = E.rows; marks_long = E.marks; locations_long = E.locations };
      waiting_long = E.waiting;
    }

-- what clearing promises
pub record Clears (p v : ℕ) (t rs m l t' rs' m' l' : List ℕ) : Type 0 where
  pub tally : Cleared 0 (p + 1) t t'
  pub rows : Cleared 0 (row_extent v) rs rs'
  pub marks : Cleared 0 v m m'
  pub locations : Cleared 0 v l l'

-- the same of a function's slices
abbrev pub ClearsOver : ℕ → ℕ → Borrowed → Borrowed → Borrowed → Borrowed → Type 0
ClearsOver p v tally rows marks locations =
    Clears p v tally.entry.now rows.entry.now marks.entry.now locations.entry.now
    tally.exit.now rows.exit.now marks.exit.now locations.exit.now

-- what opening leaves alone
pub record Kept (σ τ : Storage) : Type 0 where
  pub spans : τ.spans ≡ σ.spans
  pub order : τ.order ≡ σ.order
  pub pool : τ.pool ≡ σ.pool

-- refused
pub opens_refused : (P N n : ℕ) (σ : Storage) → n ≡ verdict (check_open P N (sizes σ)) → (n ≡ 0 → ⊥) → Opens P N n (first_session 0 0) σ σ
opens_refused P N n σ e z =
    record { number = e; refused = λ x. refl; unopened = λ x. refl; session = λ x. absurd (z x); cleared = λ x. absurd (z x); rep = λ x. absurd (z x); frame = λ x. absurd (z x) }

-- what the work of an accepted opening promises: of storage that passes the checks, what opening promises
pub record Begins (P N : ℕ) (s : Session) (σ τ : Storage) : Type 0 where
  pub opens : 0 ≡ verdict (check_open P N (sizes σ)) → Opens P N 0 s σ τ

pub begins : (P N : ℕ) (s : Session) (σ τ : Storage) → s ≡ first_session P N → Fresh P N σ τ → Begins P N s σ τ
begins P N s σ τ es F =
    record {
      opens = λ e.
          record {
            number = e;
            refused = λ x. absurd (x refl);
            unopened = λ x. absurd (x refl);
            session = λ x. es;
            cleared = λ x. F;
            rep = λ x. subst (λ (z : Session). Rep P N initial z τ) (sym es) (fresh_rep P N σ τ (enough_of P N σ e) F);
            frame = λ x. fresh_frame P N σ τ (enough_of P N σ e) F;
          };
    }
