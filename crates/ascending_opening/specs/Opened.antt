-- A fresh session under the ascending profile over storage that was cleared where it must be: it stands for the model at the start. What
-- opening promises, and the promise from the zeros, as in opening/Opened but for the waiting storage. Assumes nothing.
use Rattle.std.specs.Prelude.{◌≡◌, List, false, ℕ, ◌+◌, ◌≤◌, ◌<◌, length, replicate}
use Rattle.std.proofs.Math.Path.{refl}
use Rattle.std.proofs.Common.{sym, ap, ◌∙◌, subst, arith}
use Rattle.std.proofs.lemmas.List.{length-replicate}
use Rattle.rules.specs.Limits.{most_parallelism, most_places}
use Rattle.rules.specs.Checks.{pooled, verdict, spans_needed, waiting_needed}
use Rattle.rules.specs.Ascending.{check_open}
use Rattle.rules.specs.Model.{initial}
use Rattle.guide.specs.Fresh.{first_guide}
use Rattle.entries.specs.Entries.{fits}
use Rattle.records.specs.Filling.{row_extent, rows_fit}
use Rattle.zeros.specs.Zeros.{Cleared}
use Rattle.session.specs.Storage.{Storage, with_waiting, Frame, beyond_refl}
use Rattle.opening.specs.Parts.{fresh_guided, fresh_rowed, fresh_tracked, cleared_beyond}
use Rattle.opening.specs.Opened.{sizes, PlaceLengths, enough_of as every_enough}
use Rattle.ascending_session.specs.declared.Ascending.{Ascending}
use Rattle.ascending_session.specs.Rep.{Rep}
use Rattle.ascending_opening.specs.Refusal.{open_as_ever}

-- a session just opened, which takes W list numbers in all
abbrev pub first_session : ℕ → ℕ → ℕ → Ascending
first_session P N W =
    record { guide = first_guide P N; lowest = 0; added = 0; used = 0; room = W; flushes = 0; closed = false; registrations = 0; places = 0 }

-- rows, places with their locations, and tally are zeros over the needed lengths, and all else is as it was
pub record Fresh (P N : ℕ) (σ τ : Storage) : Type 0 where
  pub spans : τ.spans ≡ σ.spans
  pub order : τ.order ≡ σ.order
  pub tally : Cleared 0 (P + 1) σ.tally τ.tally
  pub rows : Cleared 0 (row_extent N) σ.rows τ.rows
  pub marks : Cleared 0 N σ.marks τ.marks
  pub locations : Cleared 0 N σ.locations τ.locations
  pub waiting : τ.waiting ≡ σ.waiting
  pub pool : τ.pool ≡ σ.pool

-- what opening promises: its number is that of the checks; refused, it leaves the storage as it was, and the session is the fresh one of P 0,
-- V 0 and W 0; accepted, the session is the fresh one of P, N and W and stands, with the storage, for the model at the start
pub record Opens (P N W n : ℕ) (s : Ascending) (σ τ : Storage) : Type 0 where
  pub number : n ≡ verdict (check_open P N (sizes σ))
  pub refused : (n ≡ 0 → ⊥) → τ ≡ σ
  pub unopened : (n ≡ 0 → ⊥) → s ≡ first_session 0 0 0
  pub session : n ≡ 0 → s ≡ first_session P N W
  pub cleared : n ≡ 0 → Fresh P N σ τ
  pub rep : n ≡ 0 → Rep P N W initial s τ
  pub frame : n ≡ 0 → Frame P N 0 0 σ τ

-- what the checks tell
pub record Enough (P N : ℕ) (σ : Storage) : Type 0 where
  pub one : 1 ≤ P
  pub few : P ≤ most_parallelism
  pub places : 1 ≤ N
  pub small : N ≤ most_places
  pub spans : fits σ.spans (spans_needed P)
  pub order : fits σ.order N
  pub tally : P < length σ.tally
  pub rows : rows_fit σ.rows N
  pub marks : N ≤ length σ.marks
  pub locations : N ≤ length σ.locations

-- as with waiting storage that suffices
pub enough_of : (P N : ℕ) (σ : Storage) → 0 ≡ verdict (check_open P N (sizes σ)) → Enough P N σ
enough_of P N σ e =
    let w : List ℕ = replicate (waiting_needed N) 0 in
    let E = every_enough P N (with_waiting σ w) (rw (length-replicate {A = ℕ} (waiting_needed N) 0) (e ∙ open_as_ever P N (sizes σ))) in
    record {
      one = E.one;
      few = E.few;
      places = E.places;
      small = E.small;
      spans = E.spans;
      order = E.order;
      tally = E.tally;
      rows = E.rows;
      marks = E.marks;
      locations = E.locations;
    }

module _ (P N W : ℕ) (σ τ : Storage) (E : Enough P N σ) (F : Fresh P N σ τ) where
  pub fresh_rep : Rep P N W initial (first_session P N W) τ
  unfolding initial pooled
  fresh_rep =
      record {
        base = record {
          guided =
              fresh_guided P N σ.tally τ E.one E.few E.places E.small (rw F.spans E.spans) (rw F.order E.order) E.tally F.tally;
          rowed = fresh_rowed N σ.rows τ E.rows F.rows;
          tracked = fresh_tracked N σ.marks σ.locations τ E.marks E.locations F.marks F.locations;
        };
        counted = record { added_is = refl; used_is = refl; room_is = refl; flushes_is = refl; closed_is = refl; registrations_is = refl; places_is = refl };
      }

  pub fresh_frame : Frame P N 0 0 σ τ
  fresh_frame =
      record {
        grows = omega arith;
        spans = rw F.spans (beyond_refl _ σ.spans);
        order = rw F.order (beyond_refl _ σ.order);
        before = λ j h. absurd (omega arith);
        tally = cleared_beyond (P + 1) σ.tally τ.tally F.tally;
        rows = cleared_beyond (row_extent N) σ.rows τ.rows F.rows;
        marks = cleared_beyond N σ.marks τ.marks F.marks;
        locations = cleared_beyond N σ.locations τ.locations F.locations;
        waiting = rw F.waiting (beyond_refl _ σ.waiting);
        pool = ap length F.pool;
      }

-- the lengths suffice for clearing
abbrev pub Lengths : ℕ → ℕ → Storage → Type 0
Lengths p v σ = PlaceLengths p v (length σ.tally) (length σ.rows) (length σ.marks) (length σ.locations)

pub lengths_of : (P N : ℕ) (σ : Storage) → 0 ≡ verdict (check_open P N (sizes σ)) → Lengths P N σ
lengths_of P N σ e =
    let E = enough_of P N σ e in
    record { low_p = E.few; low_v = E.small; tally_long = omega (arith, E.tally); rows_long = E.rows; marks_long = E.marks; locations_long = E.locations }

-- refused
pub opens_refused : (P N W n : ℕ) (σ : Storage) → n ≡ verdict (check_open P N (sizes σ)) → (n ≡ 0 → ⊥) → Opens P N W n (first_session 0 0 0) σ σ
opens_refused P N W n σ e z =
    record { number = e; refused = λ x. refl; unopened = λ x. refl; session = λ x. absurd (z x); cleared = λ x. absurd (z x); rep = λ x. absurd (z x); frame = λ x. absurd (z x) }

-- what the work of an accepted opening promises: of storage that passes the checks, what opening promises
pub record Begins (P N W : ℕ) (s : Ascending) (σ τ : Storage) : Type 0 where
  pub opens : 0 ≡ verdict (check_open P N (sizes σ)) → Opens P N W 0 s σ τ

pub begins : (P N W : ℕ) (s : Ascending) (σ τ : Storage) → s ≡ first_session P N W → Fresh P N σ τ → Begins P N W s σ τ
begins P N W s σ τ es F =
    record {
      opens = λ e.
          record {
            number = e;
            refused = λ x. absurd (x refl);
            unopened = λ x. absurd (x refl);
            session = λ x. es;
            cleared = λ x. F;
            rep = λ x. subst (λ (z : Ascending). Rep P N W initial z τ) (sym es) (fresh_rep P N W σ τ (enough_of P N σ e) F);
            frame = λ x. fresh_frame P N W σ τ (enough_of P N σ e) F;
          };
    }
