-- What opening promises of slices that a function takes one by one: the same as in Opened, said of the lists in them. Assumes nothing.
use Rattle.std.specs.Prelude.{◌≡◌, List, ℕ, ◌+◌, ◌≤◌}
use Rattle.std.proofs.Math.Path.{refl}
use Rattle.std.proofs.Common.{sym, subst, arith}
use Rattle.std.proofs.Math.ListN.{length}
use Rattle.rules.specs.Limits.{most_parallelism, most_places}
use Rattle.rules.specs.Checks.{verdict, waiting_needed, check_open}
use Rattle.rules.specs.Model.{initial}
use Rattle.records.specs.Filling.{row_extent}
use Rattle.zeros.specs.Zeros.{Cleared}
use Rattle.waiting.specs.Cleared.{Emptied}
use Rattle.session.specs.declared.Session.{Session}
use Rattle.placing.specs.Slices.{Borrowed}
use Rattle.session.specs.Storage.{Storage, storage}
use Rattle.session.specs.Rep.{Rep}
use Rattle.opening.specs.Opened.{sizes, first_session, Fresh, Opens, Enough, enough_of, fresh_rep, fresh_frame}

-- the lengths suffice for clearing
pub record Lengths (p v tally rows marks locations waiting : ℕ) : Type 0 where
  pub low_p : p ≤ most_parallelism
  pub low_v : v ≤ most_places
  pub tally_long : p + 1 ≤ tally
  pub rows_long : row_extent v ≤ rows
  pub marks_long : v ≤ marks
  pub locations_long : v ≤ locations
  pub waiting_long : waiting_needed v ≤ waiting

-- what clearing promises
pub record Clears (p v : ℕ) (t rs m l w t' rs' m' l' w' : List ℕ) : Type 0 where
  pub tally : Cleared 0 (p + 1) t t'
  pub rows : Cleared 0 (row_extent v) rs rs'
  pub marks : Cleared 0 v m m'
  pub locations : Cleared 0 v l l'
  pub waiting : Emptied v w w'

-- the same of a function's slices
abbrev pub ClearsOver : ℕ → ℕ → Borrowed → Borrowed → Borrowed → Borrowed → Borrowed → Type 0
ClearsOver p v tally rows marks locations waiting =
    Clears p v tally.entry.now rows.entry.now marks.entry.now locations.entry.now waiting.entry.now
    tally.exit.now rows.exit.now marks.exit.now locations.exit.now waiting.exit.now

pub lengths_of : (P N : ℕ) (sp o t rs m l w pool : List ℕ) → 0 ≡ verdict (check_open P N (sizes (storage sp o t rs m l w pool))) → Lengths P N (length t) (length rs) (length m) (length l) (length w)
lengths_of P N sp o t rs m l w pool e =
    let E = enough_of P N (storage sp o t rs m l w pool) e in
    record { low_p = E.few; low_v = E.small; tally_long = omega (arith, E.tally); rows_long = E.rows; marks_long = E.marks; locations_long = E.locations; waiting_long = E.waiting }

-- refused, and accepted
module _ (P N : ℕ) (sp o t rs m l w pool : List ℕ) where
  pub opens_refused : (n : ℕ) (s : Session) → n ≡ verdict (check_open P N (sizes (storage sp o t rs m l w pool))) → (n ≡ 0 → ⊥) → s ≡ first_session 0 0
      → Opens P N n s (storage sp o t rs m l w pool) (storage sp o t rs m l w pool)
  opens_refused n s e z es =
      record { number = e; refused = λ x. refl; unopened = λ x. es; session = λ x. absurd (z x); cleared = λ x. absurd (z x); rep = λ x. absurd (z x); frame = λ x. absurd (z x) }

  pub opens_done : (s : Session) (t' rs' m' l' w' : List ℕ) → 0 ≡ verdict (check_open P N (sizes (storage sp o t rs m l w pool))) → s ≡ first_session P N → Clears P N t rs m l w t' rs' m' l' w'
      → Opens P N 0 s (storage sp o t rs m l w pool) (storage sp o t' rs' m' l' w' pool)
  opens_done s t' rs' m' l' w' e es c =
      record {
        number = e;
        refused = λ x. absurd (x refl);
        unopened = λ x. absurd (x refl);
        session = λ x. es;
        cleared = λ x. F;
        rep = λ x. subst (λ (z : Session). Rep P N initial z (storage sp o t' rs' m' l' w' pool)) (sym es) (fresh_rep P N (storage sp o t rs m l w pool) (storage sp o t' rs' m' l' w' pool) E F);
        frame = λ x. fresh_frame P N (storage sp o t rs m l w pool) (storage sp o t' rs' m' l' w' pool) E F;
      }
    where
      E : Enough P N (storage sp o t rs m l w pool)
      E = enough_of P N (storage sp o t rs m l w pool) e

      F : Fresh P N (storage sp o t rs m l w pool) (storage sp o t' rs' m' l' w' pool)
      F =
          record {
            spans = refl;
            order = refl;
            tally = c.tally;
            rows = c.rows;
            marks = c.marks;
            locations = c.locations;
            waiting = c.waiting;
            pool = refl;
          }

-- what the work of an accepted opening promises: of every storage that passes the checks and has these slices, what opening promises
pub record Begins (P N : ℕ) (s : Session) (t rs m l w t' rs' m' l' w' : List ℕ) : Type 0 where
  pub opens : (sp o pool : List ℕ) → 0 ≡ verdict (check_open P N (sizes (storage sp o t rs m l w pool)))
      → Opens P N 0 s (storage sp o t rs m l w pool) (storage sp o t' rs' m' l' w' pool)

-- the same of a function's slices
abbrev pub BeginsOver : ℕ → ℕ → Session → Borrowed → Borrowed → Borrowed → Borrowed → Borrowed → Type 0
BeginsOver P N s tally rows marks locations waiting =
    Begins P N s tally.entry.now rows.entry.now marks.entry.now locations.entry.now waiting.entry.now
    tally.exit.now rows.exit.now marks.exit.now locations.exit.now waiting.exit.now

-- the same of a storage: with any spans, order and pool in place of its own
abbrev pub BeginsWithAny : ℕ → ℕ → Session → Storage → Storage → Type 0
BeginsWithAny P N s σ τ = Begins P N s σ.tally σ.rows σ.marks σ.locations σ.waiting τ.tally τ.rows τ.marks τ.locations τ.waiting

pub begins : {P N : ℕ} {s : Session} {t rs m l w t' rs' m' l' w' : List ℕ} → s ≡ first_session P N → Clears P N t rs m l w t' rs' m' l' w' → Begins P N s t rs m l w t' rs' m' l' w'
begins {P} {N} {s} {t} {rs} {m} {l} {w} {t'} {rs'} {m'} {l'} {w'} es c =
    record { opens = λ sp o pool e. opens_done P N sp o t rs m l w pool s t' rs' m' l' w' e es c }

-- what opening promises, of a function's slices and for every pool
abbrev pub OpensOver : ℕ → ℕ → ℕ → Session → List ℕ → List ℕ → Borrowed → Borrowed → Borrowed → Borrowed → Borrowed → Type 0
OpensOver P N n s spans order tally rows marks locations waiting =
    (pool : List ℕ)
    → Opens P N n s
    (storage spans order tally.entry.now rows.entry.now marks.entry.now locations.entry.now waiting.entry.now pool)
    (storage spans order tally.exit.now rows.exit.now marks.exit.now locations.exit.now waiting.exit.now pool)
