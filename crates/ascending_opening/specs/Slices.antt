-- What opening promises of slices that a function takes one by one: the same as in Opened, said of the lists in them. Assumes nothing.
use Rattle.std.specs.Prelude.{◌≡◌, List, ℕ, ◌+◌, ◌≤◌, length}
use Rattle.std.proofs.Math.Path.{refl}
use Rattle.std.proofs.Common.{sym, subst, arith}
use Rattle.rules.specs.Limits.{most_parallelism, most_places}
use Rattle.rules.specs.Checks.{verdict}
use Rattle.rules.specs.Ascending.{check_open}
use Rattle.rules.specs.Model.{initial}
use Rattle.records.specs.Filling.{row_extent}
use Rattle.zeros.specs.Zeros.{Cleared}
use Rattle.placing.specs.Slices.{Borrowed}
use Rattle.session.specs.Storage.{Storage}
use Rattle.opening.specs.Opened.{sizes}
use Rattle.ascending_session.specs.declared.Ascending.{Ascending}
use Rattle.ascending_session.specs.Slices.{lean}
use Rattle.ascending_session.specs.Rep.{Rep}
use Rattle.ascending_opening.specs.Opened.{first_session, Fresh, Opens, Enough, enough_of, fresh_rep, fresh_frame}

-- the lengths suffice for clearing
pub record Lengths (p v tally rows marks locations : ℕ) : Type 0 where
  pub low_p : p ≤ most_parallelism
  pub low_v : v ≤ most_places
  pub tally_long : p + 1 ≤ tally
  pub rows_long : row_extent v ≤ rows
  pub marks_long : v ≤ marks
  pub locations_long : v ≤ locations

pub lengths_of : (P N : ℕ) (sp o t rs m l : List ℕ) → 0 ≡ verdict (check_open P N (sizes (lean sp o t rs m l))) → Lengths P N (length t) (length rs) (length m) (length l)
lengths_of P N sp o t rs m l e =
    let E = enough_of P N (lean sp o t rs m l) e in
    record { low_p = E.few; low_v = E.small; tally_long = omega (arith, E.tally); rows_long = E.rows; marks_long = E.marks; locations_long = E.locations }

-- what clearing promises
pub record Clears (p v : ℕ) (t rs m l t' rs' m' l' : List ℕ) : Type 0 where
  pub tally : Cleared 0 (p + 1) t t'
  pub rows : Cleared 0 (row_extent v) rs rs'
  pub marks : Cleared 0 v m m'
  pub locations : Cleared 0 v l l'

-- the same of a function's slices
abbrev pub ClearsOver : ℕ → ℕ → Borrowed → Borrowed → Borrowed → Borrowed → Type 0
ClearsOver p v tally rows marks locations =
    Clears p v tally.entry.now rows.entry.now marks.entry.now locations.entry.now
    tally.exit.now rows.exit.now marks.exit.now locations.exit.now

-- refused, and accepted
module _ (P N W : ℕ) (sp o t rs m l : List ℕ) where
  pub opens_refused : (n : ℕ) (s : Ascending) → n ≡ verdict (check_open P N (sizes (lean sp o t rs m l))) → (n ≡ 0 → ⊥) → s ≡ first_session 0 0 0
      → Opens P N W n s (lean sp o t rs m l) (lean sp o t rs m l)
  opens_refused n s e z es =
      record { number = e; refused = λ x. refl; unopened = λ x. es; session = λ x. absurd (z x); cleared = λ x. absurd (z x); rep = λ x. absurd (z x); frame = λ x. absurd (z x) }

  opens_done : (s : Ascending) (t' rs' m' l' : List ℕ) → 0 ≡ verdict (check_open P N (sizes (lean sp o t rs m l))) → s ≡ first_session P N W → Clears P N t rs m l t' rs' m' l'
      → Opens P N W 0 s (lean sp o t rs m l) (lean sp o t' rs' m' l')
  opens_done s t' rs' m' l' e es c =
      record {
        number = e;
        refused = λ x. absurd (x refl);
        unopened = λ x. absurd (x refl);
        session = λ x. es;
        cleared = λ x. F;
        rep = λ x. subst (λ (z : Ascending). Rep P N W initial z (lean sp o t' rs' m' l')) (sym es) (fresh_rep P N W (lean sp o t rs m l) (lean sp o t' rs' m' l') E F);
        frame = λ x. fresh_frame P N W (lean sp o t rs m l) (lean sp o t' rs' m' l') E F;
      }
    where
      E : Enough P N (lean sp o t rs m l)
      E = enough_of P N (lean sp o t rs m l) e

      F : Fresh P N (lean sp o t rs m l) (lean sp o t' rs' m' l')
      F =
          record {
            spans = refl;
            order = refl;
            tally = c.tally;
            rows = c.rows;
            marks = c.marks;
            locations = c.locations;
            waiting = refl;
            pool = refl;
          }

-- what the work of an accepted opening promises: of every storage that passes the checks and has these slices, what opening promises
pub record Begins (P N W : ℕ) (s : Ascending) (t rs m l t' rs' m' l' : List ℕ) : Type 0 where
  pub opens : (sp o : List ℕ) → 0 ≡ verdict (check_open P N (sizes (lean sp o t rs m l))) → Opens P N W 0 s (lean sp o t rs m l) (lean sp o t' rs' m' l')

-- the same of a function's slices
abbrev pub BeginsOver : ℕ → ℕ → ℕ → Ascending → Borrowed → Borrowed → Borrowed → Borrowed → Type 0
BeginsOver P N W s tally rows marks locations =
    Begins P N W s tally.entry.now rows.entry.now marks.entry.now locations.entry.now
    tally.exit.now rows.exit.now marks.exit.now locations.exit.now

-- the same of a storage: with any spans and order in place of its own
abbrev pub BeginsWithAny : ℕ → ℕ → ℕ → Ascending → Storage → Storage → Type 0
BeginsWithAny P N W s σ τ = Begins P N W s σ.tally σ.rows σ.marks σ.locations τ.tally τ.rows τ.marks τ.locations

pub begins : {P N W : ℕ} {s : Ascending} {t rs m l t' rs' m' l' : List ℕ} → s ≡ first_session P N W → Clears P N t rs m l t' rs' m' l' → Begins P N W s t rs m l t' rs' m' l'
begins {P} {N} {W} {s} {t} {rs} {m} {l} {t'} {rs'} {m'} {l'} es c = record { opens = λ sp o e. opens_done P N W sp o t rs m l s t' rs' m' l' e es c }

-- what opening promises, of a function's slices
abbrev pub OpensOver : ℕ → ℕ → ℕ → ℕ → Ascending → List ℕ → List ℕ → Borrowed → Borrowed → Borrowed → Borrowed → Type 0
OpensOver P N W n s spans order tally rows marks locations =
    Opens P N W n s (lean spans order tally.entry.now rows.entry.now marks.entry.now locations.entry.now)
    (lean spans order tally.exit.now rows.exit.now marks.exit.now locations.exit.now)
