-- The lent storage of a session as one record of lists, what may change of it in a call, and what may not. Assumes nothing.
use Rattle.std.specs.Prelude.{◌≡◌, refl, List, ℕ, ◌+◌, ◌-◌, ◌≤◌, ◌<◌, length, get_or, drop}
use Rattle.std.proofs.Common.{sym, ap, ◌∙◌, arith, get_or-drop}
use Rattle.rules.specs.Checks.{spans_needed, waiting_needed, tally_needed}
use Rattle.entries.specs.Entries.{extent}
use Rattle.placing.specs.Slices.{Slice, Borrowed}
use Rattle.records.specs.Filling.{row_extent}

-- entries of the spans and of the order, the tally's counts, rows, marks and locations of places, the waiting storage, and the pool of
-- input and output lists
pub record Storage : Type 0 where
  pub spans : List ℕ
  pub order : List ℕ
  pub tally : List ℕ
  pub rows : List ℕ
  pub marks : List ℕ
  pub locations : List ℕ
  pub waiting : List ℕ
  pub pool : List ℕ

-- the storage in eight slices
abbrev pub storage : List ℕ → List ℕ → List ℕ → List ℕ → List ℕ → List ℕ → List ℕ → List ℕ → Storage
storage sp o t rs m l w pool = record { spans = sp; order = o; tally = t; rows = rs; marks = m; locations = l; waiting = w; pool = pool }

-- the same of references, for contracts: `given` as a function asks for it, `before` and `after` as it finds and leaves it
abbrev pub given : Slice → Slice → Slice → Slice → Slice → Slice → Slice → Slice → Storage
given sp o t rs m l w pool = storage sp.now o.now t.now rs.now m.now l.now w.now pool.now

abbrev pub before : Borrowed → Borrowed → Borrowed → Borrowed → Borrowed → Borrowed → Borrowed → Borrowed → Storage
before sp o t rs m l w pool = given sp.entry o.entry t.entry rs.entry m.entry l.entry w.entry pool.entry

abbrev pub after : Borrowed → Borrowed → Borrowed → Borrowed → Borrowed → Borrowed → Borrowed → Borrowed → Storage
after sp o t rs m l w pool = given sp.exit o.exit t.exit rs.exit m.exit l.exit w.exit pool.exit

-- what is said of the storage before and after a function: a contract so names its slices once
abbrev pub across : Borrowed → Borrowed → Borrowed → Borrowed → Borrowed → Borrowed → Borrowed → Borrowed → (Storage → Storage → Type 0) → Type 0
across sp o t rs m l w pool said = said (before sp o t rs m l w pool) (after sp o t rs m l w pool)

-- the same where the pool is only read, given by its numbers
abbrev pub given_read : Slice → Slice → Slice → Slice → Slice → Slice → Slice → List ℕ → Storage
given_read sp o t rs m l w pool = storage sp.now o.now t.now rs.now m.now l.now w.now pool

abbrev pub across_read : Borrowed → Borrowed → Borrowed → Borrowed → Borrowed → Borrowed → Borrowed → List ℕ → (Storage → Storage → Type 0) → Type 0
across_read sp o t rs m l w pool said =
    said (given_read sp.entry o.entry t.entry rs.entry m.entry l.entry w.entry pool) (given_read sp.exit o.exit t.exit rs.exit m.exit l.exit w.exit pool)

-- the same where the waiting storage is only read too
abbrev pub given_over : Slice → Slice → Slice → Slice → Slice → Slice → List ℕ → List ℕ → Storage
given_over sp o t rs m l w pool = storage sp.now o.now t.now rs.now m.now l.now w pool

abbrev pub across_over : Borrowed → Borrowed → Borrowed → Borrowed → Borrowed → Borrowed → List ℕ → List ℕ → (Storage → Storage → Type 0) → Type 0
across_over sp o t rs m l w pool said =
    said (given_over sp.entry o.entry t.entry rs.entry m.entry l.entry w pool) (given_over sp.exit o.exit t.exit rs.exit m.exit l.exit w pool)

-- a storage with other contents in some of its slices: the waiting storage; the rows; marks and waiting storage, as a set writes them;
-- waiting storage and pool, as an add does; all three, as either does; spans, order, tally and rows, as a release does
abbrev pub with_waiting : Storage → List ℕ → Storage
with_waiting σ w = storage σ.spans σ.order σ.tally σ.rows σ.marks σ.locations w σ.pool

abbrev pub with_rows : Storage → List ℕ → Storage
with_rows σ rs = storage σ.spans σ.order σ.tally rs σ.marks σ.locations σ.waiting σ.pool

abbrev pub with_marks : Storage → List ℕ → List ℕ → Storage
with_marks σ m w = storage σ.spans σ.order σ.tally σ.rows m σ.locations w σ.pool

abbrev pub with_lists : Storage → List ℕ → List ℕ → Storage
with_lists σ w pool = storage σ.spans σ.order σ.tally σ.rows σ.marks σ.locations w pool

abbrev pub with_admitted : Storage → List ℕ → List ℕ → List ℕ → Storage
with_admitted σ m w pool = storage σ.spans σ.order σ.tally σ.rows m σ.locations w pool

abbrev pub with_order : Storage → List ℕ → List ℕ → List ℕ → List ℕ → Storage
with_order σ sp o t rs = storage sp o t rs σ.marks σ.locations σ.waiting σ.pool

-- a slice has kept its length, and from n on its contents
pub record Beyond (n : ℕ) (a b : List ℕ) : Type 0 where
  pub long : length b ≡ length a
  pub same : (j : ℕ) → n ≤ j → get_or b j 0 ≡ get_or a j 0

-- what a call leaves alone, n entries having been appended before it and m after it: what lies beyond the needed lengths, the entries
-- of the order that were appended before, and those not yet appended
pub record Frame (P N n m : ℕ) (σ τ : Storage) : Type 0 where
  pub grows : n ≤ m
  pub spans : Beyond (extent (spans_needed P)) σ.spans τ.spans
  pub order : Beyond (extent m) σ.order τ.order
  pub before : (j : ℕ) → j < extent n → get_or τ.order j 0 ≡ get_or σ.order j 0
  pub tally : Beyond (tally_needed P) σ.tally τ.tally
  pub rows : Beyond (row_extent N) σ.rows τ.rows
  pub marks : Beyond N σ.marks τ.marks
  pub locations : Beyond N σ.locations τ.locations
  pub waiting : Beyond (waiting_needed N) σ.waiting τ.waiting
  pub pool : length τ.pool ≡ length σ.pool

pub beyond_refl : (n : ℕ) (a : List ℕ) → Beyond n a a
beyond_refl n a = record { long = refl; same = λ j h. refl }

pub beyond_trans : (n m : ℕ) (a b c : List ℕ) → n ≤ m → Beyond n a b → Beyond m b c → Beyond m a c
beyond_trans n m a b c h x y = record { long = y.long ∙ x.long; same = λ j k. y.same j k ∙ x.same j (omega arith) }

-- the same for what leaves its end alone
pub beyond_drop : (n m : ℕ) (a b : List ℕ) → n ≤ m → length b ≡ length a → drop n b ≡ drop n a → Beyond m a b
beyond_drop n m a b h l e = record { long = l; same = λ j k. at j (omega arith) }
  where
    at : (j : ℕ) → n ≤ j → get_or b j 0 ≡ get_or a j 0
    at j k = let s : j ≡ n + (j - n) = omega arith in rw s (sym (get_or-drop n b (j - n) 0) ∙ ap (λ (x : List ℕ). get_or x (j - n) 0) e ∙ get_or-drop n a (j - n) 0)

pub frame_refl : (P N n : ℕ) (σ : Storage) → Frame P N n n σ σ
frame_refl P N n σ =
    record {
      grows = omega arith;
      spans = beyond_refl _ σ.spans;
      order = beyond_refl _ σ.order;
      before = λ j h. refl;
      tally = beyond_refl _ σ.tally;
      rows = beyond_refl _ σ.rows;
      marks = beyond_refl _ σ.marks;
      locations = beyond_refl _ σ.locations;
      waiting = beyond_refl _ σ.waiting;
      pool = refl;
    }

pub frame_trans : (P N n m q : ℕ) (σ τ υ : Storage) → Frame P N n m σ τ → Frame P N m q τ υ → Frame P N n q σ υ
frame_trans P N n m q σ τ υ x y =
    record {
      grows = omega (arith, x.grows, y.grows);
      spans = beyond_trans _ _ σ.spans τ.spans υ.spans (omega arith) x.spans y.spans;
      order = beyond_trans (extent m) (extent q) σ.order τ.order υ.order (omega (arith, y.grows)) x.order y.order;
      before = λ j h. y.before j (omega (arith, x.grows)) ∙ x.before j h;
      tally = beyond_trans _ _ σ.tally τ.tally υ.tally (omega arith) x.tally y.tally;
      rows = beyond_trans _ _ σ.rows τ.rows υ.rows (omega arith) x.rows y.rows;
      marks = beyond_trans _ _ σ.marks τ.marks υ.marks (omega arith) x.marks y.marks;
      locations = beyond_trans _ _ σ.locations τ.locations υ.locations (omega arith) x.locations y.locations;
      waiting = beyond_trans _ _ σ.waiting τ.waiting υ.waiting (omega arith) x.waiting y.waiting;
      pool = y.pool ∙ x.pool;
    }
