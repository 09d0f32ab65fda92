-- A set or an add admitted: what is promised of its number, of the marks or lists that it stored, and of what is then placed; and that
-- both together are the call's promise. Assumes nothing.
use Rattle.std.specs.Prelude.{◌≡◌, List, ℕ, length}
use Rattle.std.proofs.Common.{sym, subst}
use Rattle.rules.specs.Model.{Model}
use Rattle.rules.specs.Calls.{Call, set as set_call, add as add_call, answer}
use Rattle.session.specs.declared.Session.{Session}
use Rattle.session.specs.Storage.{Storage, with_rows, with_marks, with_lists}
use Rattle.session.specs.Settle.{MaySettle, Settles}
use Rattle.session.specs.Rep.{Rep}
use Rattle.session.specs.Noting.{noted}
use Rattle.admitting.specs.Told.{Told}
use Rattle.admitting.specs.Promise.{Asks, Called, Does, called_refused, called_does}

-- the session with the counts of an admitted call
abbrev pub counted : Session → Told → Session
counted s a =
    record {
      guide = s.guide;
      watermark = a.watermark;
      added = a.added;
      used = a.used;
      delayed = a.delayed;
      flushes = s.flushes;
      closed = s.closed;
      registrations = s.registrations;
      places = s.places;
    }

-- what was admitted is placed, with all that it sets off, and the row of an added registration notes the order's length
pub record Places (s : Session) (a : Told) (s' : Session) (σ τ : Storage) : Type 0 where
  pub settled : Storage
  pub settles : Settles s.added (counted s a) σ a.top s' settled
  pub is : τ ≡ with_rows settled (noted s.added a.added s'.guide.written settled.rows)

-- the call c was admitted or refused: the number is the model's; refused, nothing has changed; admitted, placing makes the call
pub record Admits (c : Call) (s : Session) (a : Told) (σ τ : Storage) : Type 0 where
  pub number_is : (P N : ℕ) (k : Model) → Rep P N k s σ → a.number ≡ answer N (length σ.pool) c k
  pub refused : (a.number ≡ 0 → ⊥) → τ ≡ σ
  pub may : a.number ≡ 0 → MaySettle s.added (counted s a) τ a.top
  pub does : a.number ≡ 0 → (s' : Session) (υ : Storage) → Places s a s' τ υ → Does c s s' σ υ

module _ (c : Call) (s : Session) (a : Told) (σ τ : Storage) (A : Admits c s a σ τ) where
  pub admitted_refused : (a.number ≡ 0 → ⊥) → Called c a.number s s σ τ
  admitted_refused h =
      subst (λ (x : Storage). Called c a.number s s σ x) (sym (A.refused h)) (called_refused c a.number s σ h A.number_is)

  pub admitted_placed : (s' : Session) (υ : Storage) → a.number ≡ 0 → Places s a s' τ υ → Called c a.number s s' σ υ
  admitted_placed s' υ e Q =
      subst (λ (n : ℕ). Called c n s s' σ υ) (sym e) (called_does c a.number s s' σ υ A.number_is e (A.does e s' υ Q))

-- The same of the slices that a call touches before anything is placed: a set marks and waiting storage, an add waiting storage and pool. It
-- is asked of some storage with these contents, and promised of every one.
pub record AsksSet (s : Session) (m w : List ℕ) : Type 0 where
  pub around : Storage
  pub asks : Asks s (with_marks around m w)

abbrev pub AdmitsSet : ℕ → Session → Told → List ℕ → List ℕ → List ℕ → List ℕ → Type 0
AdmitsSet x s a m w m' w' = (σ : Storage) → Asks s (with_marks σ m w) → Admits (set_call x) s a (with_marks σ m w) (with_marks σ m' w')

pub record AsksAdd (s : Session) (w pool : List ℕ) : Type 0 where
  pub around : Storage
  pub asks : Asks s (with_lists around w pool)

abbrev pub AdmitsAdd : ℕ → List ℕ → List ℕ → Session → Told → List ℕ → List ℕ → List ℕ → List ℕ → Type 0
AdmitsAdd lane ins outs s a w pool w' pool' =
    (σ : Storage) → Asks s (with_lists σ w pool) → Admits (add_call lane ins outs) s a (with_lists σ w pool) (with_lists σ w' pool')

-- where a whole storage is at hand
module _ {s : Session} {σ : Storage} (q : Asks s σ) where
  pub set_asked : AsksSet s σ.marks σ.waiting
  set_asked = record { around = σ; asks = q }

  pub set_admitted : {x : ℕ} {a : Told} {m w : List ℕ} → AdmitsSet x s a σ.marks σ.waiting m w → Admits (set_call x) s a σ (with_marks σ m w)
  set_admitted h = h σ q

  pub add_asked : AsksAdd s σ.waiting σ.pool
  add_asked = record { around = σ; asks = q }

  pub add_admitted : {lane : ℕ} {ins outs : List ℕ} {a : Told} {w pool : List ℕ} → AdmitsAdd lane ins outs s a σ.waiting
      σ.pool w pool → Admits (add_call lane ins outs) s a σ (with_lists σ w pool)
  add_admitted h = h σ q
