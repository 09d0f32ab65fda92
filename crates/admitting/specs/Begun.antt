-- The own part of an accepted set or add is stored, and what is to be placed stands on the stack: so the call is admitted, and the cascade
-- does the rest. Refused, nothing has changed. Assumes nothing.
use Rattle.std.specs.Prelude.{◌≡◌, List, ℕ, ◌<◌, length}
use Rattle.std.proofs.Common.{sym, ap, ◌∙◌, subst, arith}
use Rattle.rules.specs.Model.{Model}
use Rattle.rules.specs.Calls.{Call}
use Rattle.records.specs.Filling.{rows_fit}
use Rattle.session.specs.declared.Session.{Session}
use Rattle.session.specs.Storage.{Storage, with_rows, Frame, frame_trans}
use Rattle.session.specs.Settle.{MaySettle, Settles, Along}
use Rattle.session.specs.Rep.{Rep}
use Rattle.session.specs.Noting.{noted}
use Rattle.admitting.specs.Told.{Told}
use Rattle.admitting.specs.Promise.{Asks, MayDo, Does, may_do}
use Rattle.admitting.specs.Numbers.{Number}
use Rattle.admitting.specs.Admitted.{counted, Places, Admits}

-- from the counts of a, with its stack, the cascade leads to the model's `goal`, whichever model was meant before the call
pub record Begun (c : Call) (goal : ℕ → ℕ → Model → Model) (s : Session) (a : Told) (σ τ : Storage) : Type 0 where
  pub along : (m : MayDo c s σ) → Along m.parallelism m.places (length σ.pool) s.added (goal m.parallelism m.places m.model) (counted s a) τ a.top
  pub frame : Frame s.guide.p s.guide.v s.guide.written s.guide.written σ τ

module _ (c : Call) (goal : ℕ → ℕ → Model → Model) (s : Session) (a : Told) (σ τ : Storage) (D : Begun c goal s a σ τ) where
  may_settle : MayDo c s σ → MaySettle s.added (counted s a) τ a.top
  may_settle m =
      let A = D.along m in
      record { P = m.parallelism; N = m.places; W = length σ.pool; k = A.j; st = A.st; rep = A.rep; sound = A.sound; ended = A.ended }

  -- after the cascade
  pub goal_reached : (s' : Session) (υ : Storage) → Settles s.added (counted s a) τ a.top s' υ → (m : MayDo c s σ) →
      Rep m.parallelism m.places (goal m.parallelism m.places m.model) s' υ
  goal_reached s' υ Z m =
      let A = D.along m in
      subst (λ (j : Model). Rep m.parallelism m.places j s' υ) A.ends (Z.rep m.parallelism m.places (length σ.pool) A.j A.st A.rep A.sound A.ended)

  pub goal_frame : (s' : Session) (υ : Storage) → Settles s.added (counted s a) τ a.top s' υ → Frame s.guide.p s.guide.v s.guide.written s'.guide.written σ υ
  goal_frame s' υ Z = frame_trans s.guide.p s.guide.v s.guide.written s.guide.written s'.guide.written σ τ υ D.frame Z.frame

  -- its number was worked out as n, and is 0
  pub admits : (n : ℕ) → Number c n s σ → n ≡ 0 → a.number ≡ 0 → Asks s σ → ((s' : Session) (υ : Storage) → Places s a s' τ υ → Does c s s' σ υ) → Admits c s a σ τ
  admits n h z e q d =
      record { number_is = λ P N k R. e ∙ sym z ∙ h P N k R; refused = λ x. absurd (x e); may = λ x. may_settle (may_do c n s σ h z q); does = λ x. d }

pub admits_not : (c : Call) (s : Session) (a : Told) (σ τ : Storage) → Number c a.number s σ → (a.number ≡ 0 → ⊥) → τ ≡ σ → Admits c s a σ τ
admits_not c s a σ τ h z e = record { number_is = h; refused = λ x. e; may = λ x. absurd (z x); does = λ x. absurd (z x) }

-- the cascade has run, and what an add notes is noted
module _ (s : Session) (a : Told) (s' : Session) (σ τ : Storage) (Z : Settles s.added (counted s a) σ a.top s' τ) where
  pub places : (rs : List ℕ) → rs ≡ noted s.added a.added s'.guide.written τ.rows → Places s a s' σ (with_rows τ rs)
  places rs e = record { settled = τ; settles = Z; is = ap (λ (x : List ℕ). with_rows τ x) e }

  -- the registrations have rows
  pub row_there : MaySettle s.added (counted s a) σ a.top → s.added < a.added → rows_fit τ.rows a.added
  row_there m h = omega (arith, m.rep.counted.added_is, m.sound.limits.many, m.rep.core.rowed.long, Z.frame.rows.long)
