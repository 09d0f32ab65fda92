-- What a call of a session under the ascending profile presumes and promises: the number is the rules', session and storage stand for the
-- model's next state and show it, a refused call leaves everything as it was, and what lies beyond is untouched. Two laws make such a
-- promise: one for a refused call, one for an accepted one. Assumes nothing.
use Rattle.std.specs.Prelude.{◌≡◌, refl, ℕ, ◌≤◌}
use Rattle.std.proofs.Common.{sym, ◌∙◌, arith}
use Rattle.rules.specs.Model.{Model}
use Rattle.rules.specs.Limits.{most_places}
use Rattle.rules.specs.Calls.{Call, apply_call}
use Rattle.rules.specs.Ascending.{answer, step}
use Rattle.ascending.specs.Claims.{Reached}
use Rattle.ascending.specs.Same.{step_refused, step_accepted}
use Rattle.session.specs.Storage.{Storage, Frame, frame_refl}
use Rattle.ascending_session.specs.declared.Ascending.{Ascending}
use Rattle.ascending_session.specs.Rep.{Rep}
use Rattle.ascending_session.specs.Shows.{Shows}
use Rattle.ascending_session.specs.Showing.{shows}

-- what a call may presume: that session and storage are as the calls before left them, so that they stand for some model that calls under
-- the profile lead to
pub record Asks (s : Ascending) (σ : Storage) : Type 0 where
  pub parallelism : ℕ
  pub places : ℕ
  pub room : ℕ
  pub model : Model
  pub rep : Rep parallelism places room model s σ
  pub reached : Reached parallelism places room model

-- what a call with number n promises
pub record Called (c : Call) (n : ℕ) (s s' : Ascending) (σ σ' : Storage) : Type 0 where
  pub keeps : (P N W : ℕ) (k : Model) → Rep P N W k s σ → Reached P N W k → (n ≡ answer N W c k) × Rep P N W (step P N W c k) s' σ'
  pub shows : (P N W : ℕ) (k : Model) → Rep P N W k s σ → Reached P N W k → Shows P N W (step P N W c k) s' σ'
  pub refused : (n ≡ 0 → ⊥) → (s' ≡ s) × (σ' ≡ σ)
  pub frame : Frame s.guide.p s.guide.v s.guide.written s'.guide.written σ σ'

-- the number that was worked out is the rules'
abbrev pub Numbers : Call → ℕ → Ascending → Storage → Type 0
Numbers c n s σ = (P N W : ℕ) (k : Model) → Rep P N W k s σ → Reached P N W k → n ≡ answer N W c k

-- what the work of an accepted call may presume, and what it does
pub record MayDo (c : Call) (s : Ascending) (σ : Storage) : Type 0 where
  pub asks : Asks s σ
  pub accepted : answer asks.places asks.room c asks.model ≡ 0

pub record Does (c : Call) (s s' : Ascending) (σ σ' : Storage) : Type 0 where
  pub rep : (P N W : ℕ) (k : Model) → Rep P N W k s σ → Reached P N W k → answer N W c k ≡ 0 → Rep P N W (apply_call P N c k) s' σ'
  pub frame : Frame s.guide.p s.guide.v s.guide.written s'.guide.written σ σ'

-- the promise from the others of its parts: what is kept is shown
called_by : {c : Call} {n : ℕ} {s s' : Ascending} {σ σ' : Storage}
    → ((P N W : ℕ) (k : Model) → Rep P N W k s σ → Reached P N W k → (n ≡ answer N W c k) × Rep P N W (step P N W c k) s' σ')
    → ((n ≡ 0 → ⊥) → (s' ≡ s) × (σ' ≡ σ)) → Frame s.guide.p s.guide.v s.guide.written s'.guide.written σ σ' → Called c n s s' σ σ'
called_by keeps refused f = record { keeps = keeps; shows = λ P N W k R Q. shows (keeps P N W k R Q).1; refused = refused; frame = f }

module _ {c : Call} {n : ℕ} {s : Ascending} {σ : Storage} (h : Numbers c n s σ) where
  -- a refused call: nothing has changed
  pub called_refused : (n ≡ 0 → ⊥) → Called c n s s σ σ
  called_refused z =
      called_by (λ P N W k R Q. (h P N W k R Q, rw (step_refused P N W c k (λ e. z (h P N W k R Q ∙ e))) R)) (λ x. (refl, refl))
      (frame_refl s.guide.p s.guide.v s.guide.written σ)

  module _ (z : n ≡ 0) where
    -- 0 lets the work be done, and that makes the call
    pub may_do : Asks s σ → MayDo c s σ
    may_do a = record { asks = a; accepted = sym (h a.parallelism a.places a.room a.model a.rep a.reached) ∙ z }

    pub called_done : {s' : Ascending} {σ' : Storage} → Does c s s' σ σ' → Called c 0 s s' σ σ'
    called_done d =
        called_by
        (λ P N W k R Q.
        let e = h P N W k R Q in
        (sym z ∙ e, rw (step_accepted P N W c k (sym e ∙ z)) (d.rep P N W k R Q (sym e ∙ z))))
        (λ x. absurd (x refl)) d.frame

-- P and V of a session are in their ranges
module _ {P N W : ℕ} {k : Model} {s : Ascending} {σ : Storage} (R : Rep P N W k s σ) where
  pub positive : 1 ≤ P
  positive = omega (arith, R.base.guided.stands.laid.one, R.base.guided.p_is)

  pub small : N ≤ most_places
  small = omega (arith, R.base.guided.stands.small, R.base.guided.v_is)
