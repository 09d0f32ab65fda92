-- What a call of a session presumes and promises: the number is the model's, the session and its storage stand for the model's next
-- state and show it, a refused call leaves everything as it was, and what lies beyond is untouched. Two laws make such a promise: one for a refused
-- call, one for an accepted one. Assumes nothing.
use Rattle.std.specs.Prelude.{◌≡◌, refl, List, ℕ, ◌≤◌, length}
use Rattle.std.proofs.Common.{sym, ap, ◌∙◌, subst, arith, eq-eqb, ne_eqb}
use Rattle.rules.specs.Model.{Model}
use Rattle.rules.specs.Calls.{Call, answer, apply_call, unless_refused, step}
use Rattle.laws.specs.Sound.{Between}
use Rattle.session.specs.declared.Session.{Session}
use Rattle.session.specs.Storage.{Storage, with_waiting, Frame, frame_refl}
use Rattle.session.specs.Rep.{Rep}
use Rattle.session.specs.Shows.{Shows}
use Rattle.session.specs.Showing.{shows}

-- what a call may presume: that session and storage are as the calls before left them, so that they stand for some reachable model
pub record Asks (s : Session) (σ : Storage) : Type 0 where
  pub parallelism : ℕ
  pub places : ℕ
  pub model : Model
  pub rep : Rep parallelism places model s σ
  pub between : Between parallelism places (length σ.pool) model

-- what a call with number n promises
pub record Called (c : Call) (n : ℕ) (s s' : Session) (σ σ' : Storage) : Type 0 where
  pub keeps : (P N : ℕ) (k : Model) → Rep P N k s σ → Between P N (length σ.pool) k
      → (n ≡ answer N (length σ.pool) c k) × Rep P N (step P N (length σ.pool) c k) s' σ'
  pub shows : (P N : ℕ) (k : Model) → Rep P N k s σ → Between P N (length σ.pool) k → Shows P N (step P N (length σ.pool) c k) s' σ'
  pub refused : (n ≡ 0 → ⊥) → (s' ≡ s) × (σ' ≡ σ)
  pub frame : Frame s.guide.p s.guide.v s.guide.written s'.guide.written σ σ'

-- the model after a refused and after an accepted call
pub step_refused : (P N W : ℕ) (c : Call) (k : Model) → (answer N W c k ≡ 0 → ⊥) → step P N W c k ≡ k
unfolding step unless_refused
step_refused P N W c k h = rw (ne_eqb (answer N W c k) 0 h, unless_refused)

pub step_accepted : (P N W : ℕ) (c : Call) (k : Model) → answer N W c k ≡ 0 → step P N W c k ≡ apply_call P N c k
unfolding step unless_refused
step_accepted P N W c k h = rw (eq-eqb (answer N W c k) 0 h, unless_refused)

-- the promise from the others of its parts: what is kept is shown
called_by : {c : Call} {n : ℕ} {s s' : Session} {σ σ' : Storage}
    → ((P N : ℕ) (k : Model) → Rep P N k s σ → Between P N (length σ.pool) k
    → (n ≡ answer N (length σ.pool) c k) × Rep P N (step P N (length σ.pool) c k) s' σ')
    → ((n ≡ 0 → ⊥) → (s' ≡ s) × (σ' ≡ σ)) → Frame s.guide.p s.guide.v s.guide.written s'.guide.written σ σ' → Called c n s s' σ σ'
called_by {c} {n} {s} {s'} {σ} {σ'} keeps refused f =
    record {
      keeps = keeps;
      shows = λ P N k r b. shows P N (step P N (length σ.pool) c k) s' σ' (keeps P N k r b).1;
      refused = refused;
      frame = f;
    }

-- a refused call: nothing has changed, and the number is the model's
pub called_refused : (c : Call) (n : ℕ) (s : Session) (σ : Storage) → (n ≡ 0 → ⊥) → ((P N : ℕ) (k : Model) → Rep P N k s σ → n ≡ answer N (length σ.pool) c k) → Called c n s s σ σ
called_refused c n s σ z h =
    called_by (λ P N k r b. (h P N k r, rw (step_refused P N (length σ.pool) c k (λ e. z (h P N k r ∙ e))) r)) (λ x. (refl, refl))
    (frame_refl s.guide.p s.guide.v s.guide.written σ)

-- an accepted call
pub called_done : (c : Call) (s s' : Session) (σ σ' : Storage) → ((P N : ℕ) (k : Model) → Rep P N k s σ → 0 ≡ answer N (length σ.pool) c k)
    → ((P N : ℕ) (k : Model) → Rep P N k s σ → Between P N (length σ.pool) k → answer N (length σ.pool) c k ≡ 0 → Rep P N (apply_call P N c k) s' σ')
    → Frame s.guide.p s.guide.v s.guide.written s'.guide.written σ σ' → Called c 0 s s' σ σ'
called_done c s s' σ σ' a h f =
    called_by (λ P N k r b. (a P N k r, rw (step_accepted P N (length σ.pool) c k (sym (a P N k r))) (h P N k r b (sym (a P N k r)))))
    (λ x. absurd (x refl)) f

-- what the work of an accepted call may presume, and what it does
pub record MayDo (c : Call) (s : Session) (σ : Storage) : Type 0 where
  pub parallelism : ℕ
  pub places : ℕ
  pub model : Model
  pub rep : Rep parallelism places model s σ
  pub between : Between parallelism places (length σ.pool) model
  pub accepted : answer places (length σ.pool) c model ≡ 0

pub record Does (c : Call) (s s' : Session) (σ σ' : Storage) : Type 0 where
  pub rep : (P N : ℕ) (k : Model) → Rep P N k s σ → Between P N (length σ.pool) k → answer N (length σ.pool) c k ≡ 0 → Rep P N (apply_call P N c k) s' σ'
  pub frame : Frame s.guide.p s.guide.v s.guide.written s'.guide.written σ σ'

-- a call whose number was worked out: n is the model's; 0 lets the work be done
pub may_do : (c : Call) (n : ℕ) (s : Session) (σ : Storage) → ((P N : ℕ) (k : Model) → Rep P N k s σ → n ≡ answer N (length σ.pool) c k) → n ≡ 0 → Asks s σ → MayDo c s σ
may_do c n s σ h z a =
    record { parallelism = a.parallelism; places = a.places; model = a.model; rep = a.rep; between = a.between; accepted = sym (h a.parallelism a.places a.model a.rep) ∙ z }

pub called_does : (c : Call) (n : ℕ) (s s' : Session) (σ σ' : Storage) → ((P N : ℕ) (k : Model) → Rep P N k s σ → n ≡ answer N (length σ.pool) c k) → n ≡ 0 → Does c s s' σ σ' → Called c 0 s s' σ σ'
called_does c n s s' σ σ' h z d = called_done c s s' σ σ' (λ P N k r. sym z ∙ h P N k r) d.rep d.frame

-- P and V are the session's
pub framed : (P N n m : ℕ) (s : Session) (σ τ : Storage) → s.guide.p ≡ P → s.guide.v ≡ N → Frame P N n m σ τ → Frame s.guide.p s.guide.v n m σ τ
framed P N n m s σ τ ep ev f = subst (λ (x : ℕ). Frame x s.guide.v n m σ τ) (sym ep) (subst (λ (x : ℕ). Frame P x n m σ τ) (sym ev) f)

pub positive : (P N : ℕ) (k : Model) (s : Session) (σ : Storage) → Rep P N k s σ → 1 ≤ P
positive P N k s σ R = omega (arith, R.core.guided.stands.laid.one, R.core.guided.p_is)

-- checks that leave the waiting storage as it was: w is what stands there after them
pub same_waiting : (w : List ℕ) (σ : Storage) → w ≡ σ.waiting → with_waiting σ w ≡ σ
same_waiting w σ e = ap (λ (x : List ℕ). with_waiting σ x) e
