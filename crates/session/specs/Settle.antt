-- The cascade as a loop of turns: what it asks and promises, its invariant, and that the invariant begins, is kept by a turn, and ends in
-- the promise. Assumes nothing.
use Rattle.std.specs.Prelude.{◌≡◌, refl, ℕ, ◌+◌, ◌≤◌, length}
use Rattle.std.proofs.Math.Path.{sym}
use Rattle.std.proofs.Common.{◌∙◌, subst, arith}
use mathlib.Core.List.{List, [], ◌∷◌}
use Rattle.rules.specs.Model.{Model, place_one, keep, push, off, rest, settle_all}
use Rattle.laws.specs.CascadeInv.{push_length, off_rest}
use Rattle.laws.specs.Sound.{Sound, sound_placing}
use Rattle.session.specs.declared.Session.{Session}
use Rattle.session.specs.Storage.{Storage, Frame, frame_refl, frame_trans}
use Rattle.session.specs.Rep.{RepSt, Rep}
use Rattle.session.specs.PlaceNext.{MayPlaceNext, PlacesNext}
use Rattle.session.specs.Cascade.{settle_done, settle_turn}

-- some model is meant, with a stack; the own add of no more than the accepted registrations has ended
pub record MaySettle (c : ℕ) (s : Session) (σ : Storage) (top : ℕ) : Type 0 where
  pub P : ℕ
  pub N : ℕ
  pub W : ℕ
  pub k : Model
  pub st : List ℕ
  pub rep : RepSt P N k s σ top st
  pub sound : Sound P N W k st
  pub ended : c ≤ length k.adds

-- what the cascade promises
pub record Settles (c : ℕ) (s : Session) (σ : Storage) (top : ℕ) (s' : Session) (τ : Storage) : Type 0 where
  pub rep : (P N W : ℕ) (k : Model) (st : List ℕ) → RepSt P N k s σ top st → Sound P N W k st → c ≤ length k.adds → Rep P N (settle_all P N c st k) s' τ
  pub frame : Frame s.guide.p s.guide.v s.guide.written s'.guide.written σ τ

-- midway the session stands for a model from which the cascade of what is left leads to the goal
pub record Along (P N W c : ℕ) (goal : Model) (s : Session) (σ : Storage) (top : ℕ) : Type 0 where
  pub j : Model
  pub st : List ℕ
  pub rep : RepSt P N j s σ top st
  pub sound : Sound P N W j st
  pub ended : c ≤ length j.adds
  pub ends : settle_all P N c st j ≡ goal

-- the loop's invariant, from session s, storage σ and link top on
pub record Midway (c : ℕ) (s₀ : Session) (σ₀ : Storage) (top₀ : ℕ) (s : Session) (σ : Storage) (top : ℕ) : Type 0 where
  pub along : (P N W : ℕ) (k : Model) (st : List ℕ) → RepSt P N k s₀ σ₀ top₀ st → Sound P N W k st → c ≤ length k.adds → Along P N W c (settle_all P N c st k) s σ top
  pub frame : Frame s₀.guide.p s₀.guide.v s₀.guide.written s.guide.written σ₀ σ

pub midway_begins : (c : ℕ) (s : Session) (σ : Storage) (top : ℕ) → Midway c s σ top s σ top
midway_begins c s σ top =
    record {
      along = λ P N W k st R S e. record { j = k; st = st; rep = R; sound = S; ended = e; ends = refl };
      frame = frame_refl _ _ _ σ;
    }

module _ (P N W c : ℕ) (goal : Model) (s : Session) (σ : Storage) (top : ℕ) (A : Along P N W c goal s σ top) where
  -- a link that is not 0 leads to the top of the stack
  pub along_turn : (top ≡ 0 → ⊥) → MayPlaceNext c s σ top
  along_turn h = go A.st A.rep A.sound
    where
      go : (st : List ℕ) → RepSt P N A.j s σ top st → Sound P N W A.j st → MayPlaceNext c s σ top
      go [] R S = absurd (h R.delayed.stack)
      go (r ∷ st) R S = record { P = P; N = N; W = W; k = A.j; r = r; st = st; rep = R; sound = S; ended = A.ended }

  -- a turn leads on, and takes one registration less
  pub along_step : (s' : Session) (τ : Storage) (top' : ℕ) → (top ≡ 0 → ⊥) → PlacesNext c s σ top s' τ top' → Along P N W c goal s' τ top' × (s'.delayed + 1 ≡ s.delayed)
  unfolding place_one rest keep
  along_step s' τ top' h T = go A.st A.rep A.sound A.ends
    where
      go : (st : List ℕ) → RepSt P N A.j s σ top st → Sound P N W A.j st → settle_all P N c st A.j ≡ goal → Along P N W c goal s' τ top' × (s'.delayed + 1 ≡ s.delayed)
      go [] R S e = absurd (h R.delayed.stack)
      go (r ∷ st) R S e =
          let i : Model = place_one P c r A.j in
          let Q = T.rep P N W A.j r st R S A.ended in (
            record {
              j = rest N i;
              st = push (off N i) st;
              rep = Q;
              sound = sound_placing P N W (omega (arith, Q.core.guided.p_is, Q.core.guided.stands.laid.one)) c r st A.j A.ended S;
              ended = A.ended;
              ends = sym (settle_turn P N c r st A.j) ∙ e;
            },
            omega (arith, R.delayed_is, Q.delayed_is, push_length (off N i) st, off_rest N i),
          )

  pub along_ends : top ≡ 0 → Rep P N goal s σ
  along_ends h = go A.st A.rep A.ends
    where
      go : (st : List ℕ) → RepSt P N A.j s σ top st → settle_all P N c st A.j ≡ goal → Rep P N goal s σ
      go [] R e = subst (λ (x : Model). Rep P N x s σ) (sym (settle_done P N c A.j) ∙ e) (subst (λ (x : ℕ). RepSt P N A.j s σ x []) h R)
      go (r ∷ st) R e = absurd (omega (arith, R.delayed.stack.0))

module _ (c : ℕ) (s₀ : Session) (σ₀ : Storage) (top₀ : ℕ) (ask : MaySettle c s₀ σ₀ top₀) (s : Session) (σ : Storage) (top : ℕ) (M : Midway c s₀ σ₀ top₀ s σ top) where
  here : Along ask.P ask.N ask.W c (settle_all ask.P ask.N c ask.st ask.k) s σ top
  here = M.along ask.P ask.N ask.W ask.k ask.st ask.rep ask.sound ask.ended

  pub midway_turn : (top ≡ 0 → ⊥) → MayPlaceNext c s σ top
  midway_turn h = along_turn ask.P ask.N ask.W c _ s σ top here h

  pub midway_less : (s' : Session) (τ : Storage) (top' : ℕ) → (top ≡ 0 → ⊥) → PlacesNext c s σ top s' τ top' → s'.delayed + 1 ≡ s.delayed
  midway_less s' τ top' h T = (along_step ask.P ask.N ask.W c _ s σ top here s' τ top' h T).1

  pub midway_step : (s' : Session) (τ : Storage) (top' : ℕ) → (top ≡ 0 → ⊥) → PlacesNext c s σ top s' τ top' → Midway c s₀ σ₀ top₀ s' τ top'
  midway_step s' τ top' h T =
      record {
        along = λ P N W k st R S e. (along_step P N W c _ s σ top (M.along P N W k st R S e) s' τ top' h T).0;
        frame = frame_trans _ _ _ _ _ σ₀ σ τ M.frame
            (subst (λ (x : ℕ). Frame x s₀.guide.v s.guide.written s'.guide.written σ τ) p_is
            (subst (λ (x : ℕ). Frame s.guide.p x s.guide.written s'.guide.written σ τ) v_is T.frame));
      }
    where
      p_is : s.guide.p ≡ s₀.guide.p
      p_is = here.rep.core.guided.p_is ∙ sym ask.rep.core.guided.p_is

      v_is : s.guide.v ≡ s₀.guide.v
      v_is = here.rep.core.guided.v_is ∙ sym ask.rep.core.guided.v_is

  pub midway_ends : top ≡ 0 → Settles c s₀ σ₀ top₀ s σ
  midway_ends h = record { rep = λ P N W k st R S e. along_ends P N W c _ s σ top (M.along P N W k st R S e) h; frame = M.frame }
