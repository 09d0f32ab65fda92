-- The cascade of one admitted call as a loop inside the loop over the calls: its invariant, that a turn keeps it, and that it ends in the
-- cascade's promise. Assumes nothing.
use Rattle.std.specs.Prelude.{◌≡◌, ℕ, ◌+◌}
use Rattle.session.specs.declared.Session.{Session}
use Rattle.session.specs.Storage.{Storage}
use Rattle.session.specs.PlaceNext.{MayPlaceNext, PlacesNext}
use Rattle.session.specs.Settle.{MaySettle, Settles, Midway, midway_begins, midway_turn, midway_less, midway_step, midway_ends}

pub record Cascading (c : ℕ) (s₀ : Session) (σ₀ : Storage) (top₀ : ℕ) (s : Session) (σ : Storage) (top : ℕ) : Type 0 where
  pub may : MaySettle c s₀ σ₀ top₀
  pub midway : Midway c s₀ σ₀ top₀ s σ top

pub cascading_begins : {c : ℕ} {s : Session} {σ : Storage} {top : ℕ} → MaySettle c s σ top → Cascading c s σ top s σ top
cascading_begins {c} {s} {σ} {top} m = record { may = m; midway = midway_begins c s σ top }

module _ {c : ℕ} {s₀ : Session} {σ₀ : Storage} {top₀ : ℕ} {s : Session} {σ : Storage} {top : ℕ} (C : Cascading c s₀ σ₀ top₀ s σ top) where
  pub cascading_turn : (top ≡ 0 → ⊥) → MayPlaceNext c s σ top
  cascading_turn = midway_turn c s₀ σ₀ top₀ C.may s σ top C.midway

  module _ (h : top ≡ 0 → ⊥) {s' : Session} {τ : Storage} {top' : ℕ} (T : PlacesNext c s σ top s' τ top') where
    pub cascading_less : s'.delayed + 1 ≡ s.delayed
    cascading_less = midway_less c s₀ σ₀ top₀ C.may s σ top C.midway s' τ top' h T

    pub cascading_step : Cascading c s₀ σ₀ top₀ s' τ top'
    cascading_step = record { may = C.may; midway = midway_step c s₀ σ₀ top₀ C.may s σ top C.midway s' τ top' h T }

  pub cascading_ends : top ≡ 0 → Settles c s₀ σ₀ top₀ s σ
  cascading_ends = midway_ends c s₀ σ₀ top₀ C.may s σ top C.midway
