-- An add under the ascending profile around its placing: the checks leave the marks as they were, so that what is said of the storage before
-- them holds after them. Assumes nothing.
use Rattle.std.specs.Prelude.{◌≡◌, List, ℕ}
use Rattle.rules.specs.Calls.{add as add_call}
use Rattle.session.specs.Storage.{Storage}
use Rattle.ascending_checks.specs.Parts.{ChecksAdd}
use Rattle.ascending_session.specs.declared.Ascending.{Ascending}
use Rattle.ascending_session.specs.Promise.{Asks, Called, MayDo, Does, called_refused, may_do, called_done}
use Rattle.ascending_calls.specs.Numbers.{add_number}
use Rattle.ascending_calls.specs.Setting.{marked}

-- m is what the checks left of the marks
module _ {lane : ℕ} {ins outs : List ℕ} {n u added : ℕ} {m : List ℕ} {s : Ascending} {σ : Storage} (eu : u ≡ s.guide.v) (ea : added ≡ s.added)
    (c : ChecksAdd σ.marks lane ins outs s.closed u s.lowest added s.used s.room n m) where
  pub add_refused : (n ≡ 0 → ⊥) → Called (add_call lane ins outs) n s s σ (marked σ m)
  add_refused z = rw c.same (called_refused (add_number eu ea c) z)

  module _ (z : n ≡ 0) where
    pub may_add : Asks s σ → MayDo (add_call lane ins outs) s (marked σ m)
    may_add a = rw c.same (may_do (add_number eu ea c) z a)

    pub add_done : {s' : Ascending} {τ : Storage} → Does (add_call lane ins outs) s s' (marked σ m) τ → Called (add_call lane ins outs) 0 s s' σ τ
    add_done d = called_done (add_number eu ea c) z (rw c.same at d)
