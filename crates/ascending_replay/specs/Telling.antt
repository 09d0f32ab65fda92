-- That what the exported call tells of the answer of `replay` meets its promise, as in replay/Telling. The storage is that of the slices that
-- the caller lent. Assumes nothing.
use Rattle.std.specs.Prelude.{◌≡◌, refl, List, ℕ, Result}
use Rattle.std.proofs.Common.{◌∙◌}
use Rattle.rules.specs.declared.Refusal.{Refusal}
use Rattle.rules.specs.Answer.{number}
use Rattle.session.specs.Storage.{Storage}
use Rattle.ascending_session.specs.declared.Ascending.{Ascending}
use Rattle.ascending_session.specs.declared.Storage.{Storage as Slices}
use Rattle.ascending_session.specs.Slices.{lean, contents}
use Rattle.ascending_list.specs.Replay.{opened, Replays}
use Rattle.replay.specs.Exported.{by_number}
use Rattle.replay.specs.Telling.{count_told, counted, told_is}
use Rattle.ascending_replay.specs.Exported.{Exported}

abbrev pub written : Ascending → ℕ
written s = s.guide.written

module _ {P N W : ℕ} {l : List ℕ} {σ : Storage} {out out' : List ℕ} {sp o t rs m lo : List ℕ} where
  pub exported : (ω : Slices) (r : Result Ascending Refusal) {x : ℕ} {told : Result ℕ Refusal} → Replays P N W l (number r) (opened r) σ (contents ω) out out' →
      x ≡ by_number (number told) (count_told told) → told ≡ counted written r → sp ≡ ω.spans.now → o ≡ ω.order.now →
      t ≡ ω.tally.now → rs ≡ ω.rows.now → m ≡ ω.marks.now → lo ≡ ω.locations.now
      → Exported P N W l x σ (lean sp o t rs m lo) out out'
  exported ω r R x e e₀ e₁ e₂ e₃ e₄ e₅ =
      rw (e₀, e₁, e₂, e₃, e₄, e₅) (record { number = number r; session = opened r; replays = R; is = rw e at x ∙ told_is written opened (λ s. refl) r })
