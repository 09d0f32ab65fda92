-- What final gives under the ascending profile beside a call's promise: the summary of the tally, and that it can be summed up.
-- Assumes nothing.
use Rattle.std.specs.Prelude.{◌≡◌, [], ℕ, ◌+◌, take}
use Rattle.std.proofs.Math.Path.{ap}
use Rattle.std.proofs.Common.{◌∙◌}
use Rattle.rules.specs.Model.{Model}
use Rattle.rules.specs.Calls.{final as final_call}
use Rattle.rules.specs.Ascending.{step}
use Rattle.rules.specs.Summary.{Figures, figures}
use Rattle.rules.specs.Record.{summary as summary_of}
use Rattle.ascending.specs.Claims.{Reached}
use Rattle.ascending.specs.Proof.{reached_step}
use Rattle.summary.specs.Figured.{Tallied}
use Rattle.session.specs.Storage.{Storage}
use Rattle.session.specs.Parts.{tally_is}
use Rattle.sorter.specs.FinalWork.{tallied_of}
use Rattle.ascending_session.specs.declared.Ascending.{Ascending}
use Rattle.ascending_session.specs.Rep.{Rep}
use Rattle.ascending_session.specs.Promise.{Asks, Called, positive}

-- final's promise: a call's, and the summary is the model's, or that of an empty tally where it was refused
pub record Concludes (n : ℕ) (s s' : Ascending) (σ σ' : Storage) (f : Figures) : Type 0 where
  pub called : Called final_call n s s' σ σ'
  pub summary : n ≡ 0 → (P N W : ℕ) (k : Model) → Rep P N W k s σ → Reached P N W k → f ≡ summary_of P (step P N W final_call k)
  pub zeros : (n ≡ 0 → ⊥) → f ≡ figures []

-- final was made with number n
module _ {n : ℕ} {s t : Ascending} {σ τ : Storage} (C : Called final_call n s t σ τ) where
  pub final_tallied : Asks s σ → Tallied τ.tally t.guide.p
  final_tallied a =
      let P = a.parallelism in
      let N = a.places in
      let W = a.room in
      let hP = positive a.rep in
      let R = (C.keeps P N W a.model a.rep a.reached).1 in
      let Q = reached_step P N W hP final_call a.model a.reached in
      tallied_of P N W (step P N W final_call a.model) t.guide τ hP R.base.guided Q.between

  pub concluded : n ≡ 0 → {f : Figures} → f ≡ figures (take (t.guide.p + 1) τ.tally) → Concludes n s t σ τ f
  unfolding summary_of
  concluded z e =
      record {
        called = C;
        summary = λ y P N W k R Q.
            let G = (C.keeps P N W k R Q).1.base.guided in
            e ∙ ap (λ (p : ℕ). figures (take (p + 1) τ.tally)) G.p_is ∙ ap figures (tally_is G);
        zeros = λ y. absurd (y z);
      }

  pub not_concluded : (n ≡ 0 → ⊥) → {f : Figures} → f ≡ figures [] → Concludes n s t σ τ f
  not_concluded z e = record { called = C; summary = λ y. absurd (z y); zeros = λ y. e }
