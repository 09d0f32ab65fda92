-- What final gives beside a call's promise: the summary of the tally, and that it can be summed up. Assumes nothing.
use Rattle.std.specs.Prelude.{◌≡◌, [], ℕ, ◌+◌, ◌≤◌, length, take}
use Rattle.std.proofs.Math.Path.{ap}
use Rattle.std.proofs.Common.{◌∙◌, arith}
use Rattle.rules.specs.Model.{Model}
use Rattle.rules.specs.Calls.{final as final_call, step}
use Rattle.rules.specs.Summary.{sum, Figures, figures}
use Rattle.rules.specs.Record.{summary as summary_of}
use Rattle.laws.specs.Placeable.{fits_of}
use Rattle.laws.specs.Sound.{Between, between_step}
use Rattle.laws.specs.Tally.{tally_sum}
use Rattle.buffer.specs.declared.Guide.{Guide}
use Rattle.summary.specs.Figured.{Tallied}
use Rattle.session.specs.declared.Session.{Session}
use Rattle.session.specs.Storage.{Storage}
use Rattle.session.specs.Parts.{tally_is, few_places}
use Rattle.session.specs.Rep.{Guided, Rep}
use Rattle.admitting.specs.Promise.{Asks, Called, positive}

-- final's promise: a call's, and the summary is the model's, or that of an empty tally where it was refused
pub record Concludes (n : ℕ) (s s' : Session) (σ σ' : Storage) (f : Figures) : Type 0 where
  pub called : Called final_call n s s' σ σ'
  pub summary : n ≡ 0 → (P N : ℕ) (k : Model) → Rep P N k s σ → Between P N (length σ.pool) k → f ≡ summary_of P (step P N (length σ.pool) final_call k)
  pub zeros : (n ≡ 0 → ⊥) → f ≡ figures []

-- the tally of a session can be summed up
pub tallied_of : (P N W : ℕ) (k : Model) (g : Guide) (σ : Storage) → 1 ≤ P → Guided P N k g σ → Between P N W k → Tallied σ.tally g.p
tallied_of P N W k g σ hP d B =
    let F = fits_of P N W hP k [] B.sound (few_places d) in
    let e = tally_sum P k.guide.order (λ j q. (F.parallelisms j q).1) in
    let t = ap sum (tally_is d) in
    rw d.p_is (record {
      stored = omega (arith, d.stands.tally_long, d.p_is);
      most = omega (arith, d.stands.laid.few, d.p_is);
      total = omega (arith, e, t, F.room, F.many, few_places d);
    })

-- final was made with number n
module _ (n : ℕ) (s t : Session) (σ τ : Storage) (C : Called final_call n s t σ τ) where
  stepped : (P N : ℕ) (k : Model) → Rep P N k s σ → Between P N (length σ.pool) k
      → Rep P N (step P N (length σ.pool) final_call k) t τ × Between P N (length σ.pool) (step P N (length σ.pool) final_call k)
  stepped P N k R B = ((C.keeps P N k R B).1, between_step P N (length σ.pool) (positive P N k s σ R) final_call k B)

  pub final_tallied : Asks s σ → Tallied τ.tally t.guide.p
  final_tallied a =
      let x = stepped a.parallelism a.places a.model a.rep a.between in
      tallied_of a.parallelism a.places (length σ.pool) (step a.parallelism a.places (length σ.pool) final_call a.model) t.guide τ
      (positive a.parallelism a.places a.model s σ a.rep) x.0.core.guided x.1

  pub concluded : n ≡ 0 → (f : Figures) → f ≡ figures (take (t.guide.p + 1) τ.tally) → Concludes n s t σ τ f
  unfolding summary_of
  concluded z f e =
      record {
        called = C;
        summary = λ y P N k R B.
            let x = (stepped P N k R B).0 in
            e ∙ ap (λ (p : ℕ). figures (take (p + 1) τ.tally)) x.core.guided.p_is ∙ ap figures (tally_is x.core.guided);
        zeros = λ y. absurd (y z);
      }

  pub not_concluded : (n ≡ 0 → ⊥) → (f : Figures) → f ≡ figures [] → Concludes n s t σ τ f
  not_concluded z f e = record { called = C; summary = λ y. absurd (z y); zeros = λ y. e }
