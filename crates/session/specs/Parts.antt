-- Parts of `Rep`: all but the lists that are kept, and from what stands of the guide the tally and that V is small. Assumes nothing.
use Rattle.std.specs.Prelude.{◌≡◌, ℕ, ◌+◌, ◌≤◌, take}
use Rattle.std.proofs.Common.{ap, ◌∙◌, subst, arith}
use Rattle.rules.specs.Limits.{most_places}
use Rattle.rules.specs.Guide.{Guide as GuideModel, tally}
use Rattle.rules.specs.Model.{Model}
use Rattle.buffer.specs.declared.Guide.{Guide}
use Rattle.buffer.specs.View.{view}
use Rattle.session.specs.Storage.{Storage}
use Rattle.session.specs.Rep.{Guided, Base, Core}

pub base : {P N : ℕ} {k : Model} {g : Guide} {watermark : ℕ} {σ : Storage} → Core P N k g watermark σ → Base P N k g watermark σ
base C = record { guided = C.guided; rowed = C.rowed; tracked = C.tracked }

pub few_places : {P N : ℕ} {k : Model} {g : Guide} {σ : Storage} → Guided P N k g σ → N ≤ most_places
few_places d = omega (arith, d.stands.small, d.v_is)

-- the tally is that of the model's order
pub tally_is : {P N : ℕ} {k : Model} {g : Guide} {σ : Storage} → Guided P N k g σ → take (P + 1) σ.tally ≡ tally P k.guide.order
unfolding view
tally_is {P} {N} {k} {g} {σ} d =
    subst (λ (p : ℕ). take (p + 1) σ.tally ≡ tally p k.guide.order) d.p_is (d.stands.tally_is ∙ ap (λ (b : GuideModel). tally g.p b.order) d.view_is)
