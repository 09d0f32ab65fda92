-- A wrong program that no edit of the code expresses: the promise contradicts it. Assumes nothing.
use Rattle.std.specs.Prelude.{◌≡◌, refl, List, [], ◌∷◌, ℕ, take}
use Rattle.std.proofs.Common.{sym, ap, ◌∙◌, arith}
use Rattle.std.proofs.Math.Option.{some}
use Rattle.rules.specs.Guide.{tally, tallied, fresh}
use Rattle.rules.specs.Alone.{alone, Request, serve_all}
use Rattle.alone_list.specs.Requests.{kinds_known, well_formed, requests_from, decode}
use Rattle.alone_list.specs.Replay.{Ran, Replays}

no_requests : (rs : List Request) → decode [] ≡ some rs → rs ≡ []
unfolding decode well_formed kinds_known requests_from
no_requests rs e = cc

zeros : (rs : List Request) {s o t w s' o' t' w' : List ℕ} → rs ≡ [] → Ran 2 1 rs s o t w s' o' t' w' → take 3 t' ≡ 0 ∷ (0 ∷ (0 ∷ []))
unfolding serve_all alone fresh tally tallied
zeros rs e r = r.tally_is ∙ ap (λ qs. tally 2 (serve_all 2 1 qs alone).guide.order) e

-- P = 2, V = 1, no request: a tally of 0, 0, 7
pub no_made_up_tally : {s o t w s' o' t' w' : List ℕ} → Replays 2 1 [] 0 s o t w s' o' t' w' → take 3 t' ≡ 0 ∷ (0 ∷ (7 ∷ [])) → ⊥
no_made_up_tally r e =
    let k = r.ran refl in
    let z : ◌≡◌ {A = List ℕ} (0 ∷ (0 ∷ (7 ∷ []))) (0 ∷ (0 ∷ (0 ∷ []))) = sym e ∙ zeros k.0 (no_requests k.0 k.1) k.2 in
    let y : ◌≡◌ {A = ℕ} 7 0 = cc in
    omega arith
