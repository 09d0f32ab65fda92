-- M-106's claims for a caller who makes the calls: a chain of states each of which a call led to, by its promise alone, and that after such a
-- chain on a fresh session the numbers and the state are the model's under the profile, of which `Ascends` holds, with demand 3 among it.
-- Assumes nothing.
use Rattle.std.specs.Prelude.{◌≡◌, refl, List, [], ◌∷◌, ℕ, ◌≤◌}
use Rattle.rules.specs.Model.{Model, initial}
use Rattle.rules.specs.Calls.{Call}
use Rattle.rules.specs.Ascending.{step, run, answers}
use Rattle.ascending.specs.Claims.{Ascends, Reached}
use Rattle.ascending.specs.Proof.{reached_initial, reached_step, ascends}
use Rattle.session.specs.Storage.{Storage}
use Rattle.ascending_session.specs.declared.Ascending.{Ascending}
use Rattle.ascending_session.specs.Rep.{Rep}
use Rattle.ascending_session.specs.Shows.{Shows}
use Rattle.ascending_session.specs.Showing.{shows}
use Rattle.ascending_session.specs.Promise.{Called}

-- calls cs with numbers ns lead from s with σ to s' with σ'; nothing else writes them meanwhile
pub data Chain : Ascending → Storage → List Call → List ℕ → Ascending → Storage → Type 0 where
  here : {s : Ascending} {σ : Storage} → Chain s σ [] [] s σ
  then : {s t u : Ascending} {σ τ υ : Storage} {c : Call} {n : ℕ} {cs : List Call} {ns : List ℕ} → Called c n s t σ τ → Chain t τ cs ns u υ → Chain s σ (c ∷ cs) (n ∷ ns) u υ

-- what holds after a list of calls from the model k on
pub record Follows (P N W : ℕ) (cs : List Call) (k : Model) (ns : List ℕ) (s : Ascending) (σ : Storage) : Type 0 where
  pub numbers : ns ≡ answers P N W cs k
  pub rep : Rep P N W (run P N W cs k) s σ
  pub shows : Shows P N W (run P N W cs k) s σ

pub chain_follows : (P N W : ℕ) → 1 ≤ P → {s u : Ascending} {σ υ : Storage} {cs : List Call} {ns : List ℕ} (k : Model) → Rep P N W k s σ → Reached P N W k
    → Chain s σ cs ns u υ → Follows P N W cs k ns u υ
unfolding run answers
chain_follows P N W hP k R Q here = record { numbers = refl; rep = R; shows = shows R }
chain_follows P N W hP k R Q (then {c = c} d f) =
    let x = d.keeps P N W k R Q in
    let o = chain_follows P N W hP (step P N W c k) x.1 (reached_step P N W hP c k Q) f in
    record { numbers = rw (x.0, o.numbers); rep = o.rep; shows = o.shows }

-- on a fresh session, every list of calls, refused ones among them
pub chain_ascends : (P N W : ℕ) → 1 ≤ P → {s u : Ascending} {σ υ : Storage} {cs : List Call} {ns : List ℕ} → Rep P N W initial s σ → Chain s σ cs ns u υ
    → Follows P N W cs initial ns u υ × Ascends P N W cs (run P N W cs initial)
chain_ascends P N W hP {cs = cs} R f = (chain_follows P N W hP initial R (reached_initial P N W hP) f, ascends P N W hP cs)
