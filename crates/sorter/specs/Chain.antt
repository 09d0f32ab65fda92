-- Demand 3 for a caller who makes the calls: a chain of states each of which a call led to, by its promise alone, and that after such a
-- chain on a fresh session the numbers and the state are the model's, of which `Demand` holds. Assumes nothing.
use Rattle.std.specs.Prelude.{◌≡◌, refl, List, [], ◌∷◌, ℕ, ◌≤◌, length}
use Rattle.std.proofs.Common.{◌∙◌}
use Rattle.rules.specs.Model.{Model, initial}
use Rattle.rules.specs.Calls.{Call, answer, step, run, answers}
use Rattle.laws.specs.Sound.{Between, between_initial, between_step}
use Rattle.laws.specs.Demand.{Demand}
use Rattle.laws.specs.DemandProof.{demand_3}
use Rattle.session.specs.declared.Session.{Session}
use Rattle.session.specs.Storage.{Storage}
use Rattle.session.specs.Rep.{Rep}
use Rattle.session.specs.Shows.{Shows}
use Rattle.session.specs.Showing.{shows}
use Rattle.admitting.specs.Promise.{Called}

-- calls cs with numbers ns lead from s with σ to s' with σ'; nothing else writes them meanwhile
pub data Chain : Session → Storage → List Call → List ℕ → Session → Storage → Type 0 where
  here : {s : Session} {σ : Storage} → Chain s σ [] [] s σ
  then : {s t u : Session} {σ τ υ : Storage} {c : Call} {n : ℕ} {cs : List Call} {ns : List ℕ} → Called c n s t σ τ → Chain t τ cs ns u υ → Chain s σ (c ∷ cs) (n ∷ ns) u υ

-- what holds after a list of calls from the model k on
pub record Follows (P N W : ℕ) (cs : List Call) (k : Model) (ns : List ℕ) (s : Session) (σ : Storage) : Type 0 where
  pub numbers : ns ≡ answers P N W cs k
  pub rep : Rep P N (run P N W cs k) s σ
  pub shows : Shows P N (run P N W cs k) s σ
  pub between : Between P N W (run P N W cs k)
  pub pool : length σ.pool ≡ W

pub follows_none : (P N W : ℕ) (k : Model) (s : Session) (σ : Storage) → length σ.pool ≡ W → Rep P N k s σ → Between P N W k → Follows P N W [] k [] s σ
unfolding run answers
follows_none P N W k s σ e r b = record { numbers = refl; rep = r; shows = shows P N k s σ r; between = b; pool = e }

-- one call more: what a loop over the calls does
pub follows_step : (P N W : ℕ) → 1 ≤ P → (c : Call) (k : Model) (n : ℕ) (s t : Session) (σ τ : Storage) → length σ.pool ≡ W → Rep P N k s σ → Between P N W k → Called c n s t σ τ
    → (n ≡ answer N W c k) × Rep P N (step P N W c k) t τ × Between P N W (step P N W c k) × (length τ.pool ≡ W)
follows_step P N W hP c k n s t σ τ e r b d =
    let x = d.keeps P N k r (rw e b) in
    (rw e at x.0, rw e at x.1, between_step P N W hP c k b, d.frame.pool ∙ e)

pub chain_follows : (P N W : ℕ) → 1 ≤ P → {s u : Session} {σ υ : Storage} {cs : List Call} {ns : List ℕ} (k : Model) → length σ.pool ≡ W → Rep P N k s σ → Between P N W k
    → Chain s σ cs ns u υ → Follows P N W cs k ns u υ
unfolding run answers
chain_follows P N W hP {s} {u} {σ} {υ} k e r b here = follows_none P N W k s σ e r b
chain_follows P N W hP {s} {u} {σ} {υ} k e r b (then {t = t} {τ = τ} {c = c} {n = n} {cs = cs} {ns = ns} d f) =
    let x = follows_step P N W hP c k n s t σ τ e r b d in
    let o = chain_follows P N W hP (step P N W c k) x.3 x.1 x.2 f in
    record { numbers = rw (x.0, o.numbers); rep = o.rep; shows = o.shows; between = o.between; pool = o.pool }

-- demand 3: on a fresh session, every list of calls, refused ones among them
pub chain_demand : (P N : ℕ) → 1 ≤ P → {s u : Session} {σ υ : Storage} {cs : List Call} {ns : List ℕ} → Rep P N initial s σ → Chain s σ cs ns u υ
    → Follows P N (length σ.pool) cs initial ns u υ × Demand P N (length σ.pool) cs (run P N (length σ.pool) cs initial)
chain_demand P N hP {s} {u} {σ} {υ} {cs} {ns} r f =
    (chain_follows P N (length σ.pool) hP initial refl r (between_initial P N (length σ.pool) hP) f, demand_3 P N (length σ.pool) hP cs)
