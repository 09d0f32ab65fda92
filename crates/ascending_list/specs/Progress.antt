-- A list of calls that is being made under the ascending profile on a session that was fresh: what holds before each call, that it begins so
-- after opening, and that a call keeps it. Assumes nothing.
use Rattle.std.specs.Prelude.{◌≡◌, refl, List, [], ◌∷◌, ◌++◌, true, ℕ, ◌+◌, ◌≤◌, ◌<◌, length, get_or, take, drop, set}
use Rattle.std.proofs.Common.{sym, ap, ◌∙◌, subst, append_assoc, arith, add-one, length-append, length-set, take-suc-set, drop-set-lt}
use Rattle.std.proofs.Math.Option.{some}
use Rattle.rules.specs.Model.{Model, initial}
use Rattle.rules.specs.Calls.{Call}
use Rattle.rules.specs.Ascending.{answer, step, run, answers}
use Rattle.rules.specs.Encoding.{decode}
use Rattle.ascending.specs.Claims.{Reached}
use Rattle.ascending.specs.Proof.{reached}
use Rattle.call_runs.specs.Made.{ends_run, Readable}
use Rattle.call_runs.specs.Continuing.{call_there, rest_of}
use Rattle.session.specs.Storage.{Storage, Frame, frame_trans}
use Rattle.ascending_session.specs.declared.Ascending.{Ascending}
use Rattle.ascending_session.specs.declared.Storage.{Storage as Slices}
use Rattle.ascending_session.specs.Slices.{SameSlices}
use Rattle.ascending_session.specs.Rep.{Rep}
use Rattle.ascending_session.specs.Promise.{Asks}
use Rattle.ascending_list.specs.Made.{Made}

run_last : (P N W : ℕ) (cs : List Call) (c : Call) (k : Model) → run P N W (cs ++ (c ∷ [])) k ≡ step P N W c (run P N W cs k)
unfolding run
run_last P N W [] c k = refl
run_last P N W (d ∷ cs) c k = run_last P N W cs c (step P N W d k)

answers_last : (P N W : ℕ) (cs : List Call) (c : Call) (k : Model) → answers P N W (cs ++ (c ∷ [])) k ≡ answers P N W cs k ++ (answer N W c (run P N W cs k) ∷ [])
unfolding run answers
answers_last P N W [] c k = refl
answers_last P N W (d ∷ cs) c k = ap (λ t. answer N W d k ∷ t) (answers_last P N W cs c (step P N W d k))

-- before the call at `at`: n calls of all were made, the rest is still encoded
pub record Running (P N W : ℕ) (l : List ℕ) (all : List Call) (σ₀ : Storage) (out₀ : List ℕ) (s : Ascending) (σ : Storage) (out : List ℕ) (at n : ℕ) : Type 0 where
  pub positive : 1 ≤ P
  pub made : List Call
  pub left : List Call
  pub split : all ≡ made ++ left
  pub is : decode (drop at l) ≡ some left
  pub many : length made ≡ n
  pub rep : Rep P N W (run P N W made initial) s σ
  pub frame : Frame P N 0 s.guide.written σ₀ σ
  pub told : take n out ≡ answers P N W made initial
  pub room : length all ≤ length out₀
  pub long : length out ≡ length out₀
  pub beyond : drop (length all) out ≡ drop (length all) out₀

-- some list is being made
pub record Going (l : List ℕ) (s : Ascending) (σ : Storage) (out : List ℕ) (at n : ℕ) : Type 0 where
  pub P : ℕ
  pub N : ℕ
  pub W : ℕ
  pub all : List Call
  pub σ₀ : Storage
  pub out₀ : List ℕ
  pub running : Running P N W l all σ₀ out₀ s σ out at n

-- whatever list is being made, it has come further: to s' with σ' and out', at at', n' calls being made
abbrev pub Leads : List ℕ → Ascending → Storage → List ℕ → ℕ → ℕ → Ascending → Storage → List ℕ → ℕ → ℕ → Type 0
Leads l s σ out at n s' σ' out' at' n' =
    (P N W : ℕ) (all : List Call) (σ₀ : Storage) (out₀ : List ℕ) → Running P N W l all σ₀ out₀ s σ out at n → Running P N W l all σ₀ out₀ s' σ' out' at' n'

-- the same, up to a flush, a final or the end
abbrev pub Continues : List ℕ → Ascending → Storage → List ℕ → ℕ → ℕ → Ascending → Storage → List ℕ → ℕ → ℕ → Type 0
Continues l s σ out at n s' σ' out' at' n' = Leads l s σ out at n s' σ' out' at' n' × ((at ≤ at') × (at' < length l → ends_run (get_or l at' 0) ≡ true))

module _ {P N W : ℕ} {l : List ℕ} {all : List Call} {σ₀ : Storage} {out₀ : List ℕ} {s : Ascending} {σ : Storage} {out : List ℕ} {at n : ℕ}
    (R : Running P N W l all σ₀ out₀ s σ out at n) where
  come : Reached P N W (run P N W R.made initial)
  come = reached P N W R.positive R.made

  module _ {s' : Ascending} {σ' : Storage} {num next : ℕ} (M : Made l at num next s s' σ σ') where
    left_of : (cs : List Call) × (decode (drop next l) ≡ some cs) × (R.left ≡ M.call ∷ cs)
    left_of = rest_of (drop at l) R.left (record { call = M.call; rest = drop next l }) R.is M.says.is

    -- there is room for its number
    few : n < length all
    few = omega (arith, ap length R.split, ap length left_of.2, length-append R.made R.left, R.many)

    stepped : (num ≡ answer N W M.call (run P N W R.made initial)) × Rep P N W (step P N W M.call (run P N W R.made initial)) s' σ'
    stepped = M.called.keeps P N W (run P N W R.made initial) R.rep come

    framed : Frame P N s.guide.written s'.guide.written σ σ'
    framed = subst (λ (x : ℕ). Frame x N s.guide.written s'.guide.written σ σ') R.rep.base.guided.p_is
        (subst (λ (x : ℕ). Frame s.guide.p x s.guide.written s'.guide.written σ σ') R.rep.base.guided.v_is M.called.frame)

    running_turn : Running P N W l all σ₀ out₀ s' σ' (set out n num) next (n + 1)
    running_turn =
        record {
          positive = R.positive;
          made = R.made ++ (M.call ∷ []);
          left = left_of.0;
          split = R.split ∙ ap (λ x. R.made ++ x) left_of.2 ∙ sym (append_assoc R.made (M.call ∷ []) left_of.0);
          is = left_of.1;
          many = length-append R.made (M.call ∷ []) ∙ omega (arith, R.many);
          rep = rw (run_last P N W R.made M.call initial) stepped.1;
          frame = frame_trans P N 0 s.guide.written s'.guide.written σ₀ σ σ' R.frame framed;
          told = rw (add-one n, take-suc-set out n num (omega (arith, few, R.room, R.long)), answers_last P N W R.made M.call initial, R.told, stepped.0);
          room = R.room;
          long = length-set out n num ∙ R.long;
          beyond = drop-set-lt (length all) out n num few ∙ R.beyond;
        }

-- a call that is made leads further; session and storage then have other names
pub leads_next : {l : List ℕ} {s₀ s s' z : Ascending} {σ₀ σ τ ω : Storage} {out₀ out : List ℕ} {at₀ n₀ at n num next : ℕ}
    → Leads l s₀ σ₀ out₀ at₀ n₀ s σ out at n → Made l at num next s s' σ τ → z ≡ s' → ω ≡ τ → Leads l s₀ σ₀ out₀ at₀ n₀ z ω (set out n num) next (n + 1)
leads_next {out = out} {n = n} L M e₀ e₁ P N W all σ₁ out₁ R = rw (e₀, e₁) (running_turn (L P N W all σ₁ out₁ R) M)

-- the same slices twice
pub same_trans : {a b c : Slices} → SameSlices a b → SameSlices b c → SameSlices a c
same_trans x y =
    record { spans = y.spans ∙ x.spans; order = y.order ∙ x.order; tally = y.tally ∙ x.tally; rows = y.rows ∙ x.rows; marks = y.marks ∙ x.marks; locations = y.locations ∙ x.locations }

-- what a list that is being made gives to its next call, and that it goes on
module _ {l : List ℕ} {s : Ascending} {σ : Storage} {out : List ℕ} {at n : ℕ} (G : Going l s σ out at n) where
  pub going_asks : Asks s σ
  going_asks =
      record {
        parallelism = G.P;
        places = G.N;
        room = G.W;
        model = run G.P G.N G.W G.running.made initial;
        rep = G.running.rep;
        reached = come G.running;
      }

  pub going_readable : at < length l → Readable l at
  going_readable h = call_there h G.running.is

  pub going_room : at < length l → n < length out
  going_room h =
      let R = G.running in
      let f = going_readable h in
      let r = rest_of (drop at l) R.left f.read R.is f.is in
      omega (arith, ap length R.split, ap length r.2, length-append R.made R.left, R.many, R.room, R.long)

  pub going_on : {s' : Ascending} {σ' : Storage} {out' : List ℕ} {at' n' : ℕ} → Leads l s σ out at n s' σ' out' at' n' → Going l s' σ' out' at' n'
  going_on L =
      record { P = G.P; N = G.N; W = G.W; all = G.all; σ₀ = G.σ₀; out₀ = G.out₀; running = L G.P G.N G.W G.all G.σ₀ G.out₀ G.running }

-- slices and answers keep their lengths
pub record Kept (σ : Storage) (out : List ℕ) (σ' : Storage) (out' : List ℕ) : Type 0 where
  pub spans : length σ'.spans ≡ length σ.spans
  pub order : length σ'.order ≡ length σ.order
  pub tally : length σ'.tally ≡ length σ.tally
  pub rows : length σ'.rows ≡ length σ.rows
  pub marks : length σ'.marks ≡ length σ.marks
  pub locations : length σ'.locations ≡ length σ.locations
  pub answers : length out' ≡ length out

pub kept : {l : List ℕ} {s s' : Ascending} {σ σ' : Storage} {out out' : List ℕ} {at n at' n' : ℕ} → Going l s σ out at n → Leads l s σ out at n s' σ' out' at' n' → Kept σ out σ' out'
unfolding going_on
kept G L =
    let R = G.running in
    let H = (going_on G L).running in
    record {
      spans = H.frame.spans.long ∙ sym R.frame.spans.long;
      order = H.frame.order.long ∙ sym R.frame.order.long;
      tally = H.frame.tally.long ∙ sym R.frame.tally.long;
      rows = H.frame.rows.long ∙ sym R.frame.rows.long;
      marks = H.frame.marks.long ∙ sym R.frame.marks.long;
      locations = H.frame.locations.long ∙ sym R.frame.locations.long;
      answers = H.long ∙ sym R.long;
    }
