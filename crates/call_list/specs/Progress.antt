-- A list of calls that is being made on a session that was fresh: what holds before each call, that it begins so after opening, and that calls
-- keep it. Assumes nothing.
use Rattle.std.specs.Prelude.{◌≡◌, refl, List, [], ◌∷◌, ◌++◌, ℕ, ◌+◌, ◌≤◌, ◌<◌, length, take, drop, set}
use Rattle.std.proofs.Common.{sym, ap, ◌∙◌, subst, append_assoc, arith, add-one, length-append, length-set, take-suc-set, drop-set-lt}
use Rattle.std.proofs.Math.Option.{some}
use Rattle.rules.specs.Model.{Model, initial}
use Rattle.rules.specs.Calls.{Call, answer, step, run, answers}
use Rattle.rules.specs.Encoding.{decode}
use Rattle.laws.specs.Sound.{Between, between_initial}
use Rattle.session.specs.declared.Session.{Session}
use Rattle.session.specs.Storage.{Storage, Frame, frame_trans}
use Rattle.session.specs.Rep.{Rep}
use Rattle.admitting.specs.Promise.{Asks}
use Rattle.sorter.specs.Chain.{follows_step}
use Rattle.call_runs.specs.Made.{Made}
use Rattle.call_runs.specs.Continuing.{MayContinue, Onward, here, then, rest_of}

pub run_last : (P N W : ℕ) (cs : List Call) (c : Call) (k : Model) → run P N W (cs ++ (c ∷ [])) k ≡ step P N W c (run P N W cs k)
unfolding run
run_last P N W [] c k = refl
run_last P N W (d ∷ cs) c k = run_last P N W cs c (step P N W d k)

pub answers_last : (P N W : ℕ) (cs : List Call) (c : Call) (k : Model) → answers P N W (cs ++ (c ∷ [])) k ≡ answers P N W cs k ++ (answer N W c (run P N W cs k) ∷ [])
unfolding run answers
answers_last P N W [] c k = refl
answers_last P N W (d ∷ cs) c k = ap (λ t. answer N W d k ∷ t) (answers_last P N W cs c (step P N W d k))

-- before the call at `at`: n calls of all were made, the rest is still encoded
pub record Running (P N : ℕ) (l : List ℕ) (all : List Call) (σ₀ : Storage) (out₀ : List ℕ) (s : Session) (σ : Storage) (out : List ℕ) (at n : ℕ) : Type 0 where
  pub positive : 1 ≤ P
  pub made : List Call
  pub left : List Call
  pub split : all ≡ made ++ left
  pub is : decode (drop at l) ≡ some left
  pub many : length made ≡ n
  pub rep : Rep P N (run P N (length σ₀.pool) made initial) s σ
  pub between : Between P N (length σ₀.pool) (run P N (length σ₀.pool) made initial)
  pub pool : length σ.pool ≡ length σ₀.pool
  pub frame : Frame P N 0 s.guide.written σ₀ σ
  pub told : take n out ≡ answers P N (length σ₀.pool) made initial
  pub room : length all ≤ length out₀
  pub long : length out ≡ length out₀
  pub beyond : drop (length all) out ≡ drop (length all) out₀

module _ (P N : ℕ) (l : List ℕ) (all : List Call) (σ₀ : Storage) (out₀ : List ℕ) where
  abbrev W : ℕ
  W = length σ₀.pool

  pub running_start : 1 ≤ P → decode l ≡ some all → length all ≤ length out₀ → (s : Session) (σ : Storage) → Rep P N initial s σ → Frame P N 0 s.guide.written σ₀ σ
      → Running P N l all σ₀ out₀ s σ out₀ 0 0
  unfolding run answers
  running_start hP e h s σ r f =
      record {
        positive = hP;
        made = [];
        left = all;
        split = refl;
        is = e;
        many = refl;
        rep = r;
        between = between_initial P N W hP;
        pool = f.pool;
        frame = f;
        told = refl;
        room = h;
        long = refl;
        beyond = refl;
      }

  module _ (s : Session) (σ : Storage) (out : List ℕ) (at n : ℕ) (R : Running P N l all σ₀ out₀ s σ out at n) where
    running_asks : Asks s σ
    running_asks = record { parallelism = P; places = N; model = run P N W R.made initial; rep = R.rep; between = rw R.pool R.between }

    module _ (s' : Session) (σ' : Storage) (num next : ℕ) (M : Made l at num next s s' σ σ') where
      left_of : (cs : List Call) × (decode (drop next l) ≡ some cs) × (R.left ≡ M.call ∷ cs)
      left_of = rest_of (drop at l) R.left (record { call = M.call; rest = drop next l }) R.is M.is

      -- there is room for its number
      few : n < length all
      few = omega (arith, ap length R.split, ap length left_of.2, length-append R.made R.left, R.many)

      stepped : (num ≡ answer N W M.call (run P N W R.made initial))
          × Rep P N (step P N W M.call (run P N W R.made initial)) s' σ'
          × Between P N W (step P N W M.call (run P N W R.made initial)) × (length σ'.pool ≡ W)
      stepped = follows_step P N W R.positive M.call (run P N W R.made initial) num s s' σ σ' R.pool R.rep R.between M.called

      framed : Frame P N s.guide.written s'.guide.written σ σ'
      framed = subst (λ (x : ℕ). Frame x N s.guide.written s'.guide.written σ σ') R.rep.core.guided.p_is
          (subst (λ (x : ℕ). Frame s.guide.p x s.guide.written s'.guide.written σ σ') R.rep.core.guided.v_is M.called.frame)

      running_turn : Running P N l all σ₀ out₀ s' σ' (set out n num) next (n + 1)
      running_turn =
          record {
            positive = R.positive;
            made = R.made ++ (M.call ∷ []);
            left = left_of.0;
            split = R.split ∙ ap (λ x. R.made ++ x) left_of.2 ∙ sym (append_assoc R.made (M.call ∷ []) left_of.0);
            is = left_of.1;
            many = length-append R.made (M.call ∷ []) ∙ omega (arith, R.many);
            rep = rw (run_last P N W R.made M.call initial) stepped.1;
            between = rw (run_last P N W R.made M.call initial) stepped.2;
            pool = stepped.3;
            frame = frame_trans P N 0 s.guide.written s'.guide.written σ₀ σ σ' R.frame framed;
            told = rw (add-one n, take-suc-set out n num (omega (arith, few, R.room, R.long)), answers_last P N W R.made M.call initial, R.told, stepped.0);
            room = R.room;
            long = length-set out n num ∙ R.long;
            beyond = drop-set-lt (length all) out n num few ∙ R.beyond;
          }

-- the calls left may be made
pub running_may : {P N : ℕ} {l : List ℕ} {all : List Call} {σ₀ : Storage} {out₀ : List ℕ} {s : Session} {σ : Storage} {out : List ℕ} {at n : ℕ}
    → Running P N l all σ₀ out₀ s σ out at n → MayContinue l s σ out at n
running_may {P} {N} {l} {all} {σ₀} {out₀} {s} {σ} {out} {at} {n} R =
    record {
      asks = running_asks P N l all σ₀ out₀ s σ out at n R;
      left = R.left;
      is = R.is;
      room = omega (arith, ap length R.split, length-append R.made R.left, R.many, R.room, R.long);
    }

-- some of them were
pub running_on : {P N : ℕ} {l : List ℕ} {all : List Call} {σ₀ : Storage} {out₀ : List ℕ} {s s' : Session} {σ σ' : Storage} {out out' : List ℕ} {at n at' n' : ℕ}
    → Running P N l all σ₀ out₀ s σ out at n → Onward l s σ out at n s' σ' out' at' n' → Running P N l all σ₀ out₀ s' σ' out' at' n'
running_on R here = R
running_on {P} {N} {l} {all} {σ₀} {out₀} R (then {s = s} {t = t} {σ = σ} {τ = τ} {out = out} {at = at} {n = n} {num = num} {next = next} h M X) =
    running_on (running_turn P N l all σ₀ out₀ s σ out at n R t τ num next M) X
