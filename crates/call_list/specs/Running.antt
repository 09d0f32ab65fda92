-- The loop of a replay as a function's promise: from a fresh session, whatever list the numbers decode to, all its calls are made. And
-- the whole of a replay, from the count of the calls, opening's promise and the loop's. Assumes nothing.
use Rattle.std.specs.Prelude.{◌≡◌, refl, List, [], ◌∷◌, ◌++◌, Bool, ◌||◌, ℕ, ◌+◌, ◌≤◌, ◌<◌, length, get_or, take, set}
use Rattle.std.proofs.Math.Path.{sym}
use Rattle.std.proofs.Common.{ap, ◌∙◌, subst, append-nil, arith, drop_of_length-le}
use Rattle.std.proofs.Math.Bool.{true, false}
use Rattle.std.proofs.Math.Option.{some}
use Rattle.std.proofs.Math.Dec.{ltb}
use borrow.Author.Tests.{lt-ltb, le-ltb}
use Rattle.rules.specs.Model.{initial}
use Rattle.rules.specs.Checks.{Check, verdict, too_short, check_open, check_range}
use Rattle.rules.specs.Calls.{Call, run, answers}
use Rattle.rules.specs.Encoding.{decode, decode_from, unless_empty}
use Rattle.rules.specs.Limits.{most_parallelism, most_places}
use Rattle.rules.specs.Refusals as refusal
use Rattle.laws.specs.Accepted.{verdict_head, verdict_first}
use Rattle.laws.specs.Demand.{Demand}
use Rattle.laws.specs.DemandProof.{demand_3}
use Rattle.encoding.specs.Ends.{Counts}
use Rattle.guide.specs.Fresh.{first_guide}
use Rattle.session.specs.declared.Session.{Session}
use Rattle.session.specs.Storage.{Storage, Frame, frame_refl, frame_trans}
use Rattle.session.specs.Rep.{Rep}
use Rattle.session.specs.Shows.{Shows}
use Rattle.session.specs.Showing.{shows}
use Rattle.opening.specs.Opened.{sizes, first_session, Opens, enough_of}
use Rattle.call_runs.specs.Continuing.{MayContinue, Onward, then, onward_upto, Continues, Going, going_begins, going_on}
use Rattle.call_runs.specs.Made.{ends_run, Made}
use Rattle.call_list.specs.Replay.{replay_number, Ran, Replays}
use Rattle.call_list.specs.Progress.{Running, running_start, running_may, running_on}

-- a flush or a final stands at `at`, up to which all calls are made
pub record MayPass (l : List ℕ) (s : Session) (σ : Storage) (out : List ℕ) (at n : ℕ) : Type 0 where
  pub may : MayContinue l s σ out at n
  pub inside : at < length l
  pub tag : ends_run (get_or l at 0) ≡ true

-- it is made, and so are the sets and adds that follow it
pub record Passes (l : List ℕ) (s : Session) (σ : Storage) (out : List ℕ) (at n : ℕ) (s' : Session) (σ' : Storage) (out' : List ℕ) (at' n' : ℕ) : Type 0 where
  pub continues : Continues l s σ out at n s' σ' out' at' n'
  pub past : at < at'

module _ {l : List ℕ} {s : Session} {σ : Storage} {out : List ℕ} {at n : ℕ} (M : MayPass l s σ out at n) where
  pub pass_begins : Going l s σ out at n s σ out at n
  pass_begins = going_begins M.may

  pub passes : {s' s'' : Session} {σ' σ'' : Storage} {out'' : List ℕ} {num at'' n'' : ℕ} → Made l at num (at + 1) s s' σ σ' → Continues l s' σ' (set out n num) (at + 1) (n + 1) s'' σ'' out'' at'' n''
      → Passes l s σ out at n s'' σ'' out'' at'' n''
  passes E C =
      record {
        continues = record { onward = then M.inside E C.onward; stops = C.stops };
        past = omega (arith, onward_upto C.onward);
      }

-- a fresh session, and numbers that are the calls `all`, for whose own numbers there is room
pub record Starts (P N : ℕ) (all : List Call) (l : List ℕ) (s : Session) (σ : Storage) (out : List ℕ) : Type 0 where
  pub positive : 1 ≤ P
  pub is : decode l ≡ some all
  pub room : length all ≤ length out
  pub rep : Rep P N initial s σ
  pub first : s.guide.written ≡ 0

pub record MayRun (l : List ℕ) (s : Session) (σ : Storage) (out : List ℕ) : Type 0 where
  pub P : ℕ
  pub N : ℕ
  pub all : List Call
  pub starts : Starts P N all l s σ out

-- all calls are made
pub record Runs (l : List ℕ) (s : Session) (σ : Storage) (out : List ℕ) (s' : Session) (τ : Storage) (out' : List ℕ) : Type 0 where
  pub ran : (P N : ℕ) (all : List Call) → Starts P N all l s σ out → Ran P N all s' σ τ out out'

-- no call is left
running_end : {P N : ℕ} {l : List ℕ} {all : List Call} {σ₀ : Storage} {out₀ : List ℕ} {s : Session} {σ : Storage} {out : List ℕ} {at n : ℕ} →
    Running P N l all σ₀ out₀ s σ out at n → length l ≤ at → Ran P N all s σ₀ σ out₀ out
unfolding decode decode_from unless_empty
running_end {P} {N} {l} {all} {σ₀} {out₀} {s} {σ} {out} {at} {n} R h =
    let W = length σ₀.pool in
    let e : some [] ≡ some R.left = ap decode (sym (drop_of_length-le l h)) ∙ R.is in
    let f : [] ≡ R.left = cc in
    let m : R.made ≡ all = sym (R.split ∙ ap (λ x. R.made ++ x) (sym f) ∙ append-nil R.made) in
    let r : Rep P N (run P N W all initial) s σ = subst (λ (x : List Call). Rep P N (run P N W x initial) s σ) m R.rep in
    record {
      numbers = subst (λ (x : List Call). take (length x) out ≡ answers P N W x initial) m (subst (λ (x : ℕ). take x out ≡ answers P N W R.made initial) (sym R.many) R.told);
      rep = r;
      shows = shows P N (run P N W all initial) s σ r;
      demand = demand_3 P N W R.positive all;
      frame = R.frame;
      long = R.long;
      beyond = R.beyond;
    }

module _ {l : List ℕ} {s₀ : Session} {σ₀ : Storage} {out₀ : List ℕ} where
  begun : (P N : ℕ) (all : List Call) → Starts P N all l s₀ σ₀ out₀ → Running P N l all σ₀ out₀ s₀ σ₀ out₀ 0 0
  begun P N all S =
      running_start P N l all σ₀ out₀ S.positive S.is S.room s₀ σ₀ S.rep
      (subst (λ (n : ℕ). Frame P N 0 n σ₀ σ₀) (sym S.first) (frame_refl P N 0 σ₀))

  pub run_may : MayRun l s₀ σ₀ out₀ → MayContinue l s₀ σ₀ out₀ 0 0
  run_may ask = running_may (begun ask.P ask.N ask.all ask.starts)

  module _ {s : Session} {σ : Storage} {out : List ℕ} {at n : ℕ} (O : Onward l s₀ σ₀ out₀ 0 0 s σ out at n) where
    -- from the first flush or final on, to the end
    pub run_begins : MayRun l s₀ σ₀ out₀ → Going l s σ out at n s σ out at n
    run_begins ask = going_begins (going_on (going_begins (run_may ask)) O).may

    pub run_ends : {s' : Session} {σ' : Storage} {out' : List ℕ} {at' n' : ℕ} → Going l s σ out at n s' σ' out' at' n' → length l ≤ at' → Runs l s₀ σ₀ out₀ s' σ' out'
    run_ends {s'} {σ'} {out'} {at'} {n'} G h =
        record { ran = λ P N all S. running_end (running_on (running_on (begun P N all S) O) G.onward) h }

-- the same from the storage before it was opened
moved : (P N : ℕ) (cs : List Call) (s : Session) (σ τ υ : Storage) (out out' : List ℕ) → τ.pool ≡ σ.pool → Frame P N 0 0 σ τ → Ran P N cs s τ υ out out' → Ran P N cs s σ υ out out'
moved P N cs s σ τ υ out out' e f r =
    let el : length τ.pool ≡ length σ.pool = ap length e in
    record {
      numbers = subst (λ (W : ℕ). take (length cs) out' ≡ answers P N W cs initial) el r.numbers;
      rep = subst (λ (W : ℕ). Rep P N (run P N W cs initial) s υ) el r.rep;
      shows = subst (λ (W : ℕ). Shows P N (run P N W cs initial) s υ) el r.shows;
      demand = subst (λ (W : ℕ). Demand P N W cs (run P N W cs initial)) el r.demand;
      frame = frame_trans P N 0 0 s.guide.written σ τ υ f r.frame;
      long = r.long;
      beyond = r.beyond;
    }

first_written : (p v : ℕ) → (first_session p v).guide.written ≡ 0
unfolding first_guide
first_written p v = refl

-- the number of a replay
module _ (P N : ℕ) (σ : Storage) where
  abbrev Passed : Type 0
  Passed = ((ltb P 1 || ltb most_parallelism P) ≡ false) × (((ltb N 1 || ltb most_places N) ≡ false) × (too_short P N (sizes σ) ≡ false))

  passed : 0 ≡ verdict (check_open P N (sizes σ)) → Passed
  unfolding check_open check_range
  passed e =
      let x = verdict_head _ _ (sym e) (omega arith) in
      let y = verdict_head _ _ x.1 (omega arith) in
      let z = verdict_head _ _ y.1 (omega arith) in
      (x.0, (y.0, z.0))

  passed_open : (c : Check) → 0 ≡ verdict (check_open P N (sizes σ)) → verdict (check_open P N (sizes σ) ++ (c ∷ [])) ≡ verdict (c ∷ [])
  unfolding check_open check_range verdict
  passed_open c e =
      let x = passed e in
      rw (x.0, x.1.0, x.1.1)

module _ {P N : ℕ} {l : List ℕ} {σ : Storage} {out : List ℕ} {well : Bool} {many : ℕ} (C : Counts l well many) where
  pub replay_malformed : {n : ℕ} {s : Session} → n ≡ refusal.malformed → s ≡ first_session 0 0 → well ≡ false → Replays P N l n s σ σ out out
  unfolding replay_number
  replay_malformed d es e =
      record {
        number_is = rw (C.malformed e) d;
        refused = λ z. (refl, refl);
        unopened = λ z. es;
        ran = λ z. absurd (omega (arith, d, z));
      }

  module _ (w : well ≡ true) where
    pub replay_refused : {n m : ℕ} {s : Session} → n ≡ m → s ≡ first_session 0 0 → m ≡ verdict (check_open P N (sizes σ)) → (m ≡ 0 → ⊥) → Replays P N l n s σ σ out out
    unfolding replay_number
    replay_refused d es e h =
        record {
          number_is = rw (C.formed w).1 (d ∙ e ∙ sym (verdict_first (check_open P N (sizes σ)) _ (λ z. h (e ∙ z))));
          refused = λ z. (refl, refl);
          unopened = λ z. es;
          ran = λ z. absurd (h (sym d ∙ z));
        }

    pub replay_no_room : {n : ℕ} {s : Session} → n ≡ refusal.too_short → s ≡ first_session 0 0 → 0 ≡ verdict (check_open P N (sizes σ)) → length out < many → Replays P N l n s σ σ out out
    unfolding replay_number verdict
    replay_no_room d es e h =
        let f : ltb (length out) (length (C.formed w).0) ≡ true = lt-ltb (length out) (length (C.formed w).0) (omega (arith, (C.formed w).2)) in
        record {
          number_is = rw (C.formed w).1 (d ∙ sym (passed_open P N σ _ e ∙ rw f));
          refused = λ z. (refl, refl);
          unopened = λ z. es;
          ran = λ z. absurd (omega (arith, d, z));
        }

    -- opening was accepted, and there is room for the answers
    module _ {s : Session} {τ : Storage} (h : many ≤ length out) (O : Opens P N 0 s σ τ) where
      starts : Starts P N (C.formed w).0 l s τ out
      starts =
          record {
            positive = (enough_of P N σ O.number).one;
            is = (C.formed w).1;
            room = omega (arith, (C.formed w).2);
            rep = O.rep refl;
            first = ap (λ (x : Session). x.guide.written) (O.session refl) ∙ first_written P N;
          }

      pub may_run : MayRun l s τ out
      may_run = record { P = P; N = N; all = (C.formed w).0; starts = starts }

      pub replay_done : {s' : Session} {υ : Storage} {out' : List ℕ} → Runs l s τ out s' υ out' → Replays P N l 0 s' σ υ out out'
      unfolding replay_number verdict
      replay_done {s'} {υ} {out'} R =
          let f : ltb (length out) (length (C.formed w).0) ≡ false = le-ltb (length out) (length (C.formed w).0) (omega (arith, (C.formed w).2)) in
          let r = R.ran P N (C.formed w).0 starts in
          record {
            number_is = rw (C.formed w).1 (sym (passed_open P N σ _ O.number ∙ rw f));
            refused = λ x. absurd (x refl);
            unopened = λ x. absurd (x refl);
            ran = λ x. ((C.formed w).0, (C.formed w).1, moved P N (C.formed w).0 s' σ τ υ out out' (O.cleared refl).pool (O.frame refl) r);
          }
