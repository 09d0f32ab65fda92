-- The whole of a replay under the ascending profile, from the count of the calls, opening's promise and the loop's. Assumes nothing.
use Rattle.std.specs.Prelude.{◌≡◌, refl, List, [], ◌∷◌, ◌++◌, Bool, ◌||◌, ℕ, ◌≤◌, ◌<◌, length, take}
use Rattle.std.proofs.Math.Path.{sym, subst}
use Rattle.std.proofs.Common.{ap, ◌∙◌, append-nil, arith, drop_of_length-le}
use Rattle.std.proofs.Math.Bool.{true, false}
use Rattle.std.proofs.Math.Option.{some}
use Rattle.std.proofs.Math.Dec.{ltb}
use borrow.Author.Tests.{lt-ltb, le-ltb}
use Rattle.rules.specs.Model.{initial}
use Rattle.rules.specs.Checks.{Check, verdict, any, short, check_range}
use Rattle.rules.specs.Calls.{Call}
use Rattle.rules.specs.Ascending.{lengths, check_open, run, answers}
use Rattle.rules.specs.Encoding.{decode, decode_from, unless_empty}
use Rattle.rules.specs.Limits.{most_parallelism, most_places}
use Rattle.rules.specs.Refusals as refusal
use Rattle.laws.specs.Accepted.{verdict_head, verdict_first}
use Rattle.ascending.specs.Proof.{ascends}
use Rattle.encoding.specs.Ends.{Counts}
use Rattle.guide.specs.Fresh.{first_guide}
use Rattle.session.specs.Storage.{Storage, Frame, frame_refl, frame_trans}
use Rattle.opening.specs.Opened.{sizes}
use Rattle.ascending_session.specs.declared.Ascending.{Ascending}
use Rattle.ascending_session.specs.Rep.{Rep}
use Rattle.ascending_session.specs.Showing.{shows}
use Rattle.ascending_opening.specs.Opened.{first_session, Opens, enough_of}
use Rattle.ascending_list.specs.Progress.{Running, Going, Leads}
use Rattle.ascending_list.specs.Replay.{replay_number, Ran, Replays}

-- a fresh session, and numbers that are the calls `all`, for whose own numbers there is room
pub record Starts (P N W : ℕ) (all : List Call) (l : List ℕ) (s : Ascending) (σ : Storage) (out : List ℕ) : Type 0 where
  pub positive : 1 ≤ P
  pub is : decode l ≡ some all
  pub room : length all ≤ length out
  pub rep : Rep P N W initial s σ
  pub first : s.guide.written ≡ 0

pub record MayRun (l : List ℕ) (s : Ascending) (σ : Storage) (out : List ℕ) : Type 0 where
  pub P : ℕ
  pub N : ℕ
  pub W : ℕ
  pub all : List Call
  pub starts : Starts P N W all l s σ out

-- all calls are made
pub record Runs (l : List ℕ) (s : Ascending) (σ : Storage) (out : List ℕ) (s' : Ascending) (τ : Storage) (out' : List ℕ) : Type 0 where
  pub ran : (P N W : ℕ) (all : List Call) → Starts P N W all l s σ out → Ran P N W all s' σ τ out out'

-- no call is left
running_end : {P N W : ℕ} {l : List ℕ} {all : List Call} {σ₀ : Storage} {out₀ : List ℕ} {s : Ascending} {σ : Storage} {out : List ℕ} {at n : ℕ}
    → Running P N W l all σ₀ out₀ s σ out at n → length l ≤ at → Ran P N W all s σ₀ σ out₀ out
unfolding decode decode_from unless_empty
running_end {P} {N} {W} {l} {all} {σ₀} {out₀} {s} {σ} {out} {at} {n} R h =
    let e : some [] ≡ some R.left = ap decode (sym (drop_of_length-le l h)) ∙ R.is in
    let f : [] ≡ R.left = cc in
    let m : R.made ≡ all = sym (R.split ∙ ap (λ x. R.made ++ x) (sym f) ∙ append-nil R.made) in
    let r : Rep P N W (run P N W all initial) s σ = subst (λ (x : List Call). Rep P N W (run P N W x initial) s σ) m R.rep in
    record {
      numbers = subst (λ (x : List Call). take (length x) out ≡ answers P N W x initial) m (subst (λ (x : ℕ). take x out ≡ answers P N W R.made initial) (sym R.many) R.told);
      rep = r;
      shows = shows r;
      ascends = ascends P N W R.positive all;
      frame = R.frame;
      long = R.long;
      beyond = R.beyond;
    }

module _ {l : List ℕ} {s₀ : Ascending} {σ₀ : Storage} {out₀ : List ℕ} where
  begun : {P N W : ℕ} {all : List Call} → Starts P N W all l s₀ σ₀ out₀ → Running P N W l all σ₀ out₀ s₀ σ₀ out₀ 0 0
  unfolding run answers
  begun {P} {N} {W} {all} S =
      record {
        positive = S.positive;
        made = [];
        left = all;
        split = refl;
        is = S.is;
        many = refl;
        rep = S.rep;
        frame = subst (λ (n : ℕ). Frame P N 0 n σ₀ σ₀) (sym S.first) (frame_refl P N 0 σ₀);
        told = refl;
        room = S.room;
        long = refl;
        beyond = refl;
      }

  pub run_begins : MayRun l s₀ σ₀ out₀ → Going l s₀ σ₀ out₀ 0 0
  run_begins ask = record { P = ask.P; N = ask.N; W = ask.W; all = ask.all; σ₀ = σ₀; out₀ = out₀; running = begun ask.starts }

  pub run_ends : {s : Ascending} {σ : Storage} {out : List ℕ} {at n : ℕ} → Leads l s₀ σ₀ out₀ 0 0 s σ out at n → length l ≤ at → Runs l s₀ σ₀ out₀ s σ out
  run_ends L h = record { ran = λ P N W all S. running_end (L P N W all σ₀ out₀ (begun S)) h }

-- the same from the storage before it was opened
moved : (P N W : ℕ) (cs : List Call) (s : Ascending) (σ τ υ : Storage) (out out' : List ℕ) → Frame P N 0 0 σ τ → Ran P N W cs s τ υ out out' → Ran P N W cs s σ υ out out'
moved P N W cs s σ τ υ out out' f r =
    record {
      numbers = r.numbers;
      rep = r.rep;
      shows = r.shows;
      ascends = r.ascends;
      frame = frame_trans P N 0 0 s.guide.written σ τ υ f r.frame;
      long = r.long;
      beyond = r.beyond;
    }

first_written : (p v w : ℕ) → (first_session p v w).guide.written ≡ 0
unfolding first_guide
first_written p v w = refl

-- the number of a replay
module _ (P N : ℕ) (σ : Storage) where
  abbrev Passed : Type 0
  Passed = ((ltb P 1 || ltb most_parallelism P) ≡ false) × (((ltb N 1 || ltb most_places N) ≡ false) × (any short (lengths P N (sizes σ)) ≡ false))

  passed : 0 ≡ verdict (check_open P N (sizes σ)) → Passed
  unfolding check_open check_range
  passed e =
      let x = verdict_head _ _ (sym e) (omega arith) in
      let y = verdict_head _ _ x.1 (omega arith) in
      let z = verdict_head _ _ y.1 (omega arith) in
      (x.0, (y.0, z.0))

  passed_open : (c : Check) → 0 ≡ verdict (check_open P N (sizes σ)) → verdict (check_open P N (sizes σ) ++ (c ∷ [])) ≡ verdict (c ∷ [])
  unfolding check_open check_range verdict
  passed_open c e =
      let x = passed e in
      rw (x.0, x.1.0, x.1.1)

module _ {P N W : ℕ} {l : List ℕ} {σ : Storage} {out : List ℕ} {well : Bool} {many : ℕ} (C : Counts l well many) where
  pub replay_malformed : {n : ℕ} {s : Ascending} → n ≡ refusal.malformed → s ≡ first_session 0 0 0 → well ≡ false → Replays P N W l n s σ σ out out
  unfolding replay_number
  replay_malformed d es e =
      record {
        number_is = rw (C.malformed e) d;
        refused = λ z. (refl, refl);
        unopened = λ z. es;
        ran = λ z. absurd (omega (arith, d, z));
      }

  module _ (w : well ≡ true) where
    pub replay_refused : {n m : ℕ} {s : Ascending} → n ≡ m → s ≡ first_session 0 0 0 → m ≡ verdict (check_open P N (sizes σ)) → (m ≡ 0 → ⊥) → Replays P N W l n s σ σ out out
    unfolding replay_number
    replay_refused d es e h =
        record {
          number_is = rw (C.formed w).1 (d ∙ e ∙ sym (verdict_first (check_open P N (sizes σ)) _ (λ z. h (e ∙ z))));
          refused = λ z. (refl, refl);
          unopened = λ z. es;
          ran = λ z. absurd (h (sym d ∙ z));
        }

    pub replay_no_room : {n : ℕ} {s : Ascending} → n ≡ refusal.too_short → s ≡ first_session 0 0 0 → 0 ≡ verdict (check_open P N (sizes σ)) → length out < many → Replays P N W l n s σ σ out out
    unfolding replay_number verdict
    replay_no_room d es e h =
        let f : ltb (length out) (length (C.formed w).0) ≡ true = lt-ltb (length out) (length (C.formed w).0) (omega (arith, (C.formed w).2)) in
        record {
          number_is = rw (C.formed w).1 (d ∙ sym (passed_open P N σ _ e ∙ rw f));
          refused = λ z. (refl, refl);
          unopened = λ z. es;
          ran = λ z. absurd (omega (arith, d, z));
        }

    -- opening was accepted, and there is room for the answers
    module _ {s : Ascending} {τ : Storage} (h : many ≤ length out) (O : Opens P N W 0 s σ τ) where
      starts : Starts P N W (C.formed w).0 l s τ out
      starts =
          record {
            positive = (enough_of P N σ O.number).one;
            is = (C.formed w).1;
            room = omega (arith, (C.formed w).2);
            rep = O.rep refl;
            first = ap (λ (x : Ascending). x.guide.written) (O.session refl) ∙ first_written P N W;
          }

      pub may_run : MayRun l s τ out
      may_run = record { P = P; N = N; W = W; all = (C.formed w).0; starts = starts }

      pub replay_done : {s' : Ascending} {υ : Storage} {out' : List ℕ} → Runs l s τ out s' υ out' → Replays P N W l 0 s' σ υ out out'
      unfolding replay_number verdict
      replay_done {s'} {υ} {out'} R =
          let f : ltb (length out) (length (C.formed w).0) ≡ false = le-ltb (length out) (length (C.formed w).0) (omega (arith, (C.formed w).2)) in
          let r = R.ran P N W (C.formed w).0 starts in
          record {
            number_is = rw (C.formed w).1 (sym (passed_open P N σ _ O.number ∙ rw f));
            refused = λ x. absurd (x refl);
            unopened = λ x. absurd (x refl);
            ran = λ x. ((C.formed w).0, (C.formed w).1, moved P N W (C.formed w).0 s' σ τ υ out out' (O.frame refl) r);
          }
