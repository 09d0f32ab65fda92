-- What is told of a session after a replay, and the promise of `replay_reason` from that and from the promise of `replay`; and the promise
-- of `order_reason` from the answer after a job. Assumes nothing.
use Rattle.std.specs.Prelude.{◌≡◌, List, ◌⊎◌, ◌≢◌, ℕ, ◌+◌, ◌*◌, ◌≤◌, length}
use Rattle.std.proofs.Math.Path.{refl, ap}
use Rattle.std.proofs.Common.{sym, ◌∙◌, subst, inl, inr}
use Rattle.std.proofs.Math.Option.{Option, some, none}
use Rattle.rules.specs.Limits.{reply_radix, place_radix}
use Rattle.rules.specs.Model.{Model, initial}
use Rattle.rules.specs.Checks.{Sizes}
use Rattle.rules.specs.Calls.{Call, run}
use Rattle.rules.specs.Encoding.{decode}
use Rattle.rules.specs.Reason.{explained, reason_number, job_reason_number}
use Rattle.laws.specs.ReasonProof.{reasons}
use Rattle.laws.specs.ReasonJobs.{job_reason_holds}
use Rattle.laws.specs.GuideInv.{eq_or_ne}
use Rattle.laws.specs.Accepted.{accepted_is, refused_is}
use Rattle.laws.specs.Sound.{Between, between}
use Rattle.session.specs.declared.Session.{Session}
use Rattle.session.specs.Storage.{Storage, storage, with_lists}
use Rattle.session.specs.Rep.{Rep}
use Rattle.opening.specs.Opened.{sizes}
use Rattle.admitting.specs.Promise.{positive}
use Rattle.call_list.specs.Replay.{Replays, Ran, replay_number}
use Rattle.explaining.specs.Explaining as answer
use Rattle.explaining.specs.Explaining.{Reason, explained_as, Small, MayExplain, Explains}
use Rattle.job_reason.specs.JobReason.{JobReason}
use Rattle.job_reason.specs.JobReason as job_answer
use Rattle.job_reason.specs.Explains.{ExplainsJob}
use Rattle.reason.specs.Exported.{replay_reason, ReplayReason, OrderReason}

-- what is asked of a session, and told, after a replay with number n
abbrev pub MayTell : ℕ → Session → List ℕ → List ℕ → Type 0
MayTell n s w pool = n ≡ 0 → MayExplain s w pool

pub record Tells (n : ℕ) (s : Session) (w pool : List ℕ) (asked r : ℕ) : Type 0 where
  pub refused : (n ≡ 0 → ⊥) → r ≡ n
  pub told : n ≡ 0 → (P N : ℕ) (k : Model) (σ : Storage) → Rep P N k s (with_lists σ w pool) → Between P N (length pool) k → r ≡ reason_number (explained N asked k)

-- the number of an answer, by its case
pub small_as : {x y : Reason} → Small x → x ≡ y → Small y
small_as h e = subst (λ (z : Reason). Small z) e h

pub number_waits : {x : Reason} {input place : ℕ} → x ≡ answer.Waits input place → reply_radix * (place_radix * input + place) ≡ reason_number (explained_as x)
unfolding reason_number
number_waits e = rw e

pub number_refused : {x : Reason} {number : ℕ} → x ≡ answer.Refused number → number ≡ reason_number (explained_as x)
unfolding reason_number
number_refused e = rw e

module _ {n : ℕ} {s : Session} {w pool : List ℕ} {asked : ℕ} where
  pub tells_refused : (n ≡ 0 → ⊥) → Tells n s w pool asked n
  tells_refused h = record { refused = λ z. refl; told = λ z. absurd (h z) }

  pub tells_reason : {x : Reason} {r : ℕ} → n ≡ 0 → Explains s w pool asked x → r ≡ reason_number (explained_as x) → Tells n s w pool asked r
  tells_reason z x e = record { refused = λ h. absurd (h z); told = λ _ P N k σ R b. e ∙ ap reason_number (x.is P N k σ R b) }

-- the number of a replay with a reason
module _ (P N : ℕ) (s : Sizes) (room W asked : ℕ) where
  reason_refused : (d : Option (List Call)) → (replay_number P N s room d ≡ 0 → ⊥) → replay_reason P N s room W asked d ≡ replay_number P N s room d
  unfolding replay_reason
  reason_refused none h = refl
  reason_refused (some cs) h = refused_is _ _ _ h

  reason_told : (cs : List Call) → replay_number P N s room (some cs) ≡ 0
      → replay_reason P N s room W asked (some cs) ≡ reason_number (explained N asked (run P N W cs initial))
  unfolding replay_reason
  reason_told cs h = accepted_is _ _ _ h

module _ {P N : ℕ} {l : List ℕ} {n : ℕ} {s : Session} {σ τ : Storage} {out out' : List ℕ} (p : Replays P N l n s σ τ out out') where
  module _ (z : n ≡ 0) where
    cs : List Call
    cs = (p.ran z).0

    read : decode l ≡ some cs
    unfolding cs
    read = (p.ran z).1

    ran : Ran P N cs s σ τ out out'
    unfolding cs
    ran = (p.ran z).2

    one : 1 ≤ P
    one = positive P N (run P N (length σ.pool) cs initial) s τ ran.rep

    sound : Between P N (length τ.pool) (run P N (length σ.pool) cs initial)
    sound = rw ran.frame.pool (between P N (length σ.pool) one cs)

    pub may_tell : MayExplain s τ.waiting τ.pool
    may_tell = record { around = τ; asks = record { parallelism = P; places = N; model = run P N (length σ.pool) cs initial; rep = ran.rep; between = sound } }

  module _ {asked r : ℕ} (t : Tells n s τ.waiting τ.pool asked r) where
    number_is : (n ≡ 0) ⊎ (n ≢ 0) → r ≡ replay_reason P N (sizes σ) (length out) (length σ.pool) asked (decode l)
    number_is (inl z) =
        let zero_is : replay_number P N (sizes σ) (length out) (some (cs z)) ≡ 0 = rw (read z) at (sym p.number_is ∙ z) in
        t.told z P N (run P N (length σ.pool) (cs z) initial) τ (ran z).rep (sound z)
        ∙ sym (reason_told P N (sizes σ) (length out) (length σ.pool) asked (cs z) zero_is)
        ∙ ap (replay_reason P N (sizes σ) (length out) (length σ.pool) asked) (sym (read z))
    number_is (inr h) =
        t.refused h ∙ p.number_is ∙ sym (reason_refused P N (sizes σ) (length out) (length σ.pool) asked (decode l) (λ e. h (p.number_is ∙ e)))

    pub replays_reason : ReplayReason P N l asked r σ τ out out'
    replays_reason =
        record { number = n; session = s; replays = p; is = number_is (eq_or_ne n 0); holds = λ z calls d v. reasons P N (length σ.pool) (one z) calls asked v }

-- the same of the storage by its slices
pub reason_over : {P N asked r : ℕ} {l sp o t rs m lo w pool out out' : List ℕ} {σ τ : Storage} → ReplayReason P N l asked r σ τ out out'
    → sp ≡ τ.spans → o ≡ τ.order → t ≡ τ.tally → rs ≡ τ.rows → m ≡ τ.marks → lo ≡ τ.locations → w ≡ τ.waiting → pool ≡ τ.pool
    → ReplayReason P N l asked r σ (storage sp o t rs m lo w pool) out out'
reason_over h e₀ e₁ e₂ e₃ e₄ e₅ e₆ e₇ = rw (e₀, e₁, e₂, e₃, e₄, e₅, e₆, e₇) h

-- after a job, the answer x being what it is
module _ {job : List ℕ} {asked : ℕ} {x : JobReason} (h : ExplainsJob job asked x) where
  pub explains_as : {y : JobReason} → x ≡ y → ExplainsJob job asked y
  explains_as e = subst (λ (z : JobReason). ExplainsJob job asked z) e h

  pub order_stopped : {y : Reason} {r : ℕ} → x ≡ job_answer.Stopped y → r ≡ reason_number (explained_as y) → OrderReason job asked r
  unfolding job_reason_number
  order_stopped e i = record { is = i ∙ ap job_reason_number (explains_as e).is; holds = job_reason_holds job asked }

  pub order_refused : (line code : ℕ) → x ≡ job_answer.Refused line code → OrderReason job asked (reply_radix * line + code)
  unfolding job_reason_number
  order_refused line code e = record { is = ap job_reason_number (explains_as e).is; holds = job_reason_holds job asked }
