-- Laws of the answer after a job: where its session is asked, where its refusal is told, and what the program prints. Assumes nothing.
use Rattle.std.specs.Prelude.{List, ◌≢◌, ◌≡◌, refl, ℕ, length}
use Rattle.std.proofs.Math.Option.{Option}
use Rattle.std.proofs.Math.Path.{sym, ap, subst}
use Rattle.std.proofs.Common.{◌∙◌, arith}
use borrow.Author.Tests.{ne_eqb}
use Rattle.rules.specs.Refusals as refusal
use Rattle.rules.specs.Answer.{number_of}
use Rattle.rules.specs.declared.Refusal.{Refusal}
use Rattle.rules.specs.declared.Refusal.TheVariants.{OutOfRange, TooShort, TooManyNumbers, FlaggedPlace, UnknownPlace, RepeatedOutput, Closed}
use Rattle.rules.specs.declared.Refusal.TheVariants.{TakenPlace, TooManyRegistrations, FullPool, TooManyFlushes}
use Rattle.rules.specs.declared.Refusal.TheVariants.{StillWaiting, NotHeld, GuideExhausted, Malformed, LongJob, LongListing, UnknownLane, NeverAccepted, NotWaiting, ProfileBreach}
use Rattle.rules.specs.Job.{Outcome, rejected, outcome, Reached, reached}
use Rattle.rules.specs.Listing.{line, word_status}
use Rattle.rules.specs.Reason as rule
use Rattle.rules.specs.Reason.{explained, of_session, after_job, job_explained, reason_lines, reason_program, word_input, word_place}
use Rattle.laws.specs.JobSession.{waiting_opened}
use Rattle.session.specs.declared.Session.{Session}
use Rattle.session.specs.Storage.{Storage, storage}
use Rattle.writer.specs.Wrote.{Wrote, wrote_then, wrote_in, wrote_whole}
use Rattle.explaining.specs.Explaining as why
use Rattle.explaining.specs.Explaining.{Reason, explained_as, MayExplain, Explains}
use Rattle.jobturn.specs.Ends.{End}
use Rattle.jobturn.specs.Ends as end
use Rattle.job.specs.Run.{StandsReached, Left, Ran}
use Rattle.job_reason.specs.JobReason.{JobReason}
use Rattle.job_reason.specs.JobReason as reason
use Rattle.job_reason.specs.Explains.{job_explained_as, ExplainsJob, Ended, answer_bytes, Answered}

-- the session is asked of a job that is finished, or refused with 12
abbrev pub Asked : End → Type 0
Asked (end.Finished f) = Unit {0}
Asked (end.Rejected n code) = code ≡ refusal.still_waiting

-- of the refusals only one has that number
pub only_waiting : (e : Refusal) → number_of e ≡ refusal.still_waiting → e ≡ StillWaiting
only_waiting OutOfRange h = absurd (omega (arith, h))
only_waiting TooShort h = absurd (omega (arith, h))
only_waiting TooManyNumbers h = absurd (omega (arith, h))
only_waiting FlaggedPlace h = absurd (omega (arith, h))
only_waiting UnknownPlace h = absurd (omega (arith, h))
only_waiting RepeatedOutput h = absurd (omega (arith, h))
only_waiting Closed h = absurd (omega (arith, h))
only_waiting TakenPlace h = absurd (omega (arith, h))
only_waiting TooManyRegistrations h = absurd (omega (arith, h))
only_waiting FullPool h = absurd (omega (arith, h))
only_waiting TooManyFlushes h = absurd (omega (arith, h))
only_waiting StillWaiting h = refl
only_waiting NotHeld h = absurd (omega (arith, h))
only_waiting GuideExhausted h = absurd (omega (arith, h))
only_waiting Malformed h = absurd (omega (arith, h))
only_waiting LongJob h = absurd (omega (arith, h))
only_waiting LongListing h = absurd (omega (arith, h))
only_waiting UnknownLane h = absurd (omega (arith, h))
only_waiting NeverAccepted h = absurd (omega (arith, h))
only_waiting NotWaiting h = absurd (omega (arith, h))
only_waiting ProfileBreach h = absurd (omega (arith, h))

-- then it was opened: it stands for the model that the job reaches, and the answer is that model's
record Stops (job : List ℕ) (s : Session) (σ τ : Storage) : Type 0 where
  last : Reached
  standing : StandsReached last s σ τ
  is : (r : ℕ) → job_explained r job ≡ rule.stopped (explained last.places r last.model)

stops : {job : List ℕ} (e : End) {s : Session} {σ τ : Storage} {a b : List ℕ} → Ran job e s σ τ a b → Asked e → Stops job s σ τ
unfolding job_explained after_job of_session
stops {job} (end.Finished f) h q =
    let c = h.tells in
    record {
      last = c.last;
      standing = c.standing;
      is = λ r. ap (λ (x : Outcome). after_job r x (reached job)) c.is ∙ ap (λ (x : Option Reached). rule.stopped (of_session r x)) c.reached_is;
    }
stops {job} (end.Rejected n code) {s} {σ} {τ} h q =
    let o : outcome job ≡ rejected n refusal.still_waiting = h.tells.is ∙ ap (rejected n) q in
    let y = waiting_opened job n o in
    record {
      last = y.0;
      standing = subst (λ (x : Option Reached). Left x s σ τ) y.1 h.tells.left;
      is = λ r. ap (λ (x : Outcome). after_job r x (reached job)) o ∙ ap (λ (x : Option Reached). rule.stopped (of_session r x)) y.1;
    }

module _ {e : End} {s : Session} {job sp o t rs m l w pool a b : List ℕ} {σ : Storage} (h : Ran job e s σ (storage sp o t rs m l w pool) a b) where
  pub has_ended : Ended e s w pool
  has_ended = record { job = job; lent = σ; around = storage sp o t rs m l w pool; a = a; b = b; ran = h }

  pub may_explain : Asked e → MayExplain s w pool
  may_explain q =
      let k = stops e h q in
      let g = k.standing.stands in
      record {
        around = storage sp o t rs m l w pool;
        asks = record { parallelism = k.last.parallelism; places = k.last.places; model = k.last.model; rep = g.rep; between = rw g.pool g.between };
      }

  pub explains_stopped : Asked e → {r : ℕ} {x : Reason} → Explains s w pool r x → ExplainsJob job r (reason.Stopped x)
  explains_stopped q {r} {x} p =
      let k = stops e h q in
      let g = k.standing.stands in
      let u = storage sp o t rs m l w pool in
      record {
        is = ap rule.stopped (p.is k.last.parallelism k.last.places k.last.model u g.rep (rw g.pool g.between)) ∙ sym (k.is r);
        small = p.small;
      }

  pub explains_refused : {n code : ℕ} → e ≡ end.Rejected n code → code ≢ refusal.still_waiting → (r : ℕ) → ExplainsJob job r (reason.Refused n code)
  unfolding job_explained after_job
  explains_refused {n} {code} i q r =
      let h' = subst (λ (y : End). Ran job y s σ (storage sp o t rs m l w pool) a b) i h in
      let o : job_explained r job ≡ after_job r (rejected n code) (reached job) = ap (λ (x : Outcome). after_job r x (reached job)) h'.tells.is in
      record { is = sym (o ∙ rw (after_job, ne_eqb code refusal.still_waiting q)); small = h'.low }

-- the same of what the bytes end as
pub wrote_to : {a b c : List ℕ} {at r : ℕ} {t : List ℕ} → Wrote a b at r t → c ≡ b → Wrote a c at r t
wrote_to {a} {at = at} {r = r} {t = t} w e = subst (λ (l : List ℕ). Wrote a l at r t) (sym e) w

-- what is printed of a reason, and of a number
pub wrote_reason : {o a b c : List ℕ} {p q r : ℕ} {x : Reason} (input place : ℕ) → x ≡ why.Waits input place
    → Wrote o a 0 p (line word_status 0) → Wrote a b p q (line word_input input) → Wrote b c q r (line word_place place)
    → Wrote o c 0 r (reason_lines (rule.stopped (explained_as x)))
unfolding reason_lines
wrote_reason {o} {c = c} {r = r} input place e u v w =
    subst (λ (y : Reason). Wrote o c 0 r (reason_lines (rule.stopped (explained_as y)))) (sym e) (wrote_then u (wrote_then v w))

pub wrote_number : {o a : List ℕ} {p : ℕ} {x : Reason} (number : ℕ) → x ≡ why.Refused number → Wrote o a 0 p (line word_status number)
    → Wrote o a 0 p (reason_lines (rule.stopped (explained_as x)))
unfolding reason_lines
wrote_number {o} {a} {p} number e w = subst (λ (y : Reason). Wrote o a 0 p (reason_lines (rule.stopped (explained_as y)))) (sym e) w

-- what was written is what the program prints
pub answered : {job : List ℕ} {r : ℕ} {x y : JobReason} {entry exit : List ℕ} {n : ℕ} → ExplainsJob job r x → x ≡ y → length exit ≡ answer_bytes
    → Wrote entry exit 0 n (reason_lines (job_explained_as y)) → Answered job r entry exit n
unfolding reason_program
answered {job} {r} {x} {y} {entry} {exit} {n} h e l w =
    let t : reason_lines (job_explained_as y) ≡ reason_program r job = ap (λ (z : JobReason). reason_lines (job_explained_as z)) (sym e) ∙ ap reason_lines h.is in
    let w' = subst (λ (z : List ℕ). Wrote entry exit 0 n z) t w in
    record { small = omega (arith, wrote_in w', l); text = w'.holds; bytes = wrote_whole w' }
