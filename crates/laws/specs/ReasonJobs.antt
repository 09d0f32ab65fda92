-- Document 02, M-105, of jobs: after an accepted job no registration waits, and a reason that is given after a job is true, 12 having
-- refused the job.
use Rattle.std.specs.Prelude.{◌≡◌, refl, List, ◌⊎◌, ◌≢◌, true, false, ℕ, ◌≤◌, ◌<◌, length, eqb}
use Rattle.std.proofs.Common.{sym, ap, ◌∙◌, inl, inr, arith, eqb-true, le-leb}
use Rattle.std.proofs.Math.Option.{Option, some, none}
use Rattle.std.proofs.lemmas.Bool.{lt-leb}
use Rattle.rules.specs.Limits.{job_pool}
use Rattle.rules.specs.Refusals as refusal
use Rattle.rules.specs.Model.{Model}
use Rattle.rules.specs.Checks.{verdict}
use Rattle.rules.specs.Job.{Outcome, finished, rejected, outcome, Reached, reached}
use Rattle.rules.specs.Reason.{check_reason, Reason, reason, because, unexplained, explained, stopped, refused, of_session, after_job, job_explained}
use Rattle.laws.specs.ModelBase.{bool_cases}
use Rattle.laws.specs.History.{lt_or_le}
use Rattle.laws.specs.GuideInv.{eq_or_ne}
use Rattle.laws.specs.Accepted.{accepted_is, refused_is}
use Rattle.laws.specs.JobSession.{reached_between, finished_reached}
use Rattle.laws.specs.Reason.{JobHolds}
use Rattle.laws.specs.ReasonProof.{closed_waits_none, reason_holds}

-- a refusal or a reason, by the checks
explained_refused : (N r : ℕ) (k : Model) (n : ℕ) → verdict (check_reason r k) ≡ n → n ≢ 0 → explained N r k ≡ unexplained n
unfolding explained
explained_refused N r k n e h = rw e (refused_is n (unexplained n) (because (reason N r k)) h)

explained_because : (N r : ℕ) (k : Model) (x : Reason) → explained N r k ≡ because x → (verdict (check_reason r k) ≡ 0) × (reason N r k ≡ x)
unfolding explained
explained_because N r k x e = go (eq_or_ne (verdict (check_reason r k)) 0)
  where
    n : ℕ
    n = verdict (check_reason r k)

    go : (verdict (check_reason r k) ≡ 0) ⊎ (verdict (check_reason r k) ≢ 0) → (verdict (check_reason r k) ≡ 0) × (reason N r k ≡ x)
    go (inl z) = let f : because (reason N r k) ≡ because x = sym (accepted_is n (unexplained n) (because (reason N r k)) z) ∙ e in (z, (cc))
    go (inr z) = let f : unexplained n ≡ because x = sym (refused_is n (unexplained n) (because (reason N r k)) z) ∙ e in let y : ◌≡◌ {A = ℕ} 0 1 = cc in absurd (omega arith)

-- after an accepted job every registration that was accepted is not waiting, and every other number was never accepted
pub accepted_waits_none : (job : List ℕ) (P : ℕ) (k : Model) → outcome job ≡ finished P k → (r : ℕ)
    → (length k.adds ≤ r → job_explained r job ≡ stopped (unexplained refusal.never_accepted)) × (r < length k.adds → job_explained r job ≡ stopped (unexplained refusal.not_waiting))
unfolding job_explained after_job of_session check_reason verdict
accepted_waits_none job P k o r = (never, idle)
  where
    s : (N : ℕ) × (reached job ≡ some (record { parallelism = P; places = N; model = k })) × (k.closed ≡ true)
    s = finished_reached job P k o

    said : (n : ℕ) → verdict (check_reason r k) ≡ n → n ≢ 0 → job_explained r job ≡ stopped (unexplained n)
    said n e h = rw (o, s.1) (ap stopped (explained_refused s.0 r k n e h))

    never : length k.adds ≤ r → job_explained r job ≡ stopped (unexplained refusal.never_accepted)
    never h = said refusal.never_accepted (rw (verdict, le-leb (length k.adds) r h)) (omega arith)

    idle : r < length k.adds → job_explained r job ≡ stopped (unexplained refusal.not_waiting)
    idle h = said refusal.not_waiting (rw (verdict, lt-leb (length k.adds) r h, closed_waits_none (reached_between job _ s.1).1 s.2 r)) (omega arith)

-- a reason is given by a session, and not where another number than 12 refused the job
of_session_because : (r : ℕ) (y : Option Reached) (x : Reason) → of_session r y ≡ because x → (z : Reached) × (y ≡ some z) × (explained z.places r z.model ≡ because x)
unfolding of_session
of_session_because r none x e = let z : ◌≡◌ {A = ℕ} 0 1 = cc in absurd (omega arith)
of_session_because r (some z) x e = (z, refl, e)

rejected_because : (r n code : ℕ) (y : Option Reached) (x : Reason) → after_job r (rejected n code) y ≡ stopped (because x) → (code ≡ refusal.still_waiting) × (of_session r y ≡ because x)
unfolding after_job
rejected_because r n code y x h = go (bool_cases (eqb code refusal.still_waiting))
  where
    go : (eqb code refusal.still_waiting ≡ true) ⊎ (eqb code refusal.still_waiting ≡ false) → (code ≡ refusal.still_waiting) × (of_session r y ≡ because x)
    go (inl e) = let f : stopped (of_session r y) ≡ stopped (because x) = rw (after_job, e) at h in (eqb-true code refusal.still_waiting e, (cc))
    go (inr e) = let f : refused n code ≡ stopped (because x) = rw (after_job, e) at h in let z : ◌≡◌ {A = ℕ} 0 1 = cc in absurd (omega arith)

pub job_reason_holds : (job : List ℕ) (r : ℕ) (x : Reason) → job_explained r job ≡ stopped (because x) → JobHolds job r x
unfolding job_explained
job_reason_holds job r x e = go (outcome job) refl
  where
    contrary : (P : ℕ) (k : Model) → outcome job ≡ finished P k → (r < length k.adds) ⊎ (length k.adds ≤ r) → ⊥
    contrary P k o (inl h) = let f = (accepted_waits_none job P k o r).1 h in let z : ◌≡◌ {A = ℕ} 0 1 = cc in omega arith
    contrary P k o (inr h) = let f = (accepted_waits_none job P k o r).0 h in let z : ◌≡◌ {A = ℕ} 0 1 = cc in omega arith

    go : (o : Outcome) → outcome job ≡ o → JobHolds job r x
    go (finished P k) o = absurd (contrary P k o (lt_or_le r (length k.adds)))
    go (rejected n code) o =
        let a = rejected_because r n code (reached job) x (rw o at e) in
        let s = of_session_because r (reached job) x a.1 in
        let b = reached_between job s.0 s.1 in
        let w = explained_because s.0.places r s.0.model x s.2 in
        record {
          line = n;
          rejected_by = o ∙ ap (rejected n) a.0;
          session = s.0;
          session_is = s.1;
          holds = rw w.1 at (reason_holds s.0.parallelism s.0.places job_pool b.0 s.0.model b.1 r w.0);
        }
