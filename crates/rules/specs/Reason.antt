-- Document 02, M-105: why a registration waits. First of a model, then as a host is told it, then after a job, as a host is told it and as
-- the program prints it. Assumes nothing.
use Rattle.std.specs.Prelude.{List, [], ◌∷◌, ◌++◌, Bool, true, false, not, ℕ, ◌+◌, ◌*◌, length, leb, eqb}
use Rattle.std.proofs.Math.Option.{Option, some, none}
use Rattle.rules.specs.Limits.{reply_radix, place_radix}
use Rattle.rules.specs.Refusals as refusal
use Rattle.rules.specs.Text.{bytes}
use Rattle.rules.specs.Model.{Model, Pending, reg_of, greatest, watermark}
use Rattle.rules.specs.Checks.{Check, verdict, any}
use Rattle.rules.specs.Calls.{unless_refused}
use Rattle.rules.specs.Job.{Outcome, finished, rejected, outcome, Reached, reached}
use Rattle.rules.specs.Listing.{word_status, line, rejection}

-- registration r waits: it is one of those that do
unfoldable pub waits : ℕ → Model → Bool
waits r k = any (λ (w : Pending). eqb w.reg r) k.pending

-- "19, never accepted; 20, accepted but not waiting"
unfoldable pub check_reason : ℕ → Model → List Check
check_reason r k =
    record { fails = leb (length k.adds) r; number = refusal.never_accepted }
    ∷ (record { fails = not (waits r k); number = refusal.not_waiting } ∷ [])

-- "its greatest input and the lowest untracked place", which is the high mark plus 1, or 0 with no mark
pub record Reason : Type 0 where
  pub input : ℕ
  pub place : ℕ

unfoldable pub reason : ℕ → ℕ → Model → Reason
reason N r k = record { input = greatest (reg_of k r).ins; place = watermark N k }

-- the reason, or the number of a refusal, which is all that it gives
pub data Explained : Type 0 where
  because : Reason → Explained
  unexplained : ℕ → Explained

unfoldable pub explained : ℕ → ℕ → Model → Explained
explained N r k =
    let n : ℕ = verdict (check_reason r k) in
    unless_refused n (unexplained n) (because (reason N r k))

-- as a host is told it, by one number
unfoldable pub reason_number : Explained → ℕ
reason_number (because x) = reply_radix * (place_radix * x.input + x.place)
reason_number (unexplained n) = n

-- after a job: the answer of its session where it stopped, or the line and the number of its refusal
pub data JobExplained : Type 0 where
  stopped : Explained → JobExplained
  refused : ℕ → ℕ → JobExplained

-- a job that was accepted, and one that 12 refuses, has opened a session
unfoldable pub of_session : ℕ → Option Reached → Explained
of_session r none = unexplained refusal.never_accepted
of_session r (some x) = explained x.places r x.model

-- "Where it is accepted, or refused with 12, the answer is that of its session where it stopped; where it is refused otherwise", its line
-- and number
unfoldable pub after_job : ℕ → Outcome → Option Reached → JobExplained
after_job r (finished P k) session = stopped (of_session r session)
after_job r (rejected n code) session =
    elim (eqb code refusal.still_waiting) [ true ↦ stopped (of_session r session) | false ↦ refused n code ]

unfoldable pub job_explained : ℕ → List ℕ → JobExplained
job_explained r job = after_job r (outcome job) (reached job)

-- as a host is told it: for 19 and 20 no line is at fault
unfoldable pub job_reason_number : JobExplained → ℕ
job_reason_number (stopped e) = reason_number e
job_reason_number (refused n code) = reply_radix * n + code

-- as the program prints it
abbrev pub word_input : List ℕ
word_input = bytes "input="

abbrev pub word_place : List ℕ
word_place = bytes "place="

unfoldable pub reason_lines : JobExplained → List ℕ
reason_lines (stopped (because x)) = line word_status 0 ++ (line word_input x.input ++ line word_place x.place)
reason_lines (stopped (unexplained n)) = line word_status n
reason_lines (refused n code) = rejection n code

unfoldable pub reason_program : ℕ → List ℕ → List ℕ
reason_program r job = reason_lines (job_explained r job)
