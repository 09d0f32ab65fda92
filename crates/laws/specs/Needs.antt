-- Document 02, M-101, the claim about the bytes of every job: what is read off them is what running the job uses. Proved in NeedsProof.
-- Definitions only. Assumes nothing.
use Rattle.std.specs.Prelude.{◌≡◌, List, ◌⊎◌, ℕ, ◌+◌, ◌≤◌, length}
use Rattle.rules.specs.Limits.{most_job_bytes}
use Rattle.rules.specs.Refusals as refusal
use Rattle.rules.specs.Model.{Model}
use Rattle.rules.specs.Checks.{pooled}
use Rattle.rules.specs.Job.{finished, rejected, outcome}
use Rattle.rules.specs.Needs.{Needs, most_spans, needing, unread, needs}
use Rattle.laws.specs.Widths.{In32}

-- what a model has used
unfoldable pub used : Model → Needs
used k = record { registrations = length k.adds; pool = pooled k.adds; flushes = k.flushes }

pub record Needed (bs : List ℕ) : Type 0 where
  -- accepted, the job used exactly its needs, and the spans that it released, which span 0's number counts, are at most so many
  pub accepted : (P : ℕ) (k : Model) → outcome bs ≡ finished P k → (needs bs ≡ needing (used k)) × (k.guide.first ≤ most_spans (used k))
  -- refused with 15 or 16, it gives the same number and line here
  pub malformed_alike : (n : ℕ) → outcome bs ≡ rejected n refusal.malformed → needs bs ≡ unread n refusal.malformed
  pub long_alike : (n : ℕ) → outcome bs ≡ rejected n refusal.long_job → needs bs ≡ unread n refusal.long_job
  -- no other number ever comes, and no line past the one after the last
  pub only : (n code : ℕ) → needs bs ≡ unread n code → ((code ≡ refusal.malformed) ⊎ (code ≡ refusal.long_job)) × (n ≤ most_job_bytes + 1)
  -- each call and each list number has a byte of the job
  pub few : (c : Needs) → needs bs ≡ needing c → (c.registrations + c.flushes ≤ most_job_bytes) × (c.pool ≤ most_job_bytes)
  -- so the four numbers fit 32 bits
  pub fit : (c : Needs) → needs bs ≡ needing c → In32 c.registrations × In32 c.pool × In32 c.flushes × In32 (most_spans c)
