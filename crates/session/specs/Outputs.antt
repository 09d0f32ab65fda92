-- The outputs of a placed registration: what settling them asks, and what it leaves. Assumes nothing.
use Rattle.std.specs.Prelude.{◌≡◌, List, ℕ, ◌≤◌, length}
use Rattle.std.proofs.Common.{ap, ◌∙◌, subst, arith}
use Rattle.rules.specs.Limits.{mark_written}
use Rattle.rules.specs.Model.{run_from}
use Rattle.lists.specs.Part.{part, Listed}
use Rattle.tracking.specs.Tracking.{Stamped, tracked_in}
use Rattle.tracking.specs.Places.{stamped_length, stamped_from}

pub record Settling (marks locations pool : List ℕ) (at n v watermark : ℕ) : Type 0 where
  pub marks_listed : Listed pool at n (length marks)
  pub locations_listed : Listed pool at n (length locations)
  pub long : v ≤ length marks
  pub low : watermark ≤ run_from (tracked_in marks) v 0

-- the places xs are stamped, and r is the count of leading tracked places
pub record Settled (marks locations xs : List ℕ) (loc v : ℕ) (marks' locations' : List ℕ) (r : ℕ) : Type 0 where
  pub stamps : Stamped marks locations xs loc marks' locations'
  pub watermark_is : r ≡ run_from (tracked_in marks') v 0

pub asked_advance : (marks marks' locations locations' pool : List ℕ) (at n v u watermark loc : ℕ) → u ≡ v →
    Settling marks locations pool at n v watermark → Stamped marks locations (part pool at n) loc marks' locations'
    → (u ≤ length marks') × (watermark ≤ run_from (tracked_in marks') u 0)
asked_advance marks marks' locations locations' pool at n v u watermark loc e a s =
    rw (e, s.marks_are) (omega (arith, a.long, stamped_length marks (part pool at n) mark_written), stamped_from v watermark marks (part pool at n) a.long a.low)

pub settled_by : (marks marks' locations locations' xs : List ℕ) (loc v u r : ℕ) → u ≡ v → Stamped marks locations xs loc marks' locations' → r ≡ run_from (tracked_in marks') u 0
    → Settled marks locations xs loc v marks' locations' r
settled_by marks marks' locations locations' xs loc v u r eu s e = record { stamps = s; watermark_is = e ∙ ap (λ (x : ℕ). run_from (tracked_in marks') x 0) eu }

-- the location by another name
pub settled_at : {marks locations xs marks' locations' : List ℕ} {l loc v r : ℕ} → l ≡ loc → Settled marks locations xs l v marks' locations' r → Settled marks locations xs loc v marks' locations' r
settled_at {marks} {locations} {xs} {marks'} {locations'} {l} {loc} {v} {r} e s = subst (λ (x : ℕ). Settled marks locations xs x v marks' locations' r) e s
