-- Setting a place over marks and waiting storage: what it asks, what it leaves, and the laws by which the function's proof goes.
-- Assumes nothing.
use Rattle.std.specs.Prelude.{◌≡◌, List, [], ℕ, ◌≤◌, ◌<◌, length, set}
use Rattle.std.proofs.Common.{arith, length-set}
use Rattle.rules.specs.Limits.{mark_set}
use Rattle.rules.specs.Model.{Pending, run_from, due, left}
use Rattle.tracking.specs.Tracking.{tracked_in}
use Rattle.tracking.specs.Places.{set_from}
use Rattle.tracking.specs.Loops.{run_most}
use Rattle.taken.specs.Flag.{with_flag}
use Rattle.registrar.specs.Delayed.{Delayed, Aside, Advancing, AdvancesSet}
use Rattle.waiting.specs.Apart.{delayed_flag}

-- x is one of v places, as many as the watermark says are known to be tracked from the first on, and the waiting storage holds some
-- registrations
pub record Marking (marks waiting : List ℕ) (v watermark x : ℕ) : Type 0 where
  pub inside : x < v
  pub long : v ≤ length marks
  pub low : watermark ≤ run_from (tracked_in marks) v 0
  pub pending : List Pending
  pub delayed : Delayed waiting v watermark pending 0 []

-- x is marked as set and taken, the watermark is that of the marks, and what is below it has come off onto the stack
pub record Marks (marks waiting : List ℕ) (v watermark x to top : ℕ) (marks' waiting' : List ℕ) : Type 0 where
  pub marks_are : marks' ≡ set marks x mark_set
  pub watermark_is : to ≡ run_from (tracked_in marks') v 0
  pub rises : watermark ≤ to
  pub delayed : (ps : List Pending) → Delayed waiting v watermark ps 0 [] → Delayed waiting' v to (left to ps) top (due to ps)
  pub aside : Aside (with_flag waiting v x 1) v waiting'

module _ {marks waiting : List ℕ} {v watermark x : ℕ} (a : Marking marks waiting v watermark x) {marks' : List ℕ} (em : marks' ≡ set marks x mark_set) where
  pub marked_low : (v ≤ length marks') × (watermark ≤ run_from (tracked_in marks') v 0)
  marked_low =
      rw em (omega (arith, a.long, length-set marks x mark_set), set_from v watermark marks x a.long a.low)

  module _ {flagged : List ℕ} (ef : flagged ≡ with_flag waiting v x 1) {to : ℕ} (et : to ≡ run_from (tracked_in marks') v 0) where
    pub marked_advancing : Advancing flagged v watermark to 0
    marked_advancing =
        record {
          ps = a.pending;
          st = [];
          delayed = rw ef (delayed_flag waiting 1 a.inside a.delayed);
          order = omega (arith, marked_low.1);
          high = omega (arith, run_most (tracked_in marks') v);
        }

    pub marks_of : {top : ℕ} {waiting' : List ℕ} → AdvancesSet flagged v watermark to top waiting' → Marks marks waiting v watermark x to top marks' waiting'
    marks_of s =
        record {
          marks_are = em;
          watermark_is = et;
          rises = omega (arith, marked_low.1);
          delayed = λ ps d. s.delayed ps (rw ef (delayed_flag waiting 1 a.inside d));
          aside = rw ef at s.kept.aside;
        }
