-- Document 02, M-101: what a job needs, from its bytes alone. Its lines are gone through as Job's are, with counts in the model's place: P
-- and V are read and not judged, no call is judged, and every line is read. Only 16 and 15 are refused, in that order. Assumes nothing.
use Rattle.std.specs.Prelude.{List, [], ◌∷◌, Bool, true, false, ℕ, suc, ◌+◌, ◌*◌, length, ltb}
use Rattle.std.proofs.Math.Option.{some, none}
use Rattle.rules.specs.Limits.{most_job_bytes}
use Rattle.rules.specs.Refusals as refusal
use Rattle.rules.specs.Calls.{Call, set, add, flush, final}
use Rattle.rules.specs.Job.{single, label, inputs, last, start_of, inputs_of, outputs_of, Begun, nothing, labelled, reading, places_of, parallelism_of, line_of, lines, ragged}

-- "its registrations n, pool numbers w, plain flushes f"
pub record Needs : Type 0 where
  pub registrations : ℕ
  pub pool : ℕ
  pub flushes : ℕ

unfoldable pub no_needs : Needs
no_needs = record { registrations = 0; pool = 0; flushes = 0 }

-- the needs with a call more
unfoldable pub with_call : Call → Needs → Needs
with_call (set x) c = c
with_call (add x ins outs) c = record { registrations = suc c.registrations; pool = c.pool + length ins + length outs; flushes = c.flushes }
with_call flush c = record { registrations = c.registrations; pool = c.pool; flushes = suc c.flushes }
with_call final c = c

-- "2n + 32(f + 1) as a ceiling on released spans"
unfoldable pub most_spans : Needs → ℕ
most_spans c = 2 * c.registrations + 32 * (c.flushes + 1)

-- what is read: the needs, or the line and the number of a refusal
pub data Reading : Type 0 where
  needing : Needs → Reading
  unread : ℕ → ℕ → Reading

-- after `final=1` on the line before n, anything more is surplus
unfoldable pub ending : ℕ → List (List ℕ) → Bool → Needs → Reading
ending n [] false c = needing c
ending n [] true c = unread n refusal.malformed
ending n (l ∷ ls) rag c = unread n refusal.malformed

-- the lines from line n on; a lane is read and not judged
unfoldable pub need_lines : ℕ → Begun → List (List ℕ) → Bool → Needs → Reading
need_lines n begun [] rag c = unread n refusal.malformed
need_lines n nothing (l ∷ ls) rag c =
    elim (start_of (line_of l)) [
      | some (single call) ↦ need_lines (suc n) nothing ls rag (with_call call c)
      | some (label x) ↦ need_lines (suc n) (labelled x) ls rag c
      | some (inputs ins) ↦ need_lines (suc n) (reading 0 ins) ls rag c
      | some last ↦ ending (suc n) ls rag (with_call final c)
      | none ↦ unread n refusal.malformed
    ]
need_lines n (labelled x) (l ∷ ls) rag c =
    elim (inputs_of (line_of l)) [
      | some ins ↦ need_lines (suc n) (reading x ins) ls rag c
      | none ↦ unread n refusal.malformed
    ]
need_lines n (reading x ins) (l ∷ ls) rag c =
    elim (outputs_of (line_of l)) [
      | some outs ↦ need_lines (suc n) nothing ls rag (with_call (add x ins outs) c)
      | none ↦ unread n refusal.malformed
    ]

-- line 2
unfoldable pub need_places : List (List ℕ) → Bool → Reading
need_places [] rag = unread 2 refusal.malformed
need_places (l ∷ ls) rag = elim (places_of (line_of l)) [ some N ↦ need_lines 3 nothing ls rag no_needs | none ↦ unread 2 refusal.malformed ]

-- line 1
unfoldable pub need_job : List (List ℕ) → Bool → Reading
need_job [] rag = unread 1 refusal.malformed
need_job (l ∷ ls) rag = elim (parallelism_of (line_of l)) [ some P ↦ need_places ls rag | none ↦ unread 1 refusal.malformed ]

-- 16: a job over 65,536 bytes, before anything else
unfoldable pub needs : List ℕ → Reading
needs bs = elim (ltb most_job_bytes (length bs)) [ true ↦ unread 1 refusal.long_job | false ↦ need_job (lines bs) (ragged bs) ]
