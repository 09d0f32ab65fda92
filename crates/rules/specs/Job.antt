-- Document 01, "Summary, job and listing": the text of a job, from its bytes to the model at its end or to the first refusal with its
-- line; and of document 02 the line of a lane (M-104). Reading and running go line by line. How open points are read stands in
-- docs/DECISIONS.md. Assumes nothing.
use Rattle.std.specs.Prelude.{List, [], ◌∷◌, ◌++◌, Bool, true, false, not, ◌&&◌, ℕ, suc, ◌+◌, ◌-◌, ◌*◌, ◌^◌, length, leb, ltb, eqb}
use Rattle.std.proofs.Math.Option.{Option, some, none}
use Rattle.rules.specs.Limits.{most_job_bytes, job_parallelism, job_places, job_pool}
use Rattle.rules.specs.Refusals as refusal
use Rattle.rules.specs.Text.{bytes, newline, comma, zero_digit, nine_digit}
use Rattle.rules.specs.Model.{Model, initial}
use Rattle.rules.specs.Checks.{Sizes, spans_needed, waiting_needed, tally_needed, verdict, check_open}
use Rattle.rules.specs.Calls.{Call, set, add, flush, final, answer, step}

-- the keys, and the two lines that have one form only
abbrev pub key_parallelism : List ℕ
key_parallelism = bytes "parallelism="

abbrev pub key_places : List ℕ
key_places = bytes "places="

abbrev pub key_set : List ℕ
key_set = bytes "set="

abbrev pub key_lane : List ℕ
key_lane = bytes "lane="

abbrev pub key_in : List ℕ
key_in = bytes "in="

abbrev pub key_out : List ℕ
key_out = bytes "out="

abbrev pub flush_text : List ℕ
flush_text = bytes "flush=1"

abbrev pub final_text : List ℕ
final_text = bytes "final=1"

-- the lines that byte 10 ends; what stands after the last byte 10 is no line
unfoldable pub lines_from : List ℕ → List ℕ → List (List ℕ)
lines_from so_far [] = []
lines_from so_far (b ∷ bs) = elim (eqb b newline) [ true ↦ so_far ∷ lines_from [] bs | false ↦ lines_from (so_far ++ (b ∷ [])) bs ]

unfoldable pub lines : List ℕ → List (List ℕ)
lines bs = lines_from [] bs

-- the job ends without byte 10
unfoldable pub ragged : List ℕ → Bool
ragged [] = false
ragged (b ∷ []) = not (eqb b newline)
ragged (b ∷ (c ∷ bs)) = ragged (c ∷ bs)

-- a number: digits only, with the value of those before it
unfoldable pub digits_from : ℕ → List ℕ → Option ℕ
digits_from n [] = some n
digits_from n (b ∷ bs) = elim (leb zero_digit b && leb b nine_digit) [ true ↦ digits_from (n * 10 + (b - zero_digit)) bs | false ↦ none ]

-- no leading zero but 0 itself
unfoldable pub leading_zero : List ℕ → Bool
leading_zero [] = false
leading_zero (b ∷ []) = false
leading_zero (b ∷ (c ∷ bs)) = eqb b zero_digit

-- at most 64 bits
unfoldable pub in_64_bits : Option ℕ → Option ℕ
in_64_bits none = none
in_64_bits (some n) = elim (ltb n (2 ^ 64)) [ true ↦ some n | false ↦ none ]

-- 1 to 20 digits, no leading zero but 0 itself, 64 bits
unfoldable pub number : List ℕ → Option ℕ
number bs = elim (leb 1 (length bs) && (leb (length bs) 20 && not (leading_zero bs))) [ true ↦ in_64_bits (digits_from 0 bs) | false ↦ none ]

-- the fields between single commas: one more than there are commas
unfoldable pub fields_from : List ℕ → List ℕ → List (List ℕ)
fields_from so_far [] = so_far ∷ []
fields_from so_far (b ∷ bs) = elim (eqb b comma) [ true ↦ so_far ∷ fields_from [] bs | false ↦ fields_from (so_far ++ (b ∷ [])) bs ]

unfoldable pub both : Option ℕ → Option (List ℕ) → Option (List ℕ)
both none ns = none
both (some n) none = none
both (some n) (some ns) = some (n ∷ ns)

unfoldable pub numbers : List (List ℕ) → Option (List ℕ)
numbers [] = some []
numbers (f ∷ fs) = both (number f) (numbers fs)

-- a list: empty, or numbers with single commas
unfoldable pub list : List ℕ → Option (List ℕ)
list [] = some []
list (b ∷ bs) = numbers (fields_from [] (b ∷ bs))

pub data Line : Type 0 where
  parallelism_line places_line set_line lane_line : ℕ → Line
  in_line out_line : List ℕ → Line
  flush_line final_line malformed : Line

-- what follows a key, where the line starts with it
unfoldable pub after_key : List ℕ → List ℕ → Option (List ℕ)
after_key [] bs = some bs
after_key (c ∷ cs) [] = none
after_key (c ∷ cs) (b ∷ bs) = elim (eqb b c) [ true ↦ after_key cs bs | false ↦ none ]

unfoldable pub with_number : (ℕ → Line) → Option ℕ → Line
with_number f none = malformed
with_number f (some n) = f n

unfoldable pub with_list : (List ℕ → Line) → Option (List ℕ) → Line
with_list f none = malformed
with_list f (some ns) = f ns

-- a line that is a key with nothing after it
unfoldable pub whole : Line → List ℕ → Line
whole l [] = l
whole l (b ∷ bs) = malformed

unfoldable pub key_or : Option (List ℕ) → (List ℕ → Line) → Line → Line
key_or none f other = other
key_or (some rest) f other = f rest

unfoldable pub line_of : List ℕ → Line
line_of bs =
    key_or (after_key key_parallelism bs) (λ r. with_number parallelism_line (number r))
    (key_or (after_key key_places bs) (λ r. with_number places_line (number r))
    (key_or (after_key key_set bs) (λ r. with_number set_line (number r))
    (key_or (after_key key_lane bs) (λ r. with_number lane_line (number r))
    (key_or (after_key key_in bs) (λ r. with_list in_line (list r))
    (key_or (after_key key_out bs) (λ r. with_list out_line (list r))
    (key_or (after_key flush_text bs) (whole flush_line)
    (key_or (after_key final_text bs) (whole final_line) malformed)))))))

-- what a line says where one of the head's, an `in=` or an `out=` line must stand, and where a call must start; any other line says nothing
-- there
abbrev pub parallelism_of : Line → Option ℕ
parallelism_of (parallelism_line n) = some n
parallelism_of (places_line n) = none
parallelism_of (set_line n) = none
parallelism_of (lane_line n) = none
parallelism_of (in_line ns) = none
parallelism_of (out_line ns) = none
parallelism_of flush_line = none
parallelism_of final_line = none
parallelism_of malformed = none

abbrev pub places_of : Line → Option ℕ
places_of (parallelism_line n) = none
places_of (places_line n) = some n
places_of (set_line n) = none
places_of (lane_line n) = none
places_of (in_line ns) = none
places_of (out_line ns) = none
places_of flush_line = none
places_of final_line = none
places_of malformed = none

abbrev pub inputs_of : Line → Option (List ℕ)
inputs_of (parallelism_line n) = none
inputs_of (places_line n) = none
inputs_of (set_line n) = none
inputs_of (lane_line n) = none
inputs_of (in_line ns) = some ns
inputs_of (out_line ns) = none
inputs_of flush_line = none
inputs_of final_line = none
inputs_of malformed = none

abbrev pub outputs_of : Line → Option (List ℕ)
outputs_of (parallelism_line n) = none
outputs_of (places_line n) = none
outputs_of (set_line n) = none
outputs_of (lane_line n) = none
outputs_of (in_line ns) = none
outputs_of (out_line ns) = some ns
outputs_of flush_line = none
outputs_of final_line = none
outputs_of malformed = none

-- a call starts: one of a single line, an add by its lane or, where that is 0, by its inputs, or final
pub data Start : Type 0 where
  single : Call → Start
  label : ℕ → Start
  inputs : List ℕ → Start
  last : Start

abbrev pub start_of : Line → Option Start
start_of (parallelism_line n) = none
start_of (places_line n) = none
start_of (set_line n) = some (single (set n))
start_of (lane_line n) = some (label n)
start_of (in_line ns) = some (inputs ns)
start_of (out_line ns) = none
start_of flush_line = some (single flush)
start_of final_line = some last
start_of malformed = none

-- how a job ends: closed, with P and the model, or refused with its line and number
pub data Outcome : Type 0 where
  finished : ℕ → Model → Outcome
  rejected : ℕ → ℕ → Outcome

-- a call on line n: its refusal, or what follows
unfoldable pub on_line : ℕ → ℕ → Outcome → Outcome
on_line n code next = elim (eqb code 0) [ true ↦ next | false ↦ rejected n code ]

-- after `final=1` on the line before n, anything more is surplus
unfoldable pub closing : ℕ → ℕ → List (List ℕ) → Bool → Model → Outcome
closing P n [] false k = finished P k
closing P n [] true k = rejected n refusal.malformed
closing P n (l ∷ ls) rag k = rejected n refusal.malformed

-- what is read of an add whose `out=` line is still to come: nothing, where none has begun; its lane, and its `in=` line must come next; or
-- lane and inputs, and its `out=` line must. "A lane line not directly followed by an `in=` line makes the line after it malformed."
pub data Begun : Type 0 where
  nothing : Begun
  labelled : ℕ → Begun
  reading : ℕ → List ℕ → Begun

-- the lines from line n on
unfoldable pub run_lines : ℕ → ℕ → ℕ → ℕ → Begun → List (List ℕ) → Bool → Model → Outcome
run_lines P N W n begun [] rag k = rejected n refusal.malformed
run_lines P N W n nothing (l ∷ ls) rag k =
    elim (start_of (line_of l)) [
      | some (single c) ↦ on_line n (answer N W c k) (run_lines P N W (suc n) nothing ls rag (step P N W c k))
      | some (label x) ↦ run_lines P N W (suc n) (labelled x) ls rag k
      | some (inputs ins) ↦ run_lines P N W (suc n) (reading 0 ins) ls rag k
      | some last ↦ on_line n (answer N W final k) (closing P (suc n) ls rag (step P N W final k))
      | none ↦ rejected n refusal.malformed
    ]
run_lines P N W n (labelled x) (l ∷ ls) rag k =
    elim (inputs_of (line_of l)) [
      | some ins ↦ run_lines P N W (suc n) (reading x ins) ls rag k
      | none ↦ rejected n refusal.malformed
    ]
run_lines P N W n (reading x ins) (l ∷ ls) rag k =
    elim (outputs_of (line_of l)) [
      | some outs ↦ on_line n (answer N W (add x ins outs) k) (run_lines P N W (suc n) nothing ls rag (step P N W (add x ins outs) k))
      | none ↦ rejected n refusal.malformed
    ]

-- "Both lend storage for P ≤ 64, V ≤ 512, W = 4,096."
unfoldable pub job_sizes : Sizes
job_sizes =
    record {
      spans = spans_needed job_parallelism;
      order = job_places;
      rows = job_places;
      marks = job_places;
      locations = job_places;
      waiting = waiting_needed job_places;
      tally = tally_needed job_parallelism;
    }

-- line 2, then opening, whose refusal is line 2's
unfoldable pub run_places : ℕ → List (List ℕ) → Bool → Outcome
run_places P [] rag = rejected 2 refusal.malformed
run_places P (l ∷ ls) rag =
    elim (places_of (line_of l)) [
      | some N ↦ on_line 2 (verdict (check_open P N job_sizes)) (run_lines P N job_pool 3 nothing ls rag initial)
      | none ↦ rejected 2 refusal.malformed
    ]

-- line 1
unfoldable pub run_job : List (List ℕ) → Bool → Outcome
run_job [] rag = rejected 1 refusal.malformed
run_job (l ∷ ls) rag = elim (parallelism_of (line_of l)) [ some P ↦ run_places P ls rag | none ↦ rejected 1 refusal.malformed ]

-- 16: a job over 65,536 bytes, before anything else
unfoldable pub outcome : List ℕ → Outcome
outcome bs = elim (ltb most_job_bytes (length bs)) [ true ↦ rejected 1 refusal.long_job | false ↦ run_job (lines bs) (ragged bs) ]

-- the model after the accepted calls of some lines, up to the first line that is refused
unfoldable pub reached_lines : ℕ → ℕ → ℕ → Begun → List (List ℕ) → Model → Model
reached_lines P N W begun [] k = k
reached_lines P N W nothing (l ∷ ls) k =
    elim (start_of (line_of l)) [
      | some (single c) ↦ elim (eqb (answer N W c k) 0) [ true ↦ reached_lines P N W nothing ls (step P N W c k) | false ↦ k ]
      | some (label x) ↦ reached_lines P N W (labelled x) ls k
      | some (inputs ins) ↦ reached_lines P N W (reading 0 ins) ls k
      | some last ↦ step P N W final k
      | none ↦ k
    ]
reached_lines P N W (labelled x) (l ∷ ls) k = elim (inputs_of (line_of l)) [ some ins ↦ reached_lines P N W (reading x ins) ls k | none ↦ k ]
reached_lines P N W (reading x ins) (l ∷ ls) k =
    elim (outputs_of (line_of l)) [
      | some outs ↦ elim (eqb (answer N W (add x ins outs) k) 0) [ true ↦ reached_lines P N W nothing ls (step P N W (add x ins outs) k) | false ↦ k ]
      | none ↦ k
    ]

-- where a job's session ends: P and V are the numbers of its first two lines, and the model is the one that its accepted calls reach
pub record Reached : Type 0 where
  pub parallelism : ℕ
  pub places : ℕ
  pub model : Model

-- none where no session was opened: a job that is too long, a head that is malformed, an opening that is refused
unfoldable pub reached_places : ℕ → List (List ℕ) → Option Reached
reached_places P [] = none
reached_places P (l ∷ ls) =
    elim (places_of (line_of l)) [
      | some N ↦
          elim (eqb (verdict (check_open P N job_sizes)) 0) [
            | true ↦ some (record { parallelism = P; places = N; model = reached_lines P N job_pool nothing ls initial })
            | false ↦ none
          ]
      | none ↦ none
    ]

unfoldable pub reached_job : List (List ℕ) → Option Reached
reached_job [] = none
reached_job (l ∷ ls) = elim (parallelism_of (line_of l)) [ some P ↦ reached_places P ls | none ↦ none ]

unfoldable pub reached : List ℕ → Option Reached
reached bs = elim (ltb most_job_bytes (length bs)) [ true ↦ none | false ↦ reached_job (lines bs) ]
