-- What the rules' run of a job (rules, Job) makes of what is read of it: the run of some lines is told by their first call, the run of a job
-- by its head. Assumes nothing.
use Rattle.std.specs.Prelude.{Bool, true, false, ◌≡◌, ℕ, suc, drop, eqb}
use mathlib.Core.List.{List, [], ◌∷◌}
use Rattle.std.proofs.Math.Option.{Option, some, none}
use Rattle.std.proofs.Math.Path.{refl}
use Rattle.std.proofs.Common.{ap, ◌∙◌}
use Rattle.rules.specs.Model.{Model, initial}
use Rattle.rules.specs.Checks.{verdict, check_open}
use Rattle.rules.specs.Calls as calls
use Rattle.rules.specs.Calls.{Call, answer, step}
use Rattle.rules.specs.Job as rule
use Rattle.rules.specs.Job.{Outcome, Begun, nothing, labelled, reading, lines, run_lines, run_places, run_job, on_line, closing, job_sizes, Reached, reached_lines, reached_places, reached_job}
use Rattle.rules.specs.Limits.{job_pool}
use Rattle.rules.specs.Refusals as refusal
use Rattle.jobcalls.specs.Told.{first_line, other_lines, FirstCall, found, malformed, added, after_lane, started, first_call, first_as, NextCall}
use Rattle.jobcalls.specs.Told.{Heading, sized, unsized, heading_2, heading_1, heading, heading_as, HeadRead}
use Rattle.jobcalls.specs.Next.{Next}
use Rattle.jobcalls.specs.Head.{Head}

-- what the rules make of lines: how they end, and the model that their accepted calls reach
abbrev pub Run : Type 0
Run = Outcome × Model

abbrev pub reads : ℕ → ℕ → ℕ → ℕ → Begun → List (List ℕ) → Bool → Model → Run
reads P N W n begun ls rag k = (run_lines P N W n begun ls rag k, reached_lines P N W begun ls k)

-- the run from a call on line n on, where `rest` follows it: one that others may follow, and final
abbrev pub makes : ℕ → ℕ → ℕ → ℕ → Call → List (List ℕ) → Bool → Model → Run
makes P N W n c rest rag k = (
  on_line n (answer N W c k) (run_lines P N W (suc n) nothing rest rag (step P N W c k)),
  elim (eqb (answer N W c k) 0) [ true ↦ reached_lines P N W nothing rest (step P N W c k) | false ↦ k ],
)

abbrev pub closes : ℕ → ℕ → ℕ → ℕ → List (List ℕ) → Bool → Model → Run
closes P N W n rest rag k =
    (on_line n (answer N W calls.final k) (closing P (suc n) rest rag (step P N W calls.final k)), step P N W calls.final k)

-- the run that the first call tells
unfoldable pub goes : ℕ → ℕ → ℕ → FirstCall → Bool → Model → Run
goes P N W (malformed n) rag k = (rule.rejected n refusal.malformed, k)
goes P N W (found (calls.set x) n rest) rag k = makes P N W n (calls.set x) rest rag k
goes P N W (found (calls.add lane ins outs) n rest) rag k = makes P N W n (calls.add lane ins outs) rest rag k
goes P N W (found calls.flush n rest) rag k = makes P N W n calls.flush rest rag k
goes P N W (found calls.final n rest) rag k = closes P N W n rest rag k

-- what the run does with the first line, where nothing of an add is read before it, and where its inputs or its lane are
module _ (P N W : ℕ) (rag : Bool) (k : Model) (n : ℕ) where
  acts : Option rule.Start → List (List ℕ) → Run
  acts x rest = (
    elim x [
      | some (rule.single c) ↦ on_line n (answer N W c k) (run_lines P N W (suc n) nothing rest rag (step P N W c k))
      | some (rule.label lane) ↦ run_lines P N W (suc n) (labelled lane) rest rag k
      | some (rule.inputs ins) ↦ run_lines P N W (suc n) (reading 0 ins) rest rag k
      | some rule.last ↦ on_line n (answer N W calls.final k) (closing P (suc n) rest rag (step P N W calls.final k))
      | none ↦ rule.rejected n refusal.malformed
    ],
    elim x [
      | some (rule.single c) ↦ elim (eqb (answer N W c k) 0) [ true ↦ reached_lines P N W nothing rest (step P N W c k) | false ↦ k ]
      | some (rule.label lane) ↦ reached_lines P N W (labelled lane) rest k
      | some (rule.inputs ins) ↦ reached_lines P N W (reading 0 ins) rest k
      | some rule.last ↦ step P N W calls.final k
      | none ↦ k
    ],
  )

  run_nothing : (ls : List (List ℕ)) → reads P N W n nothing ls rag k ≡ acts (rule.start_of (first_line ls)) (other_lines ls)
  unfolding run_lines reached_lines first_line other_lines acts
  run_nothing [] = refl
  run_nothing (l ∷ ls) = refl

  module _ (lane : ℕ) where
    acts_after : List ℕ → Option (List ℕ) → List (List ℕ) → Run
    acts_after ins x rest = elim x [ some outs ↦ makes P N W n (calls.add lane ins outs) rest rag k | none ↦ (rule.rejected n refusal.malformed, k) ]

    run_reading : (ins : List ℕ) (ls : List (List ℕ)) → reads P N W n (reading lane ins) ls rag k ≡ acts_after ins (rule.outputs_of (first_line ls)) (other_lines ls)
    unfolding run_lines reached_lines first_line other_lines acts_after
    run_reading ins [] = refl
    run_reading ins (l ∷ ls) = go (rule.outputs_of (rule.line_of l)) refl
      where
        go : (x : Option (List ℕ)) → rule.outputs_of (rule.line_of l) ≡ x → reads P N W n (reading lane ins) (l ∷ ls) rag k ≡ acts_after ins x ls
        go none e = rw (run_lines, reached_lines, e)
        go (some outs) e = rw (run_lines, reached_lines, e)

    run_added : (ins : List ℕ) (ls : List (List ℕ)) → reads P N W n (reading lane ins) ls rag k ≡ goes P N W (added n lane ins (first_line ls) (other_lines ls)) rag k
    unfolding added goes acts_after
    run_added ins ls = run_reading ins ls ∙ go (rule.outputs_of (first_line ls))
      where
        go : (x : Option (List ℕ))
            → acts_after ins x (other_lines ls)
            ≡ goes P N W (elim x [ some outs ↦ found (calls.add lane ins outs) n (other_lines ls) | none ↦ malformed n ]) rag k
        go none = refl
        go (some outs) = refl

    acts_labelled : Option (List ℕ) → List (List ℕ) → Run
    acts_labelled x rest = elim x [ some ins ↦ reads P N W (suc n) (reading lane ins) rest rag k | none ↦ (rule.rejected n refusal.malformed, k) ]

    run_labelled : (ls : List (List ℕ)) → reads P N W n (labelled lane) ls rag k ≡ acts_labelled (rule.inputs_of (first_line ls)) (other_lines ls)
    unfolding run_lines reached_lines first_line other_lines acts_labelled
    run_labelled [] = refl
    run_labelled (l ∷ ls) = go (rule.inputs_of (rule.line_of l)) refl
      where
        go : (x : Option (List ℕ)) → rule.inputs_of (rule.line_of l) ≡ x → reads P N W n (labelled lane) (l ∷ ls) rag k ≡ acts_labelled x ls
        go none e = rw (run_lines, reached_lines, e)
        go (some ins) e = rw (run_lines, reached_lines, e)

-- the run from an add's `in=` line on, after its lane line
run_after_lane : (P N W : ℕ) (rag : Bool) (k : Model) (n lane : ℕ) (ls : List (List ℕ))
    → reads P N W n (labelled lane) ls rag k ≡ goes P N W (after_lane n lane (first_line ls) (other_lines ls)) rag k
unfolding after_lane goes acts_labelled
run_after_lane P N W rag k n lane ls = run_labelled P N W rag k n lane ls ∙ go (rule.inputs_of (first_line ls))
  where
    go : (x : Option (List ℕ))
        → acts_labelled P N W rag k n lane x (other_lines ls)
        ≡ goes P N W (
        elim x [ some ins ↦ added (suc n) lane ins (first_line (other_lines ls)) (other_lines (other_lines ls)) | none ↦ malformed n ]
        ) rag k
    go none = refl
    go (some ins) = run_added P N W rag k (suc n) lane ins (other_lines ls)

-- the run of some lines is told by their first call
pub run_first : (P N W : ℕ) (rag : Bool) (k : Model) (n : ℕ) (ls : List (List ℕ)) → reads P N W n nothing ls rag k ≡ goes P N W (first_call n ls) rag k
unfolding first_call acts started goes
run_first P N W rag k n ls = run_nothing P N W rag k n ls ∙ go (first_line ls)
  where
    go : (l : rule.Line) → acts P N W rag k n (rule.start_of l) (other_lines ls) ≡ goes P N W (started n l (other_lines ls)) rag k
    go (rule.set_line x) = refl
    go (rule.lane_line lane) = run_after_lane P N W rag k (suc n) lane (other_lines ls)
    go (rule.in_line ins) = run_added P N W rag k (suc n) 0 ins (other_lines ls)
    go rule.flush_line = refl
    go rule.final_line = refl
    go (rule.parallelism_line x) = refl
    go (rule.places_line x) = refl
    go (rule.out_line outs) = refl
    go rule.malformed = refl

pub call_runs : {s : List ℕ} {at n : ℕ} {entry read : List ℕ} {r : Next} → NextCall s at n entry read r → (P N W : ℕ) (rag : Bool) (k : Model)
    → reads P N W n nothing (lines (drop at s)) rag k ≡ goes P N W (first_as s read r) rag k
call_runs {s} {at} {n} c P N W rag k = run_first P N W rag k n (lines (drop at s)) ∙ ap (λ (f : FirstCall). goes P N W f rag k) c.is

-- what the rules make of the lines of a job: its outcome, and where its session ends; and the same with its head read
abbrev pub whole_run : List (List ℕ) → Bool → Outcome × Option Reached
whole_run ls rag = (run_job ls rag, reached_job ls)

unfoldable pub opens : Heading → Bool → Outcome × Option Reached
opens (unsized n) rag = (rule.rejected n refusal.malformed, none)
opens (sized P N rest) rag = (
  on_line 2 (verdict (check_open P N job_sizes)) (run_lines P N job_pool 3 nothing rest rag initial),
  elim (eqb (verdict (check_open P N job_sizes)) 0) [
    | true ↦ some (record { parallelism = P; places = N; model = reached_lines P N job_pool nothing rest initial })
    | false ↦ none
  ],
)

run_line_2 : (P : ℕ) (ls : List (List ℕ)) (rag : Bool) → (run_places P ls rag, reached_places P ls) ≡ opens (heading_2 P (first_line ls) (other_lines ls)) rag
unfolding run_places reached_places first_line other_lines heading_2 opens
run_line_2 P [] rag = refl
run_line_2 P (l ∷ ls) rag = go (rule.places_of (rule.line_of l)) refl
  where
    go : (x : Option ℕ) → rule.places_of (rule.line_of l) ≡ x
        → (run_places P (l ∷ ls) rag, reached_places P (l ∷ ls)) ≡ opens (elim x [ some N ↦ sized P N ls | none ↦ unsized 2 ]) rag
    go none e = rw (run_places, reached_places, e)
    go (some N) e = rw (run_places, reached_places, e)

run_heading : (ls : List (List ℕ)) (rag : Bool) → whole_run ls rag ≡ opens (heading ls) rag
unfolding run_job reached_job first_line other_lines heading heading_1 opens
run_heading [] rag = refl
run_heading (l ∷ ls) rag = go (rule.parallelism_of (rule.line_of l)) refl
  where
    go : (x : Option ℕ) → rule.parallelism_of (rule.line_of l) ≡ x
        → whole_run (l ∷ ls) rag ≡ opens (elim x [ some P ↦ heading_2 P (first_line ls) (other_lines ls) | none ↦ unsized 1 ]) rag
    go none e = rw (run_job, reached_job, e)
    go (some P) e = rw (run_job, reached_job, e) (run_line_2 P ls rag)

pub head_runs : {s : List ℕ} {h : Head} {a b : List ℕ} → HeadRead s h a b → (rag : Bool) → whole_run (lines s) rag ≡ opens (heading_as s h) rag
head_runs {s} r rag = run_heading (lines s) rag ∙ ap (λ (x : Heading). opens x rag) r.is
