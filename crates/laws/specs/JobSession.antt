-- Where a job's session ends: it is one that calls reach; an accepted job has reached the model of its outcome, which is closed; and a job
-- that 12 refuses has opened a session.
use Rattle.std.specs.Prelude.{◌≡◌, ◌≢◌, Bool, ℕ, suc, ◌≤◌, length, ltb, eqb}
use Rattle.std.proofs.Math.Path.{refl}
use mathlib.Core.List.{List, [], ◌∷◌}
use Rattle.std.proofs.Math.Bool.{true, false}
use Rattle.std.proofs.Math.Option.{Option, some, none}
use Rattle.std.proofs.Common.{arith, eqb-true}
use Rattle.rules.specs.Limits.{most_job_bytes, job_pool}
use Rattle.rules.specs.Refusals as refusal
use Rattle.rules.specs.Model.{Model, initial}
use Rattle.rules.specs.Checks.{verdict, any, check_range, check_open}
use Rattle.rules.specs.Calls.{Call, add, final, answer, step}
use Rattle.rules.specs.Job.{Start, single, label, inputs, last, line_of, start_of, inputs_of, outputs_of, parallelism_of, places_of, Begun, nothing, labelled, reading, lines, ragged}
use Rattle.rules.specs.Job.{Outcome, finished, rejected, on_line, closing, run_lines, job_sizes, run_places, run_job, outcome, Reached, reached_lines, reached_places, reached_job, reached}
use Rattle.laws.specs.Accepted.{verdict_other}
use Rattle.laws.specs.Closed.{accepted_closes}
use Rattle.laws.specs.Sound.{Between, between_initial, between_step}
use Rattle.laws.specs.NeedsProof.{opened_positive}

-- the session is one that calls reach
abbrev Opened : Option Reached → Type 0
Opened none = Unit {0}
Opened (some x) = (1 ≤ x.parallelism) × Between x.parallelism x.places job_pool x.model

-- an accepted job ends with its session's model, which is closed; one that opened none is not refused with 12
abbrev Ended : Outcome → Option Reached → Type 0
Ended (finished P k) none = ⊥
Ended (finished P k) (some x) = (P ≡ x.parallelism) × (k ≡ x.model) × (k.closed ≡ true)
Ended (rejected n code) none = code ≢ refusal.still_waiting
Ended (rejected n code) (some x) = Unit {0}

abbrev Session : Outcome → Option Reached → Type 0
Session o y = Opened y × Ended o y

abbrev at : ℕ → ℕ → Model → Option Reached
at P N k = some (record { parallelism = P; places = N; model = k })

-- ---- the lines after the head

module _ (P N : ℕ) (hP : 1 ≤ P) where
  abbrev Reachable : Model → Type 0
  Reachable k = Between P N job_pool k

  -- a call on line n and what follows it
  call_session : (n : ℕ) (c : Call) (k : Model) → Reachable k → (o : Model → Outcome) (y : Model → Model) → ((j : Model) → Reachable j → Session (o j) (at P N (y j)))
      → Session (on_line n (answer N job_pool c k) (o (step P N job_pool c k))) (at P N (elim (eqb (answer N job_pool c k) 0) [ true ↦ y (step P N job_pool c k) | false ↦ k ]))
  unfolding on_line
  call_session n c k b o y f = go (eqb (answer N job_pool c k) 0)
    where
      j : Model
      j = step P N job_pool c k

      go : (t : Bool) → Session (elim t [ true ↦ o j | false ↦ rejected n (answer N job_pool c k) ]) (at P N (elim t [ true ↦ y j | false ↦ k ]))
      go true = f j (between_step P N job_pool hP c k b)
      go false = ((hP, b), tt)

  closing_ended : (n : ℕ) (ls : List (List ℕ)) (rag : Bool) (k : Model) → k.closed ≡ true → Ended (closing P n ls rag k) (at P N k)
  unfolding closing
  closing_ended n [] false k c = (refl, refl, c)
  closing_ended n [] true k c = tt
  closing_ended n (l ∷ ls) rag k c = tt

  final_session : (n : ℕ) (ls : List (List ℕ)) (rag : Bool) (k : Model) → Reachable k
      → Session (on_line n (answer N job_pool final k) (closing P (suc n) ls rag (step P N job_pool final k))) (at P N (step P N job_pool final k))
  unfolding on_line
  final_session n ls rag k b = ((hP, between_step P N job_pool hP final k b), go (eqb (answer N job_pool final k) 0) refl)
    where
      j : Model
      j = step P N job_pool final k

      go : (t : Bool) → eqb (answer N job_pool final k) 0 ≡ t → Ended (elim t [ true ↦ closing P (suc n) ls rag j | false ↦ rejected n (answer N job_pool final k) ]) (at P N j)
      go true e = closing_ended (suc n) ls rag j (accepted_closes P N job_pool k (eqb-true (answer N job_pool final k) 0 e))
      go false e = tt

  abbrev Follow : List (List ℕ) → Bool → Type 0
  Follow ls rag = (n : ℕ) (begun : Begun) (k : Model) → Reachable k → Session (run_lines P N job_pool n begun ls rag k) (at P N (reached_lines P N job_pool begun ls k))

  -- a line where a call starts, an `in=` line after a lane, an `out=` line
  module _ (l : List ℕ) (ls : List (List ℕ)) (rag : Bool) (f : Follow ls rag) (n : ℕ) (k : Model) (b : Reachable k) where
    start_session : Session (run_lines P N job_pool n nothing (l ∷ ls) rag k) (at P N (reached_lines P N job_pool nothing (l ∷ ls) k))
    unfolding run_lines reached_lines
    start_session = go (start_of (line_of l)) refl
      where
        go : (x : Option Start) → start_of (line_of l) ≡ x → Session (run_lines P N job_pool n nothing (l ∷ ls) rag k) (at P N (reached_lines P N job_pool nothing (l ∷ ls) k))
        go none e = rw (run_lines, reached_lines, e) ((hP, b), tt)
        go (some (single c)) e =
            rw (run_lines, reached_lines, e) (call_session n c k b (run_lines P N job_pool (suc n) nothing ls rag) (reached_lines P N job_pool nothing ls) (f (suc n) nothing))
        go (some (label x)) e = rw (run_lines, reached_lines, e) (f (suc n) (labelled x) k b)
        go (some (inputs ins)) e = rw (run_lines, reached_lines, e) (f (suc n) (reading 0 ins) k b)
        go (some last) e = rw (run_lines, reached_lines, e) (final_session n ls rag k b)

    inputs_session : (x : ℕ) → Session (run_lines P N job_pool n (labelled x) (l ∷ ls) rag k) (at P N (reached_lines P N job_pool (labelled x) (l ∷ ls) k))
    unfolding run_lines reached_lines
    inputs_session x = go (inputs_of (line_of l)) refl
      where
        go : (y : Option (List ℕ)) → inputs_of (line_of l) ≡ y
            → Session (run_lines P N job_pool n (labelled x) (l ∷ ls) rag k) (at P N (reached_lines P N job_pool (labelled x) (l ∷ ls) k))
        go none e = rw (run_lines, reached_lines, e) ((hP, b), tt)
        go (some ins) e = rw (run_lines, reached_lines, e) (f (suc n) (reading x ins) k b)

    outputs_session : (x : ℕ) (ins : List ℕ)
        → Session (run_lines P N job_pool n (reading x ins) (l ∷ ls) rag k) (at P N (reached_lines P N job_pool (reading x ins) (l ∷ ls) k))
    unfolding run_lines reached_lines
    outputs_session x ins = go (outputs_of (line_of l)) refl
      where
        go : (y : Option (List ℕ)) → outputs_of (line_of l) ≡ y
            → Session (run_lines P N job_pool n (reading x ins) (l ∷ ls) rag k) (at P N (reached_lines P N job_pool (reading x ins) (l ∷ ls) k))
        go none e = rw (run_lines, reached_lines, e) ((hP, b), tt)
        go (some outs) e =
            rw (run_lines, reached_lines, e)
            (call_session n (add x ins outs) k b (run_lines P N job_pool (suc n) nothing ls rag) (reached_lines P N job_pool nothing ls) (f (suc n) nothing))

  lines_session : (ls : List (List ℕ)) (rag : Bool) → Follow ls rag
  unfolding run_lines reached_lines
  lines_session [] rag n begun k b = ((hP, b), tt)
  lines_session (l ∷ ls) rag n nothing k b = start_session l ls rag (lines_session ls rag) n k b
  lines_session (l ∷ ls) rag n (labelled x) k b = inputs_session l ls rag (lines_session ls rag) n k b x
  lines_session (l ∷ ls) rag n (reading x ins) k b = outputs_session l ls rag (lines_session ls rag) n k b x ins

-- ---- the head

opening_number : (P N : ℕ) → verdict (check_open P N job_sizes) ≢ refusal.still_waiting
unfolding check_open check_range any
opening_number P N = verdict_other refusal.still_waiting _ (omega arith) refl

malformed_number : refusal.malformed ≢ refusal.still_waiting
malformed_number = omega arith

places_session : (P : ℕ) (ls : List (List ℕ)) (rag : Bool) → Session (run_places P ls rag) (reached_places P ls)
unfolding run_places reached_places on_line
places_session P [] rag = (tt, malformed_number)
places_session P (l ∷ ls) rag = go (places_of (line_of l)) refl
  where
    opening : (N : ℕ) (t : Bool) → eqb (verdict (check_open P N job_sizes)) 0 ≡ t
        → Session (elim t [ true ↦ run_lines P N job_pool 3 nothing ls rag initial | false ↦ rejected 2 (verdict (check_open P N job_sizes)) ])
        (elim t [ true ↦ at P N (reached_lines P N job_pool nothing ls initial) | false ↦ none ])
    opening N true e =
        let h = opened_positive P N (eqb-true (verdict (check_open P N job_sizes)) 0 e) in lines_session P N h ls rag 3 nothing initial (between_initial P N job_pool h)
    opening N false e = (tt, opening_number P N)

    go : (x : Option ℕ) → places_of (line_of l) ≡ x → Session (run_places P (l ∷ ls) rag) (reached_places P (l ∷ ls))
    go none e = rw (run_places, reached_places, e) (tt, malformed_number)
    go (some N) e = rw (run_places, reached_places, e) (opening N (eqb (verdict (check_open P N job_sizes)) 0) refl)

lines_of_job : (ls : List (List ℕ)) (rag : Bool) → Session (run_job ls rag) (reached_job ls)
unfolding run_job reached_job
lines_of_job [] rag = (tt, malformed_number)
lines_of_job (l ∷ ls) rag = go (parallelism_of (line_of l)) refl
  where
    go : (x : Option ℕ) → parallelism_of (line_of l) ≡ x → Session (run_job (l ∷ ls) rag) (reached_job (l ∷ ls))
    go none e = rw (run_job, reached_job, e) (tt, malformed_number)
    go (some P) e = rw (run_job, reached_job, e) (places_session P ls rag)

-- ---- the whole

session : (job : List ℕ) → Session (outcome job) (reached job)
unfolding outcome reached
session job = go (ltb most_job_bytes (length job))
  where
    go : (long : Bool)
        → Session (elim long [ true ↦ rejected 1 refusal.long_job | false ↦ run_job (lines job) (ragged job) ]) (elim long [ true ↦ none | false ↦ reached_job (lines job) ])
    go true = (tt, omega arith)
    go false = lines_of_job (lines job) (ragged job)

pub reached_between : (job : List ℕ) (x : Reached) → reached job ≡ some x → (1 ≤ x.parallelism) × Between x.parallelism x.places job_pool x.model
reached_between job x e = rw e at (session job).0

pub finished_reached : (job : List ℕ) (P : ℕ) (k : Model) → outcome job ≡ finished P k
    → (N : ℕ) × (reached job ≡ some (record { parallelism = P; places = N; model = k })) × (k.closed ≡ true)
finished_reached job P k e = go (reached job) refl (rw e at (session job).1)
  where
    go : (y : Option Reached) → reached job ≡ y → Ended (finished P k) y → (N : ℕ) × (reached job ≡ at P N k) × (k.closed ≡ true)
    go none r h = absurd h
    go (some x) r h = (x.places, rw (h.0, h.1) r, h.2)

pub waiting_opened : (job : List ℕ) (n : ℕ) → outcome job ≡ rejected n refusal.still_waiting → (x : Reached) × (reached job ≡ some x)
waiting_opened job n e = go (reached job) refl (rw e at (session job).1)
  where
    go : (y : Option Reached) → reached job ≡ y → Ended (rejected n refusal.still_waiting) y → (x : Reached) × (reached job ≡ some x)
    go none r h = absurd (h refl)
    go (some x) r h = (x, r)
