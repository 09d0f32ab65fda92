-- The proof of the claims about lists of calls (`SameLists` and `SameRuns` in Claims): a list on a fresh session and its bare list go through
-- models of which the second is the first, bare. Assumes nothing.
use mathlib.Core.List.Memᴰ
use mathlib.Core.List.{List, [], ◌∷◌, map}
use Rattle.std.specs.Prelude.{Bool, true, false, ◌≡◌, ℕ, suc, ◌+◌, ◌≤◌, length, get_or, set as set_at, replicate, eqb}
use Rattle.std.proofs.Math.Path.{refl, sym, ap}
use Rattle.std.proofs.Common.{◌∙◌, subst, arith}
use Rattle.std.proofs.lemmas.List.{length-map}
use Rattle.rules.specs.Limits.{most_lane}
use Rattle.rules.specs.Guide.{Item, Entry, fresh, tallied, tally}
use Rattle.rules.specs.Summary.{figures}
use Rattle.rules.specs.Model.{Model, registrations, initial}
use Rattle.rules.specs.Calls.{Call, set, add, flush, final, answer, step, run, answers}
use Rattle.rules.specs.Record.{Row, unfilled, fill, row_after, row_of, location_of, summary}
use Rattle.lanes.specs.Claims.{bare_item, bare_entry, bare_guide, bare, bare_row, bare_call, LowLanes, Unlabelled, SameLists, SameRuns}
use Rattle.lanes.proofs.Models.{count_bare, watermark_bare, answer_bare, step_bare, low_lanes, SameCall, equal, lanes, answer_alike}

-- ---- a list and its bare list

-- check 18 passes both a lane that is not over 255 and 0
low_call : (c : Call) → ((lane : ℕ) (ins outs : List ℕ) → add lane ins outs ≡ c → lane ≤ most_lane) → SameCall (bare_call c) c
unfolding bare_call
low_call (set x) h = equal
low_call (add lane ins outs) h = lanes (low_lanes 0 lane (omega arith) (h lane ins outs refl))
low_call flush h = equal
low_call final h = equal

module _ (P N W : ℕ) where
  module _ (c : Call) (cs : List Call) (h : LowLanes (c ∷ cs)) (k : Model) where
    head_answer : answer N W (bare_call c) (bare k) ≡ answer N W c k
    head_answer = answer_bare N W (bare_call c) k ∙ answer_alike N W (low_call c (λ lane ins outs e. omega (arith, h lane ins outs (Memᴰ.head e)))) k

    head_step : step P N W (bare_call c) (bare k) ≡ bare (step P N W c k)
    head_step = step_bare P N W c k head_answer

    tail_low : LowLanes cs
    tail_low lane ins outs m = h lane ins outs (Memᴰ.tail m)

  run_bare : (cs : List Call) → LowLanes cs → (k : Model) → run P N W (map bare_call cs) (bare k) ≡ bare (run P N W cs k)
  unfolding run
  run_bare [] h k = refl
  run_bare (c ∷ cs) h k = ap (run P N W (map bare_call cs)) (head_step c cs h k) ∙ run_bare cs (tail_low c cs h k) (step P N W c k)

  answers_bare : (cs : List Call) → LowLanes cs → (k : Model) → answers P N W (map bare_call cs) (bare k) ≡ answers P N W cs k
  unfolding answers
  answers_bare [] h k = refl
  answers_bare (c ∷ cs) h k = rw (head_answer c cs h k, head_step c cs h k, answers_bare cs (tail_low c cs h k) (step P N W c k))

-- ---- what is read of a model

tallied_bare : (t : List ℕ) (order : List Entry) → tallied t (map bare_entry order) ≡ tallied t order
unfolding tallied bare_entry
tallied_bare t [] = refl
tallied_bare t (e ∷ order) = tallied_bare (set_at t e.parallelism (get_or t e.parallelism 0 + 1)) order

pub tally_bare : (P : ℕ) (order : List Entry) → tally P (map bare_entry order) ≡ tally P order
unfolding tally
tally_bare P order = tallied_bare (replicate (P + 1) 0) order

lengths_bare : (ss : List (List Item)) → map length (map (map bare_item) ss) ≡ map length ss
lengths_bare [] = refl
lengths_bare (s ∷ ss) = rw (length-map s bare_item, lengths_bare ss)

registered_bare : (k : Model) → registrations (bare k) ≡ registrations k
unfolding bare
registered_bare k = ap (λ (n : ℕ). elim k.closed [ true ↦ n | false ↦ 0 ]) (count_bare k)

-- a row after one entry, t saying whether it is the row's own
abbrev after_one : Bool → ℕ → Entry → Row → Row
after_one t n e row = elim t [ true ↦ fill n e row | false ↦ row ]

one_bare : (t : Bool) (n : ℕ) (e : Entry) (row : Row) → bare_row (after_one t n e row) ≡ after_one t n (bare_entry e) (bare_row row)
unfolding fill bare_entry bare_item bare_row
one_bare true n e row = refl
one_bare false n e row = refl

row_bare : (r : ℕ) (row : Row) (n : ℕ) (es : List Entry) → bare_row (row_after r row n es) ≡ row_after r (bare_row row) n (map bare_entry es)
unfolding row_after bare_entry bare_item
row_bare r row n [] = refl
row_bare r row n (e ∷ es) =
    let t : Bool = eqb e.item.added r in
    row_bare r (after_one t n e row) (suc n) es ∙ ap (λ (x : Row). row_after r x (suc n) (map bare_entry es)) (one_bare t n e row)

-- ---- the claims

-- a fresh session has no lane
fresh_bare : bare initial ≡ initial
unfolding bare bare_guide initial fresh
fresh_bare = refl

module _ (P N W : ℕ) (calls : List Call) (h : LowLanes calls) where
  abbrev k : Model
  k = run P N W calls initial

  whole : bare k ≡ run P N W (map bare_call calls) initial
  whole = sym (run_bare P N W calls h initial) ∙ ap (run P N W (map bare_call calls)) fresh_bare

  numbers : answers P N W calls initial ≡ answers P N W (map bare_call calls) initial
  numbers = sym (answers_bare P N W calls h initial) ∙ ap (answers P N W (map bare_call calls)) fresh_bare

  by_model : Unlabelled P N W calls k (bare k)
  unfolding bare bare_guide summary row_of unfilled bare_row location_of
  by_model =
      record {
        numbers = numbers;
        order = refl;
        tallied = sym (tally_bare P k.guide.order);
        mark = sym (watermark_bare N k);
        first = refl;
        lengths = sym (lengths_bare k.guide.spans);
        window = refl;
        pending = refl;
        rows = λ r. row_bare r (unfilled (get_or k.recorded.written r 0)) 0 k.guide.order;
        recorded = refl;
        registered = sym (registered_bare k);
        adds = refl;
        marks = λ x. refl;
        locations = λ x. refl;
        flushes = refl;
        closed = refl;
        summaries = ap figures (sym (tally_bare P k.guide.order));
        whole = refl;
      }

pub same_lists : (P N W : ℕ) (calls : List Call) → SameLists P N W calls
same_lists P N W calls h = subst (λ (j : Model). Unlabelled P N W calls (run P N W calls initial) j) (whole P N W calls h) (by_model P N W calls h)

pub same_runs : (P N W : ℕ) (calls others : List Call) → SameRuns P N W calls others
same_runs P N W calls others e h i = (
  numbers P N W calls h ∙ (ap (λ (cs : List Call). answers P N W cs initial) e ∙ sym (numbers P N W others i)),
  whole P N W calls h ∙ (ap (λ (cs : List Call). run P N W cs initial) e ∙ sym (whole P N W others i)),
)
