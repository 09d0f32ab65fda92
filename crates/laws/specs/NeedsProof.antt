-- The proof of laws/Needs: the run of a job and the reading of its needs go through the same lines, and agree on each. Assumes nothing.
use Rattle.std.specs.Prelude.{◌≡◌, ◌⊎◌, ◌≢◌, Bool, ltb, eqb}
use Rattle.std.proofs.Math.Path.{refl, ap}
use Rattle.std.proofs.Common.{sym, ◌∙◌, subst, inl, inr, arith, eqb-true, ltb-false}
use mathlib.Core.List.{List, [], ◌∷◌, ◌++◌}
use Rattle.std.proofs.Math.Bool.{true, false}
use Rattle.std.proofs.Math.Option.{Option, some, none}
use Prim.Native.Nat.{ℕ, suc, ◌+◌, ◌*◌, ◌≤◌}
use Rattle.std.proofs.Math.ListN.{length, length-append}
use Rattle.rules.specs.Limits.{most_job_bytes, job_pool, most_parallelism}
use Rattle.rules.specs.Refusals as refusal
use Rattle.rules.specs.Text.{newline, comma}
use Rattle.rules.specs.Model.{Reg, Model, initial, with_record, note_add, note_flush, note_final, with_add, with_flush, do_flush, do_final}
use Rattle.rules.specs.Checks.{verdict, pooled, check_range, check_open}
use Rattle.rules.specs.Calls.{Call, set, add, flush, final, answer, apply_call, step}
use Rattle.rules.specs.Job.{Line, parallelism_line, places_line, set_line, lane_line, in_line, out_line, flush_line, final_line, malformed, Start, single, label, inputs, last}
use Rattle.rules.specs.Job.{lines_from, lines, ragged, fields_from, both, numbers, list, number, after_key, with_number, with_list, whole, key_or, line_of, places_of, parallelism_of}
use Rattle.rules.specs.Job.{start_of, inputs_of, outputs_of, Begun, nothing, labelled, reading, Outcome, finished, rejected, on_line, closing, run_lines, job_sizes, run_places, run_job, outcome}
use Rattle.rules.specs.Job.{key_parallelism, key_places, key_set, key_lane, key_in, key_out, flush_text, final_text}
use Rattle.rules.specs.Needs.{Needs, no_needs, with_call, most_spans, Reading, needing, unread, ending, need_lines, need_places, need_job, needs}
use Rattle.laws.specs.ModelBase.{bool_cases}
use Rattle.laws.specs.Kept.{set_same, add_same}
use Rattle.laws.specs.Accepted.{verdict_head, or_false, accepted_is, CallCode, call_code, open_code}
use Rattle.laws.specs.Ceiling.{Ceiling, ended}
use Rattle.laws.specs.Limits.{pooled_append}
use Rattle.laws.specs.Sound.{Between, between_initial, between_step}
use Rattle.laws.specs.Widths.{In32}
use Rattle.laws.specs.Needs.{used, Needed}

-- ---- what a call uses

module _ (P N : ℕ) (k : Model) where
  call_used : (c : Call) → used (apply_call P N c k) ≡ with_call c (used k)
  unfolding used with_call apply_call note_add with_add do_flush do_final note_flush note_final with_record with_flush
  call_used (set x) = let s = set_same P N x k in rw (s.0, s.3)
  call_used (add lane ins outs) =
      let a : Reg = record { lane = lane; ins = ins; outs = outs } in
      let s = add_same P N a k in
      let l : length (k.adds ++ (a ∷ [])) ≡ suc (length k.adds) = simp length-append (omega arith) in
      rw (s.0, s.3, l, pooled_append k.adds a)
  call_used flush = refl
  call_used final = refl

  -- an accepted call uses what it counts for
  used_more : (W : ℕ) (c : Call) → answer N W c k ≡ 0 → used (step P N W c k) ≡ with_call c (used k)
  unfolding step
  used_more W c e = ap used (accepted_is (answer N W c k) k (apply_call P N c k) e) ∙ call_used c

-- ---- an outcome and a reading

-- they agree: finished, the needs are what the model used, which calls reached; refused with 15, the refusal is the same
abbrev Agrees : ℕ → Outcome → Reading → Type 0
Agrees W (finished P k) r = (r ≡ needing (used k)) × ((N : ℕ) × Between P N W k)
Agrees W (rejected n code) r = (code ≢ refusal.long_job) × (code ≡ refusal.malformed → r ≡ unread n refusal.malformed)

module _ (W : ℕ) where
  alike : (n : ℕ) → Agrees W (rejected n refusal.malformed) (unread n refusal.malformed)
  alike n = (omega arith, λ e. refl)

  -- a call or an opening that is refused says neither 15 nor 16
  judged : (n code : ℕ) (o : Outcome) (r : Reading) → CallCode code → (code ≡ 0 → Agrees W o r) → Agrees W (on_line n code o) r
  unfolding on_line
  judged n code o r h f = go (bool_cases (eqb code 0))
    where
      go : (eqb code 0 ≡ true) ⊎ (eqb code 0 ≡ false) → Agrees W (on_line n code o) r
      go (inl e) = rw (on_line, e) (f (eqb-true code 0 e))
      go (inr e) = rw (on_line, e) (h.2, λ z. absurd (h.1 z))

module _ (P N W : ℕ) (hP : 1 ≤ P) where
  closing_agrees : (n : ℕ) (ls : List (List ℕ)) (rag : Bool) (k : Model) → Between P N W k → Agrees W (closing P n ls rag k) (ending n ls rag (used k))
  unfolding closing ending
  closing_agrees n [] false k b = (refl, (N, b))
  closing_agrees n [] true k b = alike W n
  closing_agrees n (l ∷ ls) rag k b = alike W n

  -- a call on line n, and what follows it
  call_agrees : (n : ℕ) (c : Call) (k : Model) → Between P N W k → (o : Model → Outcome) (r : Needs → Reading)
      → ((j : Model) → Between P N W j → Agrees W (o j) (r (used j))) → Agrees W (on_line n (answer N W c k) (o (step P N W c k))) (r (with_call c (used k)))
  call_agrees n c k b o r f =
      judged W n (answer N W c k) (o (step P N W c k)) (r (with_call c (used k))) (call_code N W c k)
      (λ e. rw (used_more P N k W c e) at (f (step P N W c k) (between_step P N W hP c k b)))

  abbrev Follow : List (List ℕ) → Bool → Type 0
  Follow ls rag = (n : ℕ) (begun : Begun) (k : Model) → Between P N W k → Agrees W (run_lines P N W n begun ls rag k) (need_lines n begun ls rag (used k))

  lines_agree : (ls : List (List ℕ)) (rag : Bool) → Follow ls rag
  unfolding run_lines need_lines
  lines_agree [] rag n begun k b = alike W n
  lines_agree (l ∷ ls) rag n nothing k b = go (start_of (line_of l)) refl (lines_agree ls rag)
    where
      go : (x : Option Start) → start_of (line_of l) ≡ x → Follow ls rag → Agrees W (run_lines P N W n nothing (l ∷ ls) rag k) (need_lines n nothing (l ∷ ls) rag (used k))
      go none e f = rw (run_lines, need_lines, e) (alike W n)
      go (some (single c)) e f =
          rw (run_lines, need_lines, e) (call_agrees n c k b (run_lines P N W (suc n) nothing ls rag) (need_lines (suc n) nothing ls rag) (f (suc n) nothing))
      go (some (label x)) e f = rw (run_lines, need_lines, e) (f (suc n) (labelled x) k b)
      go (some (inputs ins)) e f = rw (run_lines, need_lines, e) (f (suc n) (reading 0 ins) k b)
      go (some last) e f = rw (run_lines, need_lines, e) (call_agrees n final k b (closing P (suc n) ls rag) (ending (suc n) ls rag) (closing_agrees (suc n) ls rag))
  lines_agree (l ∷ ls) rag n (labelled x) k b = go (inputs_of (line_of l)) refl (lines_agree ls rag)
    where
      go : (y : Option (List ℕ)) → inputs_of (line_of l) ≡ y → Follow ls rag
          → Agrees W (run_lines P N W n (labelled x) (l ∷ ls) rag k) (need_lines n (labelled x) (l ∷ ls) rag (used k))
      go none e f = rw (run_lines, need_lines, e) (alike W n)
      go (some ins) e f = rw (run_lines, need_lines, e) (f (suc n) (reading x ins) k b)
  lines_agree (l ∷ ls) rag n (reading x ins) k b = go (outputs_of (line_of l)) refl (lines_agree ls rag)
    where
      go : (y : Option (List ℕ)) → outputs_of (line_of l) ≡ y → Follow ls rag
          → Agrees W (run_lines P N W n (reading x ins) (l ∷ ls) rag k) (need_lines n (reading x ins) (l ∷ ls) rag (used k))
      go none e f = rw (run_lines, need_lines, e) (alike W n)
      go (some outs) e f =
          rw (run_lines, need_lines, e) (call_agrees n (add x ins outs) k b (run_lines P N W (suc n) nothing ls rag) (need_lines (suc n) nothing ls rag) (f (suc n) nothing))

-- an opening that passes its checks has a parallelism
pub opened_positive : (P N : ℕ) → verdict (check_open P N job_sizes) ≡ 0 → 1 ≤ P
unfolding check_open check_range
opened_positive P N e = ltb-false P 1 (or_false (ltb P 1) (ltb most_parallelism P) (verdict_head _ _ e (omega arith)).0).0

opening_agrees : (P N : ℕ) (ls : List (List ℕ)) (rag : Bool)
    → Agrees job_pool (on_line 2 (verdict (check_open P N job_sizes)) (run_lines P N job_pool 3 nothing ls rag initial)) (need_lines 3 nothing ls rag no_needs)
unfolding used initial no_needs pooled
opening_agrees P N ls rag =
    judged job_pool 2 (verdict (check_open P N job_sizes)) (run_lines P N job_pool 3 nothing ls rag initial) (need_lines 3 nothing ls rag no_needs) (open_code P N job_sizes)
    (λ e. let h = opened_positive P N e in lines_agree P N job_pool h ls rag 3 nothing initial (between_initial P N job_pool h))

places_agree : (P : ℕ) (ls : List (List ℕ)) (rag : Bool) → Agrees job_pool (run_places P ls rag) (need_places ls rag)
unfolding run_places need_places
places_agree P [] rag = alike job_pool 2
places_agree P (l ∷ ls) rag = go (places_of (line_of l)) refl
  where
    go : (x : Option ℕ) → places_of (line_of l) ≡ x → Agrees job_pool (run_places P (l ∷ ls) rag) (need_places (l ∷ ls) rag)
    go none e = rw (run_places, need_places, e) (alike job_pool 2)
    go (some N) e = rw (run_places, need_places, e) (opening_agrees P N ls rag)

job_agrees : (ls : List (List ℕ)) (rag : Bool) → Agrees job_pool (run_job ls rag) (need_job ls rag)
unfolding run_job need_job
job_agrees [] rag = alike job_pool 1
job_agrees (l ∷ ls) rag = go (parallelism_of (line_of l)) refl
  where
    go : (x : Option ℕ) → parallelism_of (line_of l) ≡ x → Agrees job_pool (run_job (l ∷ ls) rag) (need_job (l ∷ ls) rag)
    go none e = rw (run_job, need_job, e) (alike job_pool 1)
    go (some P) e = rw (run_job, need_job, e) (places_agree P ls rag)

-- ---- how much a job's bytes hold

-- the bytes of some lines, each with its byte 10
unfoldable total : List (List ℕ) → ℕ
total [] = 0
total (l ∷ ls) = suc (length l) + total ls

lines_total : (so_far bs : List ℕ) → total (lines_from so_far bs) ≤ length so_far + length bs
unfolding lines_from total
lines_total so_far [] = omega arith
lines_total so_far (b ∷ bs) = go (bool_cases (eqb b newline)) (lines_total [] bs) (lines_total (so_far ++ (b ∷ [])) bs)
  where
    go : (eqb b newline ≡ true) ⊎ (eqb b newline ≡ false) → total (lines_from [] bs) ≤ 0 + length bs → total (lines_from (so_far ++ (b ∷ [])) bs) ≤ length (so_far ++ (b ∷ [])) + length bs
        → total (lines_from so_far (b ∷ bs)) ≤ length so_far + suc (length bs)
    go (inl e) f g = rw (lines_from, e) (omega (arith, f))
    go (inr e) f g = rw (lines_from, e) (omega (arith, g, length-append so_far (b ∷ [])))

-- the numbers of a line's list
abbrev listed : Line → ℕ
listed (parallelism_line n) = 0
listed (places_line n) = 0
listed (set_line n) = 0
listed (lane_line n) = 0
listed (in_line ns) = length ns
listed (out_line ns) = length ns
listed flush_line = 0
listed final_line = 0
listed malformed = 0

fields_few : (so_far bs : List ℕ) → length (fields_from so_far bs) ≤ suc (length bs)
unfolding fields_from
fields_few so_far [] = omega arith
fields_few so_far (b ∷ bs) = go (bool_cases (eqb b comma)) (fields_few [] bs) (fields_few (so_far ++ (b ∷ [])) bs)
  where
    go : (eqb b comma ≡ true) ⊎ (eqb b comma ≡ false) → length (fields_from [] bs) ≤ suc (length bs) → length (fields_from (so_far ++ (b ∷ [])) bs) ≤ suc (length bs)
        → length (fields_from so_far (b ∷ bs)) ≤ suc (suc (length bs))
    go (inl e) f g = rw (fields_from, e) (omega (arith, f))
    go (inr e) f g = rw (fields_from, e) (omega (arith, g))

abbrev held_in : Option (List ℕ) → ℕ
held_in none = 0
held_in (some ns) = length ns

numbers_few : (fs : List (List ℕ)) → held_in (numbers fs) ≤ length fs
unfolding numbers both
numbers_few [] = omega arith
numbers_few (f ∷ fs) = go (number f) (numbers fs) (numbers_few fs)
  where
    go : (x : Option ℕ) (y : Option (List ℕ)) → held_in y ≤ length fs → held_in (both x y) ≤ suc (length fs)
    go none y h = omega arith
    go (some n) none h = omega arith
    go (some n) (some ns) h = omega (arith, h)

list_few : (bs : List ℕ) → held_in (list bs) ≤ suc (length bs)
unfolding list
list_few [] = omega arith
list_few (b ∷ bs) = omega (arith, numbers_few (fields_from [] (b ∷ bs)), fields_few [] (b ∷ bs))

-- so many bytes can hold the numbers that the line lists
abbrev FewListed : List ℕ → Line → Type 0
FewListed bs l = listed l ≤ suc (length bs)

-- what follows a key is no longer than the line
rest_few : (key bs : List ℕ) (r : List ℕ) → after_key key bs ≡ some r → length r ≤ length bs
unfolding after_key
rest_few [] bs r e = let z : bs ≡ r = cc in omega (arith, ap length z)
rest_few (c ∷ cs) [] r e = let z : ◌≡◌ {A = ℕ} 0 1 = cc in absurd (omega arith)
rest_few (c ∷ cs) (b ∷ bs) r e = go (bool_cases (eqb b c)) (rest_few cs bs r)
  where
    go : (eqb b c ≡ true) ⊎ (eqb b c ≡ false) → (after_key cs bs ≡ some r → length r ≤ length bs) → length r ≤ suc (length bs)
    go (inl h) f = omega (arith, f (rw (after_key, h) at e))
    go (inr h) f = let y : none ≡ some r = rw (after_key, h) at e in let z : ◌≡◌ {A = ℕ} 0 1 = cc in absurd (omega arith)

key_fits : (key bs : List ℕ) (f : List ℕ → Line) (other : Line) → ((r : List ℕ) → listed (f r) ≤ suc (length r)) → FewListed bs other → FewListed bs (key_or (after_key key bs) f other)
unfolding key_or
key_fits key bs f other h o = go (after_key key bs) refl
  where
    go : (x : Option (List ℕ)) → after_key key bs ≡ x → FewListed bs (key_or x f other)
    go none e = o
    go (some r) e = omega (arith, h r, rest_few key bs r e)

line_few : (bs : List ℕ) → FewListed bs (line_of bs)
unfolding line_of with_number with_list whole
line_few bs =
    key_fits key_parallelism bs _ _ (bare parallelism_line (λ n. refl))
    (key_fits key_places bs _ _ (bare places_line (λ n. refl))
    (key_fits key_set bs _ _ (bare set_line (λ n. refl))
    (key_fits key_lane bs _ _ (bare lane_line (λ n. refl))
    (key_fits key_in bs _ _ (of_list in_line (λ ns. refl))
    (key_fits key_out bs _ _ (of_list out_line (λ ns. refl))
    (key_fits flush_text bs _ _ (alone flush_line refl)
    (key_fits final_text bs _ _ (alone final_line refl) (omega arith))))))))
  where
    bare : (f : ℕ → Line) → ((n : ℕ) → listed (f n) ≡ 0) → (r : List ℕ) → listed (with_number f (number r)) ≤ suc (length r)
    bare f h r = go (number r)
      where
        go : (x : Option ℕ) → listed (with_number f x) ≤ suc (length r)
        go none = omega arith
        go (some n) = omega (arith, h n)

    of_list : (f : List ℕ → Line) → ((ns : List ℕ) → listed (f ns) ≡ length ns) → (r : List ℕ) → listed (with_list f (list r)) ≤ suc (length r)
    of_list f h r = go (list r) (list_few r)
      where
        go : (x : Option (List ℕ)) → held_in x ≤ suc (length r) → listed (with_list f x) ≤ suc (length r)
        go none b = omega arith
        go (some ns) b = omega (arith, h ns, b)

    alone : (l : Line) → listed l ≡ 0 → (r : List ℕ) → listed (whole l r) ≤ suc (length r)
    alone l h [] = omega (arith, h)
    alone l h (b ∷ r) = omega arith

-- a reading with at most so many calls and list numbers, or malformed at most at that line
unfoldable Few : ℕ → ℕ → ℕ → Reading → Type 0
Few calls pool line (needing c) = (c.registrations + c.flushes ≤ calls) × (c.pool ≤ pool)
Few calls pool line (unread n code) = (code ≡ refusal.malformed) × (n ≤ line)

few_more : {calls pool line calls' pool' line' : ℕ} (r : Reading) → Few calls pool line r → calls ≤ calls' → pool ≤ pool' → line ≤ line' → Few calls' pool' line' r
unfolding Few
few_more (needing c) f a b d = (omega (arith, a, f.0), omega (arith, b, f.1))
few_more (unread n code) f a b d = (f.0, omega (arith, d, f.1))

malformed_few : (calls pool : ℕ) {line : ℕ} (n : ℕ) → n ≤ line → Few calls pool line (unread n refusal.malformed)
unfolding Few
malformed_few calls pool n h = (refl, h)

ending_few : (n : ℕ) (ls : List (List ℕ)) (rag : Bool) (c : Needs) → Few (c.registrations + c.flushes) c.pool n (ending n ls rag c)
unfolding ending Few
ending_few n [] false c = (omega arith, omega arith)
ending_few n [] true c = (refl, omega arith)
ending_few n (l ∷ ls) rag c = (refl, omega arith)

-- the inputs that are read of an add
abbrev begun_in : Begun → ℕ
begun_in nothing = 0
begun_in (labelled x) = 0
begun_in (reading x ins) = length ins

-- the lines from line n on hold no more calls and numbers than bytes
abbrev FewFrom : List (List ℕ) → Bool → Type 0
FewFrom ls rag = (n : ℕ) (begun : Begun) (c : Needs)
    → Few (c.registrations + c.flushes + total ls) (c.pool + begun_in begun + total ls) (n + total ls) (need_lines n begun ls rag c)

lines_few : (ls : List (List ℕ)) (rag : Bool) → FewFrom ls rag
unfolding need_lines total with_call
lines_few [] rag n begun c = malformed_few _ _ n (omega arith)
lines_few (l ∷ ls) rag n nothing c = go (line_of l) refl (line_few l) (lines_few ls rag)
  where
    go : (x : Line) → line_of l ≡ x → FewListed l x → FewFrom ls rag
        → Few (c.registrations + c.flushes + total (l ∷ ls)) (c.pool + 0 + total (l ∷ ls)) (n + total (l ∷ ls)) (need_lines n nothing (l ∷ ls) rag c)
    go (set_line x) e h f = rw (need_lines, e) (few_more _ (f (suc n) nothing c) (omega arith) (omega arith) (omega arith))
    go (lane_line x) e h f = rw (need_lines, e) (few_more _ (f (suc n) (labelled x) c) (omega arith) (omega arith) (omega arith))
    go (in_line ins) e h f = rw (need_lines, e) (few_more _ (f (suc n) (reading 0 ins) c) (omega arith) (omega (arith, h)) (omega arith))
    go flush_line e h f = rw (need_lines, e) (few_more _ (f (suc n) nothing (with_call flush c)) (omega arith) (omega arith) (omega arith))
    go final_line e h f = rw (need_lines, e) (few_more _ (ending_few (suc n) ls rag c) (omega arith) (omega arith) (omega arith))
    go (parallelism_line x) e h f = rw (need_lines, e) (malformed_few _ _ n (omega arith))
    go (places_line x) e h f = rw (need_lines, e) (malformed_few _ _ n (omega arith))
    go (out_line outs) e h f = rw (need_lines, e) (malformed_few _ _ n (omega arith))
    go malformed e h f = rw (need_lines, e) (malformed_few _ _ n (omega arith))
lines_few (l ∷ ls) rag n (labelled x) c = go (inputs_of (line_of l)) refl (inputs_few (line_of l) (line_few l)) (lines_few ls rag)
  where
    -- the inputs of a line are its list
    inputs_few : (z : Line) → FewListed l z → held_in (inputs_of z) ≤ suc (length l)
    inputs_few (in_line ins) h = h
    inputs_few (parallelism_line y) h = omega arith
    inputs_few (places_line y) h = omega arith
    inputs_few (set_line y) h = omega arith
    inputs_few (lane_line y) h = omega arith
    inputs_few (out_line outs) h = omega arith
    inputs_few flush_line h = omega arith
    inputs_few final_line h = omega arith
    inputs_few malformed h = omega arith

    go : (y : Option (List ℕ)) → inputs_of (line_of l) ≡ y → held_in (inputs_of (line_of l)) ≤ suc (length l) → FewFrom ls rag
        → Few (c.registrations + c.flushes + total (l ∷ ls)) (c.pool + 0 + total (l ∷ ls)) (n + total (l ∷ ls)) (need_lines n (labelled x) (l ∷ ls) rag c)
    go none e h f = rw (need_lines, e) (malformed_few _ _ n (omega arith))
    go (some ins) e h f = rw (need_lines, e) (few_more _ (f (suc n) (reading x ins) c) (omega arith) (omega (arith, rw e at h)) (omega arith))
lines_few (l ∷ ls) rag n (reading x ins) c = go (line_of l) refl (line_few l) (lines_few ls rag)
  where
    go : (z : Line) → line_of l ≡ z → FewListed l z → FewFrom ls rag
        → Few (c.registrations + c.flushes + total (l ∷ ls)) (c.pool + length ins + total (l ∷ ls)) (n + total (l ∷ ls)) (need_lines n (reading x ins) (l ∷ ls) rag c)
    go (out_line outs) e h f = rw (need_lines, e) (few_more _ (f (suc n) nothing (with_call (add x ins outs) c)) (omega arith) (omega (arith, h)) (omega arith))
    go (set_line y) e h f = rw (need_lines, e) (malformed_few _ _ n (omega arith))
    go (lane_line y) e h f = rw (need_lines, e) (malformed_few _ _ n (omega arith))
    go (in_line xs) e h f = rw (need_lines, e) (malformed_few _ _ n (omega arith))
    go flush_line e h f = rw (need_lines, e) (malformed_few _ _ n (omega arith))
    go final_line e h f = rw (need_lines, e) (malformed_few _ _ n (omega arith))
    go (parallelism_line x) e h f = rw (need_lines, e) (malformed_few _ _ n (omega arith))
    go (places_line x) e h f = rw (need_lines, e) (malformed_few _ _ n (omega arith))
    go malformed e h f = rw (need_lines, e) (malformed_few _ _ n (omega arith))

places_few : (ls : List (List ℕ)) (rag : Bool) → Few (total ls) (total ls) (2 + total ls) (need_places ls rag)
unfolding need_places total no_needs
places_few [] rag = malformed_few _ _ 2 (omega arith)
places_few (l ∷ ls) rag = go (places_of (line_of l)) refl
  where
    go : (x : Option ℕ) → places_of (line_of l) ≡ x → Few (total (l ∷ ls)) (total (l ∷ ls)) (2 + total (l ∷ ls)) (need_places (l ∷ ls) rag)
    go none e = rw (need_places, e) (malformed_few _ _ 2 (omega arith))
    go (some N) e = rw (need_places, e) (few_more _ (lines_few ls rag 3 nothing no_needs) (omega arith) (omega arith) (omega arith))

job_few : (ls : List (List ℕ)) (rag : Bool) → Few (total ls) (total ls) (1 + total ls) (need_job ls rag)
unfolding need_job total
job_few [] rag = malformed_few _ _ 1 (omega arith)
job_few (l ∷ ls) rag = go (parallelism_of (line_of l)) refl
  where
    go : (x : Option ℕ) → parallelism_of (line_of l) ≡ x → Few (total (l ∷ ls)) (total (l ∷ ls)) (1 + total (l ∷ ls)) (need_job (l ∷ ls) rag)
    go none e = rw (need_job, e) (malformed_few _ _ 1 (omega arith))
    go (some P) e = rw (need_job, e) (few_more _ (places_few ls rag) (omega arith) (omega arith) (omega arith))

-- ---- the claim

under_ceiling : (k : Model) → Ceiling k [] → k.guide.first ≤ most_spans (used k)
unfolding most_spans used ended
under_ceiling k h = go k.closed h
  where
    go : (c : Bool) → (k.guide.first + 2 * (0 + length k.pending) ≤ 2 * length k.adds + 32 * (k.flushes + ended c))
        → k.guide.first ≤ 2 * length k.adds + 32 * (k.flushes + 1)
    go true h = omega arith
    go false h = omega arith

few_fit : (c : Needs) → c.registrations + c.flushes ≤ most_job_bytes → c.pool ≤ most_job_bytes
    → In32 c.registrations × In32 c.pool × In32 c.flushes × In32 (most_spans c)
unfolding most_spans
few_fit c h i = (omega (arith, h), omega (arith, i), omega (arith, h), omega (arith, h))

-- a job that is too long
module _ (bs : List ℕ) (o : outcome bs ≡ rejected 1 refusal.long_job) (r : needs bs ≡ unread 1 refusal.long_job) where
  unfinished : (P : ℕ) (k : Model) → outcome bs ≡ finished P k → ⊥
  unfinished P k f = let e : finished P k ≡ rejected 1 refusal.long_job = sym f ∙ o in let z : ◌≡◌ {A = ℕ} 0 1 = cc in omega arith

  long_alone : (n code : ℕ) → outcome bs ≡ rejected n code → (n ≡ 1) × (code ≡ refusal.long_job)
  long_alone n code f = let e : rejected n code ≡ rejected 1 refusal.long_job = sym f ∙ o in ((cc), (cc))

  needs_none : (c : Needs) → needs bs ≡ needing c → ⊥
  needs_none c f = let e : needing c ≡ unread 1 refusal.long_job = sym f ∙ r in let z : ◌≡◌ {A = ℕ} 0 1 = cc in omega arith

  unread_alone : (n code : ℕ) → needs bs ≡ unread n code → (n ≡ 1) × (code ≡ refusal.long_job)
  unread_alone n code f = let e : unread n code ≡ unread 1 refusal.long_job = sym f ∙ r in ((cc), (cc))

  long_needed : Needed bs
  long_needed =
      record {
        accepted = λ P k f. absurd (unfinished P k f);
        malformed_alike = λ n f. let z = long_alone n refusal.malformed f in absurd (omega (arith, z.1));
        long_alike = λ n f. rw (long_alone n refusal.long_job f).0 r;
        only = λ n code f. let z = unread_alone n code f in (inr z.1, omega (arith, z.0));
        few = λ c f. absurd (needs_none c f);
        fit = λ c f. absurd (needs_none c f);
      }

-- one that is not
module _ (bs : List ℕ) (short : length bs ≤ most_job_bytes) (o : outcome bs ≡ run_job (lines bs) (ragged bs)) (r : needs bs ≡ need_job (lines bs) (ragged bs)) where
  agreed : (x : Outcome) → outcome bs ≡ x → Agrees job_pool x (needs bs)
  agreed x e =
      subst (λ (y : Reading). Agrees job_pool x y) (sym r)
      (subst (λ (y : Outcome). Agrees job_pool y (need_job (lines bs) (ragged bs))) (sym o ∙ e) (job_agrees (lines bs) (ragged bs)))

  bytes_few : total (lines bs) ≤ most_job_bytes
  unfolding lines
  bytes_few = omega (arith, lines_total [] bs)

  bounded : (x : Reading) → needs bs ≡ x → Few most_job_bytes most_job_bytes (1 + most_job_bytes) x
  bounded x e =
      subst (λ (y : Reading). Few most_job_bytes most_job_bytes (1 + most_job_bytes) y) (sym r ∙ e)
      (few_more _ (job_few (lines bs) (ragged bs)) bytes_few bytes_few (omega (arith, bytes_few)))

  short_needed : Needed bs
  unfolding Few
  short_needed =
      record {
        accepted = λ P k f. let a = agreed (finished P k) f in (a.0, under_ceiling k a.1.1.sound.ceiling);
        malformed_alike = λ n f. (agreed (rejected n refusal.malformed) f).1 refl;
        long_alike = λ n f. let a = agreed (rejected n refusal.long_job) f in absurd (a.0 refl);
        only = λ n code f. let b = bounded (unread n code) f in (inl b.0, omega (arith, b.1));
        few = λ c f. bounded (needing c) f;
        fit = λ c f. let b = bounded (needing c) f in few_fit c b.0 b.1;
      }

pub needed : (bs : List ℕ) → Needed bs
unfolding outcome needs
needed bs = go (bool_cases (ltb most_job_bytes (length bs)))
  where
    go : (ltb most_job_bytes (length bs) ≡ true) ⊎ (ltb most_job_bytes (length bs) ≡ false) → Needed bs
    go (inl e) = long_needed bs (rw (outcome, e)) (rw (needs, e))
    go (inr e) = short_needed bs (ltb-false most_job_bytes (length bs) e) (rw (outcome, e)) (rw (needs, e))
