-- The proof of the sentence on jobs (`SameJobs` in Claims): two jobs that differ only in the numbers of their lanes go line by line through
-- models that are the same but for lanes. Assumes nothing.
use Rattle.std.specs.Prelude.{List, ◌∷◌, Bool, true, false, ◌⊎◌, ◌≢◌, ◌≡◌, ℕ, suc, length, eqb, ltb}
use Rattle.std.proofs.Common.{inl, inr, arith}
use Rattle.std.proofs.Math.Option.{Option, some, none}
use Rattle.std.proofs.Math.Path.{refl}
use Rattle.rules.specs.Limits.{most_job_bytes, job_pool}
use Rattle.rules.specs.Refusals as refusal
use Rattle.rules.specs.Model.{Model, initial}
use Rattle.rules.specs.Calls.{Call, answer, step}
use Rattle.rules.specs.Job.{lines, ragged, line_of, parallelism_of, places_of, inputs_of, outputs_of, Start, single, label, inputs, last, start_of, Outcome, finished, rejected}
use Rattle.rules.specs.Job.{on_line, closing, Begun, nothing, labelled, reading, run_lines, run_places, run_job, outcome}
use Rattle.rules.specs.Listing.{listing, listed, refused, fit, told, reply}
use Rattle.laws.specs.ModelBase.{bool_cases}
use Rattle.lanes.specs.Claims.{bare, equal, lanes, SameLines, no_more, more, NotTooLong, SameReply, both_refused, both_listed, SameJobs}
use Rattle.lanes.proofs.Models.{SameLane, low_lanes, SameCall, equal as equal_call, lanes as other_lane, answer_same, step_same}
use Rattle.lanes.proofs.Listings.{listings_same}

-- refused on one line with one number, or finished with models that are the same but for lanes
data SameEnd : Outcome → Outcome → Type 0 where
  both_rejected : {n code : ℕ} → SameEnd (rejected n code) (rejected n code)
  both_finished : {P : ℕ} {k j : Model} → bare k ≡ bare j → SameEnd (finished P k) (finished P j)

on_same : (n : ℕ) {c d : ℕ} {o p : Outcome} → c ≡ d → SameEnd o p → SameEnd (on_line n c o) (on_line n d p)
unfolding on_line
on_same n {c} {d} {o} {p} e s = rw e (go (bool_cases (eqb d 0)))
  where
    go : (eqb d 0 ≡ true) ⊎ (eqb d 0 ≡ false) → SameEnd (on_line n d o) (on_line n d p)
    go (inl f) = rw (on_line, f) s
    go (inr f) = rw (on_line, f) both_rejected

closing_same : (P n : ℕ) {ls ms : List (List ℕ)} (rag : Bool) (k j : Model) → SameLines ls ms → bare k ≡ bare j → SameEnd (closing P n ls rag k) (closing P n ms rag j)
unfolding closing
closing_same P n false k j no_more h = both_finished h
closing_same P n true k j no_more h = both_rejected
closing_same P n rag k j (more a s) h = both_rejected

-- what is read of an add, in both jobs
data SameBegun : Begun → Begun → Type 0 where
  both_nothing : SameBegun nothing nothing
  both_labelled : {x y : ℕ} → SameLane x y → SameBegun (labelled x) (labelled y)
  both_reading : {x y : ℕ} {ins : List ℕ} → SameLane x y → SameBegun (reading x ins) (reading y ins)

module _ (P N W : ℕ) where
  -- from some lines on
  abbrev SameFrom : ℕ → List (List ℕ) → List (List ℕ) → Bool → Type 0
  SameFrom n ls ms rag = (b c : Begun) (k j : Model) → SameBegun b c → bare k ≡ bare j → SameEnd (run_lines P N W n b ls rag k) (run_lines P N W n c ms rag j)

  -- a call on the line before them
  call_same : (n : ℕ) (ls ms : List (List ℕ)) (rag : Bool) → SameFrom (suc n) ls ms rag → {c d : Call} → SameCall c d → (k j : Model) → bare k ≡ bare j
      → SameEnd (on_line n (answer N W c k) (run_lines P N W (suc n) nothing ls rag (step P N W c k))) (on_line n (answer N W d j) (run_lines P N W (suc n) nothing ms rag (step P N W d j)))
  call_same n ls ms rag f s k j h = on_same n (answer_same P N W s k j h) (f nothing nothing _ _ both_nothing (step_same P N W s k j h))

  -- a line that stands in both
  module _ (n : ℕ) (l : List ℕ) {ls ms : List (List ℕ)} (rag : Bool) (s : SameLines ls ms) (f : SameFrom (suc n) ls ms rag) (k j : Model) (h : bare k ≡ bare j) where
    starts_same : SameEnd (run_lines P N W n nothing (l ∷ ls) rag k) (run_lines P N W n nothing (l ∷ ms) rag j)
    unfolding run_lines
    starts_same = go (start_of (line_of l)) refl
      where
        go : (x : Option Start) → start_of (line_of l) ≡ x → SameEnd (run_lines P N W n nothing (l ∷ ls) rag k) (run_lines P N W n nothing (l ∷ ms) rag j)
        go (some (single c)) e = rw (run_lines, e) (call_same n ls ms rag f equal_call k j h)
        go (some (label x)) e = rw (run_lines, e) (f _ _ k j (both_labelled refl) h)
        go (some (inputs ins)) e = rw (run_lines, e) (f _ _ k j (both_reading refl) h)
        go (some last) e = rw (run_lines, e) (on_same n (answer_same P N W equal_call k j h) (closing_same P (suc n) rag _ _ s (step_same P N W equal_call k j h)))
        go none e = rw (run_lines, e) both_rejected

    inputs_same : (x y : ℕ) → SameLane x y → SameEnd (run_lines P N W n (labelled x) (l ∷ ls) rag k) (run_lines P N W n (labelled y) (l ∷ ms) rag j)
    unfolding run_lines
    inputs_same x y a = go (inputs_of (line_of l)) refl
      where
        go : (o : Option (List ℕ)) → inputs_of (line_of l) ≡ o → SameEnd (run_lines P N W n (labelled x) (l ∷ ls) rag k) (run_lines P N W n (labelled y) (l ∷ ms) rag j)
        go (some ins) e = rw (run_lines, e) (f _ _ k j (both_reading a) h)
        go none e = rw (run_lines, e) both_rejected

    outputs_same : (x y : ℕ) (ins : List ℕ) → SameLane x y → SameEnd (run_lines P N W n (reading x ins) (l ∷ ls) rag k) (run_lines P N W n (reading y ins) (l ∷ ms) rag j)
    unfolding run_lines
    outputs_same x y ins a = go (outputs_of (line_of l)) refl
      where
        go : (o : Option (List ℕ)) → outputs_of (line_of l) ≡ o → SameEnd (run_lines P N W n (reading x ins) (l ∷ ls) rag k) (run_lines P N W n (reading y ins) (l ∷ ms) rag j)
        go (some outs) e = rw (run_lines, e) (call_same n ls ms rag f (other_lane a) k j h)
        go none e = rw (run_lines, e) both_rejected

  lines_same : (n : ℕ) {ls ms : List (List ℕ)} (rag : Bool) → SameLines ls ms → SameFrom n ls ms rag
  unfolding run_lines
  lines_same n rag no_more b c k j g h = both_rejected
  lines_same n rag (more (equal {l}) s) b c k j both_nothing h = starts_same n l rag s (lines_same (suc n) rag s) k j h
  lines_same n rag (more (equal {l}) s) b c k j (both_labelled {x} {y} a) h = inputs_same n l rag s (lines_same (suc n) rag s) k j h x y a
  lines_same n rag (more (equal {l}) s) b c k j (both_reading {x} {y} {ins} a) h = outputs_same n l rag s (lines_same (suc n) rag s) k j h x y ins a
  lines_same n rag (more (lanes {x = x} {y = y} e f low also) s) b c k j both_nothing h =
      rw (run_lines, e, f) (lines_same (suc n) rag s _ _ k j (both_labelled (low_lanes x y (omega arith) (omega arith))) h)
  lines_same n rag (more (lanes e f low also) s) b c k j (both_labelled a) h = rw (run_lines, e, f) both_rejected
  lines_same n rag (more (lanes e f low also) s) b c k j (both_reading a) h = rw (run_lines, e, f) both_rejected

places_same : (P : ℕ) {ls ms : List (List ℕ)} (rag : Bool) → SameLines ls ms → SameEnd (run_places P ls rag) (run_places P ms rag)
unfolding run_places
places_same P rag no_more = both_rejected
places_same P rag (more (lanes e f low also) s) = rw (run_places, e, f) both_rejected
places_same P rag (more {ls = ls} {ms = ms} (equal {l}) s) = go (places_of (line_of l)) refl
  where
    go : (x : Option ℕ) → places_of (line_of l) ≡ x → SameEnd (run_places P (l ∷ ls) rag) (run_places P (l ∷ ms) rag)
    go (some N) e = rw (run_places, e) (on_same 2 refl (lines_same P N job_pool 3 rag s nothing nothing initial initial both_nothing refl))
    go none e = rw (run_places, e) both_rejected

job_same : {ls ms : List (List ℕ)} (rag : Bool) → SameLines ls ms → SameEnd (run_job ls rag) (run_job ms rag)
unfolding run_job
job_same rag no_more = both_rejected
job_same rag (more (lanes e f low also) s) = rw (run_job, e, f) both_rejected
job_same rag (more {ls = ls} {ms = ms} (equal {l}) s) = go (parallelism_of (line_of l)) refl
  where
    go : (x : Option ℕ) → parallelism_of (line_of l) ≡ x → SameEnd (run_job (l ∷ ls) rag) (run_job (l ∷ ms) rag)
    go (some P) e = rw (run_job, e) (places_same P rag s)
    go none e = rw (run_job, e) both_rejected

-- ---- the answers

-- a job that is not refused under 16 is run, and a listing for which 17 is not given is listed
is_run : (room : ℕ) (job : List ℕ) → NotTooLong room job → outcome job ≡ run_job (lines job) (ragged job)
unfolding outcome reply told
is_run room job h = go (bool_cases (ltb most_job_bytes (length job)))
  where
    go : (ltb most_job_bytes (length job) ≡ true) ⊎ (ltb most_job_bytes (length job) ≡ false) → outcome job ≡ run_job (lines job) (ragged job)
    go (inl e) = absurd (h.not_16 1 (rw (outcome, e)))
    go (inr e) = rw (outcome, e)

is_listed : (room : ℕ) (text : List ℕ) → ((n : ℕ) → fit room text ≢ refused n refusal.long_listing) → fit room text ≡ listed text
unfolding fit
is_listed room text h = go (bool_cases (ltb room (length text)))
  where
    go : (ltb room (length text) ≡ true) ⊎ (ltb room (length text) ≡ false) → fit room text ≡ listed text
    go (inl e) = absurd (h 1 (rw (fit, e)))
    go (inr e) = rw (fit, e)

told_same : (room : ℕ) {o p : Outcome} → SameEnd o p → ((n : ℕ) → told room o ≢ refused n refusal.long_listing) → ((n : ℕ) → told room p ≢ refused n refusal.long_listing)
    → SameReply (told room o) (told room p)
unfolding told
told_same room both_rejected a b = both_refused
told_same room (both_finished {P} {k} {j} h) a b = rw (is_listed room (listing P k) a, is_listed room (listing P j) b) (both_listed (listings_same P k j h))

pub same_jobs : (room : ℕ) (job other : List ℕ) → SameJobs room job other
unfolding reply
same_jobs room job other s a b = told_same room same a.not_17 b.not_17
  where
    same : SameEnd (outcome job) (outcome other)
    same = rw (is_run room job a, is_run room other b, s.same_end) (job_same (ragged other) s.same_lines)
