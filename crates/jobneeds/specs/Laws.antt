-- Laws of reading a job's needs: those of some lines are told by their first call, those of a job by its head. Assumes nothing.
use Rattle.std.specs.Prelude.{Result, Ok, Err, Bool, ◌⊎◌, ◌≡◌, ℕ, suc, ◌+◌, ◌*◌, ◌/◌, ◌^◌, ◌≤◌, ◌<◌, take, drop}
use mathlib.Core.List.{List, [], ◌∷◌}
use Rattle.std.proofs.Common.{inl, inr, ◌∙◌, length-take}
use Rattle.std.proofs.Math.Option.{Option, some, none}
use Rattle.std.proofs.Math.Path.{refl, sym, ap, subst}
use Rattle.std.proofs.Math.Numerals.{add-one}
use native.Mathlib.Omega.{arith}
use Rattle.std.proofs.Math.ListN.{length, length-drop}
use borrow.Author.Tests.{lt-ltb, le-ltb}
use Rattle.rules.specs.Limits.{most_job_bytes, reply_radix}
use Rattle.rules.specs.Refusals as refusal
use Rattle.rules.specs.Answer.{number_of}
use Rattle.rules.specs.Calls as calls
use Rattle.rules.specs.Job as job_rule
use Rattle.rules.specs.Job.{nothing, labelled, reading, lines, ragged}
use Rattle.rules.specs.Needs as rule
use Rattle.rules.specs.Needs.{no_needs, with_call, ending, need_lines, need_places, need_job, needs}
use Rattle.laws.specs.NeedsProof.{needed}
use Rattle.jobcalls.specs.declared.Call.{Call}
use Rattle.jobcalls.specs.declared.Call.TheVariants as call
use Rattle.jobcalls.specs.declared.Rejection.{Rejection}
use Rattle.jobcalls.specs.Next.{Next}
use Rattle.jobcalls.specs.Next as next
use Rattle.jobcalls.specs.Head.{Head}
use Rattle.jobcalls.specs.Head as head
use Rattle.jobcalls.specs.Told.{first_line, other_lines, FirstCall, found, malformed, added, after_lane, started, first_call, call_of, taken_by, first_as, NextCall}
use Rattle.jobcalls.specs.Told.{Heading, sized, unsized, heading_2, heading_1, heading, heading_as, HeadRead}
use Rattle.jobcalls.specs.Laws.{SomeLeft, none_left, some_left, line_of, line_near}
use Rattle.jobneeds.specs.declared.Needs.{Needs}
use Rattle.jobneeds.specs.Told.{needs_of, reading_as, Countable, Counts, Few, remains, MayRead}
use Rattle.jobneeds.specs.Layout.{needs_numbers, needs_result, needs_after}

-- what the first call tells of the needs
unfoldable goes : FirstCall → Bool → rule.Needs → rule.Reading
goes (malformed n) rag c = rule.unread n refusal.malformed
goes (found (calls.set x) n rest) rag c = need_lines (suc n) nothing rest rag (with_call (calls.set x) c)
goes (found (calls.add lane ins outs) n rest) rag c = need_lines (suc n) nothing rest rag (with_call (calls.add lane ins outs) c)
goes (found calls.flush n rest) rag c = need_lines (suc n) nothing rest rag (with_call calls.flush c)
goes (found calls.final n rest) rag c = ending (suc n) rest rag (with_call calls.final c)

module _ (rag : Bool) (c : rule.Needs) where
  need_added : (n lane : ℕ) (ins : List ℕ) (ls : List (List ℕ)) → need_lines n (reading lane ins) ls rag c ≡ goes (added n lane ins (first_line ls) (other_lines ls)) rag c
  unfolding need_lines added first_line other_lines goes
  need_added n lane ins [] = refl
  need_added n lane ins (l ∷ ls) = go (job_rule.outputs_of (job_rule.line_of l)) refl
    where
      go : (x : Option (List ℕ)) → job_rule.outputs_of (job_rule.line_of l) ≡ x
          → need_lines n (reading lane ins) (l ∷ ls) rag c ≡ goes (added n lane ins (job_rule.line_of l) ls) rag c
      go none e = rw (need_lines, added, e)
      go (some outs) e = rw (need_lines, added, e)

  need_after_lane : (n lane : ℕ) (ls : List (List ℕ)) → need_lines n (labelled lane) ls rag c ≡ goes (after_lane n lane (first_line ls) (other_lines ls)) rag c
  unfolding need_lines after_lane first_line other_lines goes
  need_after_lane n lane [] = refl
  need_after_lane n lane (l ∷ ls) = go (job_rule.inputs_of (job_rule.line_of l)) refl
    where
      go : (x : Option (List ℕ)) → job_rule.inputs_of (job_rule.line_of l) ≡ x
          → need_lines n (labelled lane) (l ∷ ls) rag c ≡ goes (after_lane n lane (job_rule.line_of l) ls) rag c
      go none e = rw (need_lines, after_lane, e)
      go (some ins) e = rw (need_lines, after_lane, e) (need_added (suc n) lane ins ls)

  need_first : (n : ℕ) (ls : List (List ℕ)) → need_lines n nothing ls rag c ≡ goes (first_call n ls) rag c
  unfolding need_lines first_call started first_line other_lines goes
  need_first n [] = refl
  need_first n (l ∷ ls) = go (job_rule.line_of l) refl
    where
      go : (x : job_rule.Line) → job_rule.line_of l ≡ x → need_lines n nothing (l ∷ ls) rag c ≡ goes (started n (job_rule.line_of l) ls) rag c
      go (job_rule.set_line x) e = rw (need_lines, started, e)
      go (job_rule.lane_line lane) e = rw (need_lines, started, e) (need_after_lane (suc n) lane ls)
      go (job_rule.in_line ins) e = rw (need_lines, started, e) (need_added (suc n) 0 ins ls)
      go job_rule.flush_line e = rw (need_lines, started, e)
      go job_rule.final_line e = rw (need_lines, started, e)
      go (job_rule.parallelism_line x) e = rw (need_lines, started, e)
      go (job_rule.places_line x) e = rw (need_lines, started, e)
      go (job_rule.out_line outs) e = rw (need_lines, started, e)
      go job_rule.malformed e = rw (need_lines, started, e)

-- nothing after final, and something
ends : (n : ℕ) (c : rule.Needs) (l : List ℕ) → length l ≡ 0 → ending n (lines l) (ragged l) c ≡ rule.needing c
unfolding ending
ends n c l e = let z = none_left l e in rw (z.0, z.1)

surplus : (n : ℕ) (c : rule.Needs) (l : List ℕ) → (length l ≡ 0 → ⊥) → ending n (lines l) (ragged l) c ≡ rule.unread n refusal.malformed
unfolding ending
surplus n c l h = go (some_left l h)
  where
    go : SomeLeft (lines l) (ragged l) → ending n (lines l) (ragged l) c ≡ rule.unread n refusal.malformed
    go (inl e) = rw (e.0, e.1)
    go (inr e) = rw e.1.1

-- the calls up to `at`, which is line n, have the needs c; each call has a byte, and at most as many list numbers as there is room for
pub record Counting (job : List ℕ) (start at n : ℕ) (c : Needs) : Type 0 where
  pub inside : at ≤ length job
  pub low : n ≤ at + 3
  pub few : c.registrations + c.flushes ≤ at
  pub small : c.pool ≤ (most_job_bytes / 2 + 1) * at
  pub is : remains job start 3 no_needs ≡ remains job at n (needs_of c)

pub counting_begins : {job : List ℕ} {room start : ℕ} → MayRead job room start → Counting job start start 3 (record { registrations = 0; pool = 0; flushes = 0 })
unfolding no_needs
counting_begins m = record { inside = m.inside; low = omega arith; few = omega arith; small = omega arith; is = refl }

-- one call more
need_on : (x : Call) (read : List ℕ) (m : ℕ) (rest : List (List ℕ)) (rag : Bool) (c : rule.Needs)
    → goes (found (call_of x read) m rest) rag c ≡ need_lines (suc m) nothing rest rag (with_call (call_of x read) c)
unfolding goes
need_on (call.Set x) read m rest rag c = refl
need_on (call.Add lane i o) read m rest rag c = refl
need_on call.Flush read m rest rag c = refl

-- a call counted, by what it is
module _ (c : Needs) {x : Call} where
  pub counts_set : (place : ℕ) → x ≡ call.Set place → Counts c x c
  unfolding with_call
  counts_set place e = subst (λ (y : Call). Counts c y c) (sym e) (λ read h. refl)

  pub lists_fit : (lane i o : ℕ) → x ≡ call.Add lane i o → Countable c x → c.pool + (i + o) < 2 ^ 64
  lists_fit lane i o e m = omega (arith, m.pool, ap taken_by e)

  pub counts_add : (lane i o : ℕ) → x ≡ call.Add lane i o → Counts c x (record { registrations = c.registrations + 1; pool = c.pool + (i + o); flushes = c.flushes })
  unfolding with_call
  counts_add lane i o e = subst (λ (y : Call). Counts c y (record { registrations = c.registrations + 1; pool = c.pool + (i + o); flushes = c.flushes })) (sym e) added_is
    where
      added_is : Counts c (call.Add lane i o) (record { registrations = c.registrations + 1; pool = c.pool + (i + o); flushes = c.flushes })
      added_is read h =
          let p : length (take i read) ≡ i = rw (length-take i read) (omega arith) in
          let q : length (take o (drop (i + 1) read)) ≡ o = rw (length-take o (drop (i + 1) read), length-drop (i + 1) read) (omega arith) in
          let r : c.pool + (i + o) ≡ c.pool + i + o = omega arith in
          rw (p, q, r, add-one c.registrations)

  pub counts_flush : x ≡ call.Flush → Counts c x (record { registrations = c.registrations; pool = c.pool; flushes = c.flushes + 1 })
  unfolding with_call
  counts_flush e =
      subst (λ (y : Call). Counts c y (record { registrations = c.registrations; pool = c.pool; flushes = c.flushes + 1 })) (sym e) (λ read h. rw (add-one c.flushes))

-- how far a call raises the counts
raised_few : (x : calls.Call) (c : rule.Needs) → (with_call x c).registrations + (with_call x c).flushes ≤ c.registrations + c.flushes + 1
unfolding with_call
raised_few (calls.set x) c = omega arith
raised_few (calls.add lane ins outs) c = omega arith
raised_few calls.flush c = omega arith
raised_few calls.final c = omega arith

raised_small : (x : Call) (read : List ℕ) (c : rule.Needs) → (with_call (call_of x read) c).pool ≤ c.pool + taken_by x
unfolding with_call
raised_small (call.Set x) read c = omega arith
raised_small (call.Add lane i o) read c = omega (arith, length-take i read, length-take o (drop (i + 1) read))
raised_small call.Flush read c = omega arith

module _ {job entry read : List ℕ} {start room at n : ℕ} {c : Needs} (M : MayRead job room start) (C : Counting job start at n c) where
  begins : {r : Next} → NextCall job at n entry read r → remains job start 3 no_needs ≡ goes (first_as job read r) (ragged (drop at job)) (needs_of c)
  unfolding remains
  begins {r} d =
      C.is ∙ need_first (ragged (drop at job)) (needs_of c) n (lines (drop at job))
      ∙ ap (λ (f : FirstCall). goes f (ragged (drop at job)) (needs_of c)) d.is

  -- the line after a call's has a number
  pub line_after : {r : Next} → NextCall job at n entry read r → line_of (first_as job read r) + 1 < 2 ^ 64
  line_after d = omega (arith, C.low, C.inside, M.short, line_near n (lines (drop at job)), ap line_of d.is)

  pub reads_malformed : (m : ℕ) → NextCall job at n entry read (next.Malformed m) → rule.unread m refusal.malformed ≡ remains job start 3 no_needs
  unfolding goes
  reads_malformed m d = sym (begins d)

  module _ (m after : ℕ) (d : NextCall job at n entry read (next.Final m after)) where
    finals : remains job start 3 no_needs ≡ ending (suc m) (lines (drop after job)) (ragged (drop after job)) (needs_of c)
    unfolding goes with_call
    finals = begins d ∙ ap (λ (b : Bool). ending (suc m) (lines (drop after job)) b (needs_of c)) (sym d.next.end)

    pub reads_all : after ≡ length job → rule.needing (needs_of c) ≡ remains job start 3 no_needs
    reads_all z = sym (finals ∙ ends (suc m) (needs_of c) (drop after job) (rw (length-drop after job) (omega arith)))

    pub reads_surplus : (after ≡ length job → ⊥) → rule.unread (m + 1) refusal.malformed ≡ remains job start 3 no_needs
    reads_surplus z =
        ap (λ (x : ℕ). rule.unread x refusal.malformed) (add-one m)
        ∙ sym (finals ∙ surplus (suc m) (needs_of c) (drop after job) (λ y. z (omega (arith, d.next.within, sym (length-drop after job) ∙ y))))

  module _ (x : Call) (m after : ℕ) (d : NextCall job at n entry read (next.Call x m after)) (same : length read ≡ room) where
    near : n ≤ m
    near = omega (arith, line_near n (lines (drop at job)), ap line_of d.is)

    pub may_count : Countable c x
    may_count =
        record {
          registrations = omega (arith, C.few, C.inside, M.short);
          pool = omega (arith, C.small, C.inside, M.short, M.room_is, d.into.0);
          flushes = omega (arith, C.few, C.inside, M.short);
        }

    pub falls : (at < after) × (after ≤ length job)
    falls = (omega (arith, near, d.next.past), d.next.within)

    pub counts_on : {c' : Needs} → Counts c x c' → Counting job start after (m + 1) c'
    unfolding remains
    counts_on {c'} q =
        let p = q read d.into.0 in
        record {
          inside = d.next.within;
          low = omega (arith, d.next.past, C.low);
          few = omega (arith, falls, C.few, ap (λ (y : rule.Needs). y.registrations + y.flushes) p, raised_few (call_of x read) (needs_of c));
          small = omega (arith, falls, C.small, ap (λ (y : rule.Needs). y.pool) p, raised_small x read (needs_of c), d.into.0, M.room_is, same);
          is = begins d ∙ need_on x read m (lines (drop after job)) (ragged (drop at job)) (needs_of c)
              ∙ ap (λ (b : Bool). need_lines (suc m) nothing (lines (drop after job)) b (with_call (call_of x read) (needs_of c))) (sym d.next.end)
              ∙ ap (λ (y : rule.Needs). need_lines (suc m) nothing (lines (drop after job)) (ragged (drop after job)) y) (sym p)
              ∙ ap (λ (i : ℕ). need_lines i nothing (lines (drop after job)) (ragged (drop after job)) (needs_of c')) (sym (add-one m));
        }

-- the needs of a job are told by its head
unfoldable from_head : Heading → Bool → rule.Reading
from_head (unsized n) rag = rule.unread n refusal.malformed
from_head (sized P N rest) rag = need_lines 3 nothing rest rag no_needs

need_line_2 : (P : ℕ) (ls : List (List ℕ)) (rag : Bool) → need_places ls rag ≡ from_head (heading_2 P (first_line ls) (other_lines ls)) rag
unfolding need_places heading_2 first_line other_lines from_head
need_line_2 P [] rag = refl
need_line_2 P (l ∷ ls) rag = go (job_rule.places_of (job_rule.line_of l)) refl
  where
    go : (x : Option ℕ) → job_rule.places_of (job_rule.line_of l) ≡ x → need_places (l ∷ ls) rag ≡ from_head (heading_2 P (job_rule.line_of l) ls) rag
    go none e = rw (need_places, heading_2, e)
    go (some N) e = rw (need_places, heading_2, e)

need_heading : (ls : List (List ℕ)) (rag : Bool) → need_job ls rag ≡ from_head (heading ls) rag
unfolding need_job heading heading_1 first_line other_lines from_head
need_heading [] rag = refl
need_heading (l ∷ ls) rag = go (job_rule.parallelism_of (job_rule.line_of l)) refl
  where
    go : (x : Option ℕ) → job_rule.parallelism_of (job_rule.line_of l) ≡ x → need_job (l ∷ ls) rag ≡ from_head (heading_1 (job_rule.line_of l) ls) rag
    go none e = rw (need_job, heading_1, e)
    go (some P) e = rw (need_job, heading_1, e) (need_line_2 P ls rag)

pub told_long : (job : List ℕ) → most_job_bytes < length job → rule.unread 1 refusal.long_job ≡ needs job
unfolding needs
told_long job h = rw (needs, lt-ltb most_job_bytes (length job) h)

module _ {job entry exit : List ℕ} (short : length job ≤ most_job_bytes) {h : Head} (r : HeadRead job h entry exit) where
  by_heading : needs job ≡ from_head (heading (lines job)) (ragged job)
  unfolding needs
  by_heading = rw (needs, le-ltb most_job_bytes (length job) short) (need_heading (lines job) (ragged job))

  pub told_malformed : (n : ℕ) → h ≡ head.Malformed n → rule.unread n refusal.malformed ≡ needs job
  unfolding from_head
  told_malformed n e = sym (by_heading ∙ ap (λ (x : Heading). from_head x (ragged job)) (r.is ∙ ap (heading_as job) e))

  module _ (P N start : ℕ) (e : h ≡ head.Sizes P N start) where
    sized_head : HeadRead job (head.Sizes P N start) entry exit
    sized_head = subst (λ (x : Head). HeadRead job x entry exit) e r

    pub may_read : (room : ℕ) → room ≡ most_job_bytes / 2 + 1 → MayRead job room start
    may_read room q = record { inside = sized_head.starts.1.0; short = short; room_is = q }

    pub told_read : (x : Result Needs Rejection) → reading_as x ≡ remains job start 3 no_needs → reading_as x ≡ needs job
    unfolding from_head remains
    told_read x u =
        u ∙ ap (λ (b : Bool). need_lines 3 nothing (lines (drop start job)) b no_needs) sized_head.starts.1.1
        ∙ sym (by_heading ∙ ap (λ (y : Heading). from_head y (ragged job)) sized_head.is)

-- what was read, in the host's numbers
module _ (job : List ℕ) {r : Result Needs Rejection} (told : reading_as r ≡ needs job) where
  module _ {c : Needs} (e : r ≡ Ok c) where
    needing_is : needs job ≡ rule.needing (needs_of c)
    needing_is = sym told ∙ ap reading_as e

    pub needs_few : Few (needs_of c)
    needs_few = ((needed job).few (needs_of c) needing_is).0

    pub numbers_are : (before : List ℕ) {most : ℕ} → most ≡ rule.most_spans (needs_of c)
        → (0 ≡ needs_result (needs job)) × ((c.registrations ∷ c.pool ∷ c.flushes ∷ most ∷ []) ≡ needs_after (needs job) before)
    unfolding needs_result needs_after needs_numbers
    numbers_are before m = (rw needing_is, rw (needing_is, m))

  module _ {x : Rejection} (e : r ≡ Err x) where
    unread_is : needs job ≡ rule.unread x.line (number_of x.refusal)
    unread_is = sym told ∙ ap reading_as e

    pub result_fits : reply_radix * x.line + number_of x.refusal < 2 ^ 64
    result_fits = let o = (needed job).only x.line (number_of x.refusal) unread_is in go (number_of x.refusal) o.0 o.1
      where
        go : (code : ℕ) → (code ≡ refusal.malformed) ⊎ (code ≡ refusal.long_job) → x.line ≤ most_job_bytes + 1 → reply_radix * x.line + code < 2 ^ 64
        go code (inl z) h = omega (arith, z, h)
        go code (inr z) h = omega (arith, z, h)

    pub refusal_is : (before : List ℕ) → (reply_radix * x.line + number_of x.refusal ≡ needs_result (needs job)) × (before ≡ needs_after (needs job) before)
    unfolding needs_result needs_after
    refusal_is before = (rw unread_is, rw unread_is)
