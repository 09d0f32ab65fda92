-- Laws of a turn: a malformed call, one that is refused or goes on, and final. Assumes nothing.
use Rattle.std.specs.Prelude.{Bool, List, ◌⊎◌, ◌≡◌, refl, ℕ, zero, suc, ◌+◌, ◌/◌, ◌≤◌, length, take, drop}
use Rattle.std.proofs.Math.Logic.{inl}
use Rattle.std.proofs.Common.{inr, ◌∙◌, subst, suc-ne-zero, add-one, arith, length-drop, drop-drop}
use Rattle.std.proofs.Math.Path.{sym, ap}
use Rattle.std.proofs.Math.Decide.{dec_lt}
use borrow.Author.Tests.{eq-eqb, ne_eqb}
use Rattle.rules.specs.Model.{Model}
use Rattle.rules.specs.Calls as calls
use Rattle.rules.specs.Calls.{answer, step}
use Rattle.rules.specs.Job.{nothing, Outcome, finished, rejected, lines, ragged, on_line, closing}
use Rattle.rules.specs.Record.{summary}
use Rattle.rules.specs.Refusals as refusal
use Rattle.rules.specs.Summary as rule
use Rattle.laws.specs.Accepted.{call_code}
use Rattle.encoding.specs.Put.{before_inputs}
use Rattle.session.specs.declared.Session.{Session}
use Rattle.session.specs.Storage.{Storage, Beyond, beyond_drop, beyond_trans, frame_refl}
use Rattle.session.specs.Showing.{shows}
use Rattle.admitting.specs.Promise.{Asks, Called, step_refused}
use Rattle.sorter.specs.Chain.{follows_step}
use Rattle.sorter.specs.FinalWork.{Concludes}
use Rattle.jobcalls.specs.declared.Call.{Call}
use Rattle.jobcalls.specs.declared.Call.TheVariants as call
use Rattle.jobcalls.specs.Next.{Next}
use Rattle.jobcalls.specs.Next as next
use Rattle.jobcalls.specs.Told.{call_of, taken_by, FirstCall, found, first_as, NextCall}
use Rattle.jobcalls.specs.Laws.{SomeLeft, none_left, some_left, line_of, Near, line_near}
use Rattle.jobcalls.specs.Runs.{reads, makes, goes, call_runs}
use Rattle.jobturn.specs.Ends as end
use Rattle.jobturn.specs.Steps.{Step}
use Rattle.jobturn.specs.Steps as step'
use Rattle.jobturn.specs.Putting.{Puts}
use Rattle.jobturn.specs.Turned.{AfterCall, AfterFinal, remains, StandsFor, Accepts, end_figures, FiguresOf, Turned}

-- the end of a job: nothing may follow final
ends : (P n : ℕ) (k : Model) (l : List ℕ) → length l ≡ 0 → closing P n (lines l) (ragged l) k ≡ finished P k
unfolding closing
ends P n k l e = let z = none_left l e in rw (z.0, z.1)

surplus : (P n : ℕ) (k : Model) (l : List ℕ) → (length l ≡ 0 → ⊥) → closing P n (lines l) (ragged l) k ≡ rejected n refusal.malformed
unfolding closing
surplus P n k l h = go (some_left l h)
  where
    go : SomeLeft (lines l) (ragged l) → closing P n (lines l) (ragged l) k ≡ rejected n refusal.malformed
    go (inl e) = rw (e.0, e.1)
    go (inr e) = rw e.1.1

-- the run from a call on, by its number
module _ (P N W m : ℕ) (rest : List (List ℕ)) (rag : Bool) (k : Model) where
  makes_refused : (c : calls.Call) → (answer N W c k ≡ 0 → ⊥) → makes P N W m c rest rag k ≡ (rejected m (answer N W c k), k)
  unfolding on_line
  makes_refused c h = rw (on_line, ne_eqb (answer N W c k) 0 h)

  makes_on : (c : calls.Call) → answer N W c k ≡ 0 → makes P N W m c rest rag k ≡ reads P N W (suc m) nothing rest rag (step P N W c k)
  unfolding on_line
  makes_on c h = rw (on_line, eq-eqb (answer N W c k) 0 h)

  goes_refused : (c : calls.Call) → (answer N W c k ≡ 0 → ⊥) → goes P N W (found c m rest) rag k ≡ (rejected m (answer N W c k), k)
  unfolding goes on_line
  goes_refused (calls.set x) h = makes_refused (calls.set x) h
  goes_refused (calls.add l i o) h = makes_refused (calls.add l i o) h
  goes_refused calls.flush h = makes_refused calls.flush h
  goes_refused calls.final h = rw (on_line, ne_eqb (answer N W calls.final k) 0 h, step_refused P N W calls.final k h)

  goes_on : (c : Call) (read : List ℕ) → answer N W (call_of c read) k ≡ 0
      → goes P N W (found (call_of c read) m rest) rag k ≡ reads P N W (suc m) nothing rest rag (step P N W (call_of c read) k)
  unfolding goes
  goes_on (call.Set x) read h = makes_on (calls.set x) h
  goes_on (call.Add l i o) read h = makes_on (calls.add l (take i read) (take o (drop (i + 1) read))) h
  goes_on call.Flush read h = makes_on calls.flush h

  goes_final : answer N W calls.final k ≡ 0
      → goes P N W (found calls.final m rest) rag k ≡ (closing P (suc m) rest rag (step P N W calls.final k), step P N W calls.final k)
  unfolding goes on_line
  goes_final h = rw (on_line, eq-eqb (answer N W calls.final k) 0 h)

-- a call whose number is 0, or one that is refused
by_number : (n : ℕ) → (n ≡ 0) ⊎ (n ≡ 0 → ⊥)
by_number zero = inl refl
by_number (suc n) = inr (λ e. suc-ne-zero n e)

module _ {job entry read : List ℕ} {at n : ℕ} {r : Next} (c : NextCall job at n entry read r) where
  begins : (P N W : ℕ) (k : Model) → remains P N W job at n k ≡ goes P N W (first_as job read r) (ragged (drop at job)) k
  unfolding remains
  begins P N W k = call_runs c P N W (ragged (drop at job)) k

  -- its line is the first, or one of the two after it
  pub near : Near n (first_as job read r)
  near = subst (λ (f : FirstCall). Near n f) c.is (line_near n (lines (drop at job)))

-- what reading a call leaves of the storage for numbers, and then putting it down
module _ {job a mid : List ℕ} {at n : ℕ} {r : Next} (c : NextCall job at n (drop before_inputs a) (drop before_inputs mid) r) (same : length mid ≡ length a) where
  pub numbers_read : Beyond (length job / 2 + 4) a mid
  numbers_read =
      let k : before_inputs + (length job / 2 + 1) ≡ length job / 2 + 4 = omega arith in
      let far : (l : List ℕ) → drop (length job / 2 + 1) (drop before_inputs l) ≡ drop (length job / 2 + 4) l =
      λ l. drop-drop (length job / 2 + 1) before_inputs l ∙ ap (λ (j : ℕ). drop j l) k
      in
      beyond_drop (length job / 2 + 4) (length job / 2 + 4) a mid (omega arith) same (sym (far mid) ∙ c.into_beyond ∙ far a)

pub numbers_put : {job a mid b : List ℕ} {at n m after i : ℕ} {x : Call} → NextCall job at n (drop before_inputs a) (drop before_inputs mid) (next.Call x m after)
    → length mid ≡ length a → length b ≡ length mid → Puts x mid b i → Beyond (length job / 2 + 4) a b
numbers_put {job} {a} {mid} {b} {x = x} c same long p =
    beyond_trans (length job / 2 + 4) (length job / 2 + 4) a mid b (omega arith) (numbers_read c same)
    (beyond_drop (before_inputs + taken_by x) (length job / 2 + 4) mid b (omega (arith, c.listed)) long p.past)

-- a call that was made leads from the model before it to the one after it
stepped : {d : calls.Call} {num : ℕ} {s s' : Session} {σ σ' : Storage} → Called d num s s' σ σ' → (P N W : ℕ) (k : Model) → 1 ≤ P → StandsFor P N W s σ k
    → (num ≡ answer N W d k) × StandsFor P N W s' σ' (step P N W d k)
stepped {d} {num} {s} {s'} {σ} {σ'} made P N W k hP h =
    let f = follows_step P N W hP d k num s s' σ σ' h.pool h.rep h.between made in
    (f.0, record { rep = f.1; between = f.2; pool = f.3 })

module _ {job entry read a b : List ℕ} {at n : ℕ} (s : Session) (σ : Storage) (far : Beyond (length job / 2 + 4) a b) where
  pub turn_malformed : (m : ℕ) → NextCall job at n entry read (next.Malformed m) → Turned job at n s (step'.Ended (end.Rejected m refusal.malformed)) s σ σ a b
  unfolding goes
  turn_malformed m c =
      record {
        tells = λ P N W k hP h. inl (record { session = refl; storage = refl; is = begins c P N W k });
        further = (omega (arith, near c), omega arith);
        frame = frame_refl _ _ _ σ;
        into = far;
      }

  -- a call that was made, or final
  module _ (d : calls.Call) {num : ℕ} {s' : Session} {σ' : Storage} (made : Called d num s s' σ σ') where
    -- refused on line m
    stopped : (m : ℕ) {r : Next} (c : NextCall job at n entry read r) (after : ℕ) → first_as job read r ≡ found d m (lines (drop after job)) → Asks s σ → (num ≡ 0 → ⊥)
        → Turned job at n s (step'.Ended (end.Rejected m num)) s' σ σ' a b
    stopped m {r} c after e q z =
        let x = made.keeps q.parallelism q.places q.model q.rep q.between in
        let at_m : line_of (first_as job read r) ≡ m = ap line_of e in
        record {
          tells = λ P N W k hP h.
              let f = stepped made P N W k hP h in
              inl (record {
                session = (made.refused z).0;
                storage = (made.refused z).1;
                is = begins c P N W k ∙ ap (λ (y : FirstCall). goes P N W y (ragged (drop at job)) k) e
                    ∙ goes_refused P N W m (lines (drop after job)) (ragged (drop at job)) k d (λ y. z (f.0 ∙ y))
                    ∙ ap (λ (i : ℕ). (rejected m i, k)) (sym f.0);
              });
          further = (omega (arith, near c, at_m), rw x.0 (call_code q.places (length σ.pool) d q.model).0);
          frame = made.frame;
          into = far;
        }

  pub turn_call : (x : Call) (m after : ℕ) → NextCall job at n entry read (next.Call x m after)
      → {num : ℕ} {s' : Session} {σ' : Storage} → Called (call_of x read) num s s' σ σ' → Asks s σ
      → {r : Step} → AfterCall num m after r → Turned job at n s r s' σ σ' a b
  unfolding remains
  turn_call x m after c {num} {s'} {σ'} made q {r} told = go (by_number num)
    where
      accepted : num ≡ 0 → Turned job at n s (step'.On after (m + 1)) s' σ σ' a b
      accepted z =
          record {
            tells = λ P N W k hP h.
                let f = stepped made P N W k hP h in
                let ok : answer N W (call_of x read) k ≡ 0 = sym f.0 ∙ z in (
                  call_of x read,
                  (
                    record { accepted = ok; stands = f.1 },
                    begins c P N W k ∙ goes_on P N W m (lines (drop after job)) (ragged (drop at job)) k x read ok
                        ∙ ap (λ (i : ℕ). reads P N W i nothing (lines (drop after job)) (ragged (drop at job)) (step P N W (call_of x read) k)) (sym (add-one m))
                        ∙ ap (λ (b : Bool). reads P N W (m + 1) nothing (lines (drop after job)) b (step P N W (call_of x read) k)) (sym c.next.end),
                  ),
                );
            further = (omega (arith, near c, c.next.past), (c.next.within, omega (arith, c.next.past)));
            frame = made.frame;
            into = far;
          }

      go : (num ≡ 0) ⊎ (num ≡ 0 → ⊥) → Turned job at n s r s' σ σ' a b
      go (inl z) = rw (told.accepted z) (accepted z)
      go (inr z) = rw (told.refused z) (stopped (call_of x read) made m c after refl q z)

  module _ (m after : ℕ) (c : NextCall job at n entry read (next.Final m after)) {num : ℕ} {s' : Session} {σ' : Storage} {f : rule.Figures}
      (done : Concludes num s s' σ σ' f) (q : Asks s σ) where
    module _ (z : num ≡ 0) (P N W : ℕ) (k : Model) (hP : 1 ≤ P) (h : StandsFor P N W s σ k) where
      abbrev closed : Model
      closed = step P N W calls.final k

      accepted : Accepts P N W calls.final k s' σ'
      accepted = let x = stepped done.called P N W k hP h in record { accepted = sym x.0 ∙ z; stands = x.1 }

      -- what remains after it
      left : remains P N W job at n k ≡ (closing P (m + 1) (lines (drop after job)) (ragged (drop after job)) closed, closed)
      left =
          begins c P N W k ∙ goes_final P N W m (lines (drop after job)) (ragged (drop at job)) k accepted.accepted
          ∙ ap (λ (i : ℕ). (closing P i (lines (drop after job)) (ragged (drop at job)) closed, closed)) (sym (add-one m))
          ∙ ap (λ (b : Bool). (closing P (m + 1) (lines (drop after job)) b closed, closed)) (sym c.next.end)

      figures : FiguresOf P closed (end_figures s' f)
      unfolding summary rule.figures
      figures =
          let x = shows P N closed s' σ' accepted.stands.rep in
          let e = done.summary z P N k h.rep (rw h.pool h.between) in
          record {
            parallelism_is = accepted.stands.rep.core.guided.p_is;
            written_is = x.written;
            places_is = x.places;
            median_is = ap (λ (y : rule.Figures). y.median) (rw h.pool at e);
          }

    finished_turn : num ≡ 0 → after ≡ length job → Turned job at n s (step'.Ended (end.Finished (end_figures s' f))) s' σ σ' a b
    finished_turn z e =
        record {
          tells = λ P N W k hP h.
              record {
                final = accepted z P N W k hP h;
                figures = figures z P N W k hP h;
                is = left z P N W k hP h
                    ∙ ap (λ (y : Outcome). (y, closed z P N W k hP h)) (ends P (m + 1) (closed z P N W k hP h) (drop after job) (rw (length-drop after job) (omega arith)));
              };
          further = tt;
          frame = done.called.frame;
          into = far;
        }

    surplus_turn : num ≡ 0 → (after ≡ length job → ⊥) → Turned job at n s (step'.Ended (end.Rejected (m + 1) refusal.malformed)) s' σ σ' a b
    surplus_turn z e =
        record {
          tells = λ P N W k hP h.
              inr (record {
                final = accepted z P N W k hP h;
                number = refl;
                is = left z P N W k hP h
                    ∙ ap (λ (y : Outcome). (y, closed z P N W k hP h))
                    (surplus P (m + 1) (closed z P N W k hP h) (drop after job) (λ y. e (omega (arith, c.next.within, simp length-drop at y))));
              });
          further = (omega (arith, near c), omega arith);
          frame = done.called.frame;
          into = far;
        }

    pub turn_final : {r : Step} → AfterFinal num m after (length job) (end_figures s' f) r → Turned job at n s r s' σ σ' a b
    turn_final {r} told = go (by_number num)
      where
        ended : num ≡ 0 → (after ≡ length job) ⊎ (after ≡ length job → ⊥) → Turned job at n s r s' σ σ' a b
        ended z (inl e) = rw (told.last z e) (finished_turn z e)
        ended z (inr e) = rw (told.surplus z e) (surplus_turn z e)

        same? : (after ≡ length job) ⊎ (after ≡ length job → ⊥)
        same? = elim (dec_lt after (length job)) [ yes lt ↦ inr (λ e. omega arith) | no ge ↦ inl (omega (arith, c.next.within)) ]

        go : (num ≡ 0) ⊎ (num ≡ 0 → ⊥) → Turned job at n s r s' σ σ' a b
        go (inl z) = ended z same?
        go (inr z) = rw (told.refused z) (stopped calls.final done.called m c after refl q z)

-- a wrong program shut out: a call refused by its own number, not for text after final, that changes session or storage
pub refused_changes_none : {P N W m code at n : ℕ} {k : Model} {job a b : List ℕ} {s s' : Session} {σ σ' : Storage} → (code ≡ refusal.malformed → ⊥) → 1 ≤ P
    → StandsFor P N W s σ k → Turned job at n s (step'.Ended (end.Rejected m code)) s' σ σ' a b → (s' ≡ s) × (σ' ≡ σ)
refused_changes_none {P} {N} {W} {k = k} other hP h t =
    elim (t.tells P N W k hP h) [ inl r ↦ (r.session, r.storage) | inr x ↦ absurd (other x.number) ]
