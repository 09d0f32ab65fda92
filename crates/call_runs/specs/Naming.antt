-- The refusal that has a number, and that a call made alone is answered by its number: the refusal that has it, or the session where none
-- has, which is then 0. Assumes nothing.
use Rattle.std.specs.Prelude.{◌≡◌, ◌≢◌, refl, List, [], ◌∷◌, ◌⊎◌, Bool, true, false, not, ℕ, length, eqb, Option, Some, None, Result, Ok, Err}
use Rattle.std.proofs.Common.{sym, ◌∙◌, subst, inl, inr, ne_eqb}
use Rattle.std.proofs.lemmas.Bool.{false≢true}
use Rattle.rules.specs.declared.Refusal.{Refusal}
use Rattle.rules.specs.declared.Refusal.TheVariants.{TooManyNumbers, FlaggedPlace, UnknownPlace, RepeatedOutput, Closed, TakenPlace}
use Rattle.rules.specs.declared.Refusal.TheVariants.{TooManyRegistrations, FullPool, TooManyFlushes, StillWaiting, UnknownLane}
use Rattle.rules.specs.Answer.{number_of, number, number_of_pos}
use Rattle.rules.specs.Model.{Model}
use Rattle.rules.specs.Checks.{Check, verdict, any, check_set, check_add, check_flush, check_final, check_closed, check_places}
use Rattle.rules.specs.Calls.{Call, set, add, flush, final, checks, answer}
use Rattle.laws.specs.ModelBase.{bool_cases}
use Rattle.laws.specs.Accepted.{or_false}
use Rattle.session.specs.declared.Session.{Session}
use Rattle.session.specs.Storage.{Storage}
use Rattle.session.specs.After.{session_after}
use Rattle.admitting.specs.Promise.{Asks, Called}
use Rattle.call_runs.specs.Continuing.{MadeOne}

-- of a number: the refusal that has it, or that none has it
abbrev pub Names : ℕ → Option Refusal → Type 0
Names n (Some x) = number_of x ≡ n
Names n None = (x : Refusal) → number_of x ≢ n

-- the refusals of calls
of_calls : List Refusal
of_calls =
    TooManyNumbers
    ∷ FlaggedPlace
    ∷ UnknownPlace
    ∷ RepeatedOutput
    ∷ Closed
    ∷ TakenPlace
    ∷ TooManyRegistrations
    ∷ FullPool
    ∷ TooManyFlushes
    ∷ StillWaiting
    ∷ UnknownLane
    ∷ []

has : ℕ → Refusal → Bool
has n x = eqb (number_of x) n

nameless : ℕ → Bool
nameless n = not (any (has n) of_calls)

-- a number that no refusal has is none of theirs
none_has : (n : ℕ) → ((x : Refusal) → number_of x ≢ n) → (xs : List Refusal) → any (has n) xs ≡ false
unfolding any has
none_has n h [] = refl
none_has n h (x ∷ xs) = rw (ne_eqb (number_of x) n (h x)) (none_has n h xs)

-- where the number of each check of a list is a refusal's, the list gives 0 if no refusal has what it gives
verdict_nameless : (cs : List Check) → any (λ c. nameless c.number) cs ≡ false → ((x : Refusal) → number_of x ≢ verdict cs) → verdict cs ≡ 0
unfolding verdict any nameless
verdict_nameless [] h n = refl
verdict_nameless (c ∷ cs) h n = go (bool_cases c.fails) (λ z. verdict_nameless cs others.1 z)
  where
    others : (nameless c.number ≡ false) × (any (λ d. nameless d.number) cs ≡ false)
    others = or_false (nameless c.number) (any (λ d. nameless d.number) cs) h

    go : (c.fails ≡ true) ⊎ (c.fails ≡ false) → (((x : Refusal) → number_of x ≢ verdict cs) → verdict cs ≡ 0) → verdict (c ∷ cs) ≡ 0
    go (inl e) f = absurd (false≢true (sym others.0 ∙ rw (none_has c.number (rw (verdict, e) at n) of_calls) refl))
    go (inr e) f = rw (verdict, e) (f (rw (verdict, e) at n))

-- a call's number is 0 or a refusal's
pub call_nameless : (N W : ℕ) (c : Call) (k : Model) → ((x : Refusal) → number_of x ≢ answer N W c k) → answer N W c k ≡ 0
unfolding answer checks check_set check_add check_flush check_final check_closed check_places any nameless has of_calls
call_nameless N W (set x) k = verdict_nameless _ refl
call_nameless N W (add lane ins outs) k = verdict_nameless _ refl
call_nameless N W flush k = verdict_nameless _ refl
call_nameless N W final k = verdict_nameless _ refl

-- a call made alone, and the refusal that has its number: then that refusal, else the session
abbrev pub answered : Option Refusal → Session → Result Session Refusal
answered (Some x) s = Err x
answered None s = Ok s

pub one_answered : (l : List ℕ) {num : ℕ} {s s' : Session} {σ σ' : Storage} → Asks s σ → MadeOne l num s s' σ σ' → (o : Option Refusal) → Names num o →
    MadeOne l (number (answered o s')) s (session_after s (answered o s')) σ σ'
one_answered l {num} {s = s} {σ = σ} {σ' = σ'} q M (Some x) e c f =
    let d = M c f in
    let z = d.refused (λ y. number_of_pos x (e ∙ y)) in
    subst (λ n. Called c n s s σ σ') (sym e) (subst (λ t. Called c num s t σ σ') z.0 d)
one_answered l {s = s} {s' = s'} {σ = σ} {σ' = σ'} q M None e c f =
    let d = M c f in
    let k = (d.keeps q.parallelism q.places q.model q.rep q.between).0 in
    let z = call_nameless q.places (length σ.pool) c q.model (λ x y. e x (y ∙ sym k)) in
    subst (λ n. Called c n s s' σ σ') (k ∙ z) d
