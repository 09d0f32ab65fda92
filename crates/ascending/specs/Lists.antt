-- A list of calls on the profile, and the accepted ones of it on the ordinary session: the model is the same (`same_as`). Where a list is
-- cut the accepted calls are cut (`accepted_append`), and each of them stands in the list (`accepted_split`). Assumes nothing.
use Rattle.std.specs.Prelude.{◌≡◌, refl, ◌⊎◌, ◌≢◌, Bool, true, false, ℕ, length, eqb}
use Rattle.std.proofs.Math.Path.{sym, ap}
use Rattle.std.proofs.Common.{◌∙◌, inl, inr, arith, length-append}
use mathlib.Core.List.{List, [], ◌∷◌, ◌++◌, head-eq_of_cons-eq, tail-eq_of_cons-eq}
use Rattle.std.proofs.Math.ListN.{replicate}
use Rattle.rules.specs.Model.{Model}
use Rattle.rules.specs.Calls.{Call, unless_refused}
use Rattle.rules.specs.Calls as ordinary
use Rattle.rules.specs.Ascending.{answer, step, run, accepted}
use Rattle.laws.specs.GuideInv.{eq_or_ne}
use Rattle.laws.specs.Accepted.{accepted_is, refused_is}
use Rattle.ascending.specs.Same.{accepted_by_all, step_refused, step_accepted, ordinary_step}

pub record SameAs (P N W : ℕ) (cs : List Call) (k : Model) : Type 0 where
  pub model : run P N W cs k ≡ ordinary.run P N W (accepted P N W cs k) k
  pub numbers : ordinary.answers P N W (accepted P N W cs k) k ≡ replicate (length (accepted P N W cs k)) 0

-- an accepted call d stands in the list cs, k being the model before it
abbrev pub Stands : ℕ → ℕ → ℕ → Call → List Call → Model → Type 0
Stands P N W d cs k = (before : List Call) × (later : List Call) × (before ++ (d ∷ later) ≡ cs) × (answer N W d (run P N W before k) ≡ 0)

-- a list that begins with c, and the accepted calls of those that follow it
module _ (P N W : ℕ) (c : Call) (cs : List Call) (k : Model) where
  abbrev rest : List Call
  rest = accepted P N W cs (step P N W c k)

  pub accepted_first : answer N W c k ≡ 0 → accepted P N W (c ∷ cs) k ≡ c ∷ rest
  unfolding accepted
  accepted_first h = accepted_is (answer N W c k) rest (c ∷ rest) h

  refused_first : answer N W c k ≢ 0 → accepted P N W (c ∷ cs) k ≡ rest
  unfolding accepted
  refused_first h = refused_is (answer N W c k) rest (c ∷ rest) h

  same_first : SameAs P N W cs (step P N W c k) → SameAs P N W (c ∷ cs) k
  unfolding run ordinary.run ordinary.answers
  same_first r = go (eq_or_ne (answer N W c k) 0)
    where
      go : (answer N W c k ≡ 0) ⊎ (answer N W c k ≢ 0) → SameAs P N W (c ∷ cs) k
      go (inl h) =
          let s : step P N W c k ≡ ordinary.step P N W c k = step_accepted P N W c k h ∙ sym (ordinary_step P N W c k h) in
          let numbers : ordinary.answers P N W rest (ordinary.step P N W c k) ≡ replicate (length rest) 0 = ap (ordinary.answers P N W rest) (sym s) ∙ r.numbers in
          record {
            model = r.model ∙ ap (ordinary.run P N W rest) s ∙ ap (λ (l : List Call). ordinary.run P N W l k) (sym (accepted_first h));
            numbers = rw (accepted_first h, accepted_by_all N W c k h) (ap (λ (l : List ℕ). 0 ∷ l) numbers);
          }
      go (inr h) =
          let s = step_refused P N W c k h in
          record {
            model = r.model ∙ ap (ordinary.run P N W rest) s ∙ ap (λ (l : List Call). ordinary.run P N W l k) (sym (refused_first h));
            numbers = rw (refused_first h) (ap (ordinary.answers P N W rest) (sym s) ∙ r.numbers);
          }

  stands_first : {d : Call} → Stands P N W d cs (step P N W c k) → Stands P N W d (c ∷ cs) k
  unfolding run
  stands_first x = (c ∷ x.0, x.1, ap (λ (l : List Call). c ∷ l) x.2, x.3)

-- the model after a list is the ordinary session's after the accepted calls, each of which it accepts
pub same_as : (P N W : ℕ) (cs : List Call) (k : Model) → SameAs P N W cs k
unfolding run accepted ordinary.run ordinary.answers
same_as P N W [] k = record { model = refl; numbers = refl }
same_as P N W (c ∷ cs) k = same_first P N W c cs k (same_as P N W cs (step P N W c k))

first_append : (n : ℕ) (c : Call) (xs ys : List Call) → unless_refused n (xs ++ ys) (c ∷ (xs ++ ys)) ≡ unless_refused n xs (c ∷ xs) ++ ys
unfolding unless_refused
first_append n c xs ys = go (eqb n 0)
  where
    go : (b : Bool) → elim b [ true ↦ c ∷ (xs ++ ys) | false ↦ xs ++ ys ] ≡ elim b [ true ↦ c ∷ xs | false ↦ xs ] ++ ys
    go true = refl
    go false = refl

accepted_none : (P N W : ℕ) (k : Model) → accepted P N W [] k ≡ []
unfolding accepted
accepted_none P N W k = refl

pub accepted_append : (P N W : ℕ) (cs ds : List Call) (k : Model) → accepted P N W (cs ++ ds) k ≡ accepted P N W cs k ++ accepted P N W ds (run P N W cs k)
unfolding accepted run
accepted_append P N W [] ds k = refl
accepted_append P N W (c ∷ cs) ds k =
    let n = answer N W c k in
    ap (λ (l : List Call). unless_refused n l (c ∷ l)) (accepted_append P N W cs ds (step P N W c k))
    ∙ first_append n c (accepted P N W cs (step P N W c k)) (accepted P N W ds (run P N W cs (step P N W c k)))

pub accepted_split : (P N W : ℕ) (d : Call) (before later cs : List Call) (k : Model) → before ++ (d ∷ later) ≡ accepted P N W cs k → Stands P N W d cs k
unfolding run
accepted_split P N W d before later [] k e = absurd (omega (arith, ap length (e ∙ accepted_none P N W k), length-append before (d ∷ later)))
accepted_split P N W d before later (c ∷ cs) k e =
    go (eq_or_ne (answer N W c k) 0) before e (λ bs f. stands_first P N W c cs k (accepted_split P N W d bs later cs (step P N W c k) f))
  where
    go : (answer N W c k ≡ 0) ⊎ (answer N W c k ≢ 0) → (bs : List Call) → bs ++ (d ∷ later) ≡ accepted P N W (c ∷ cs) k
        → ((bs : List Call) → bs ++ (d ∷ later) ≡ rest P N W c cs k → Stands P N W d (c ∷ cs) k) → Stands P N W d (c ∷ cs) k
    go (inr h) bs f next = next bs (f ∙ refused_first P N W c cs k h)
    go (inl h) [] f next =
        let same = head-eq_of_cons-eq (f ∙ accepted_first P N W c cs k h) in
        ([], cs, ap (λ (x : Call). x ∷ cs) same, rw same h)
    go (inl h) (b ∷ bs) f next = next bs (tail-eq_of_cons-eq (f ∙ accepted_first P N W c cs k h))
