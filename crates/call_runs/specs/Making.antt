-- Making one call of an encoded list: what its numbers say, by its tag, and that a set or an add was admitted and then made, a flush or
-- a final made. Assumes nothing.
use Rattle.std.specs.Prelude.{◌≡◌, refl, List, Bool, true, false, ◌&&◌, ℕ, ◌+◌, ◌-◌, ◌≤◌, ◌<◌, ltb, length, get_or, take, drop}
use Rattle.std.proofs.Math.Path.{ap}
use Rattle.std.proofs.Common.{◌∙◌, inl, inr, arith, ne_eqb, ltb-false}
use Rattle.std.proofs.lemmas.Bool.{false≢true}
use Rattle.std.proofs.Math.Option.{Option, some, none}
use Rattle.std.proofs.Math.Decide.{ℕ_discrete}
use Rattle.rules.specs.Calls.{set, add, flush, final}
use Rattle.rules.specs.Encoding.{set_tag, add_tag, flush_tag, final_tag, lane_add_tag, Front, Counted, counted, add_front, add_outs, front}
use Rattle.encoding.specs.Ends.{ListEnds, front_set, front_set_short, front_add, front_lane_add, front_lane_add_short, front_flush, front_final, front_other, add_whole}
use Rattle.session.specs.declared.Session.{Session}
use Rattle.session.specs.Storage.{Storage}
use Rattle.admitting.specs.Told.{Told}
use Rattle.admitting.specs.Promise.{Called}
use Rattle.admitting.specs.Admitted.{Admits, Places, admitted_refused, admitted_placed}
use Rattle.call_runs.specs.Made.{ends_run, Says, Made, AddAt, AdmitsAt, Readable}

never : (f : Front) (o : Option Front) → o ≡ some f → o ≡ none → ⊥
never f o e d = let z : ◌≡◌ {A = ℕ} 0 1 = cc in omega arith

-- what ends a run and what does not, by the two tests
pub run_ends : {tag : ℕ} → (tag ≡ lane_add_tag → ⊥) → ltb add_tag tag ≡ ends_run tag
unfolding ends_run
run_ends {tag} n = rw (ne_eqb tag lane_add_tag n) (as_it_is (ltb add_tag tag))
  where
    as_it_is : (b : Bool) → b ≡ (b && true)
    as_it_is true = refl
    as_it_is false = refl

pub run_goes_on : {tag : ℕ} → tag ≡ lane_add_tag → false ≡ ends_run tag
unfolding ends_run
run_goes_on e = rw e refl

-- a tag that ends a run is no set's and no add's
pub end_tag : {n : ℕ} → ends_run n ≡ true → (n ≡ set_tag → ⊥) × (n ≡ add_tag → ⊥) × (n ≡ lane_add_tag → ⊥)
unfolding ends_run
end_tag h = (λ e. false≢true (rw e at h), λ e. false≢true (rw e at h), λ e. false≢true (rw e at h))

module _ {l : List ℕ} {at : ℕ} (R : Readable l at) where
  -- a set has its place
  pub set_inside : get_or l at 0 ≡ set_tag → at + 1 < length l
  set_inside e = go (ℕ_discrete (length l) (at + 1))
    where
      go : Dec (length l ≡ at + 1) → at + 1 < length l
      go (yes y) = absurd (never R.read (front (drop at l)) R.is (front_set_short l at R.inside e (omega arith)))
      go (no n) = omega (arith, R.inside, n)

  pub says_set : get_or l at 0 ≡ set_tag → Says l at (set (get_or l (at + 1) 0)) (at + 2)
  says_set e = record { is = front_set l at R.inside e (set_inside e); past = omega arith; within = omega (arith, set_inside e) }

  pub says_flush : get_or l at 0 ≡ flush_tag → Says l at flush (at + 1)
  says_flush e = record { is = front_flush l at R.inside e; past = omega arith; within = omega (arith, R.inside) }

  -- no other tag is left
  pub says_final : (get_or l at 0 ≡ set_tag → ⊥) → (get_or l at 0 ≡ add_tag → ⊥) → (get_or l at 0 ≡ lane_add_tag → ⊥) → (get_or l at 0 ≡ flush_tag → ⊥) → Says l at final (at + 1)
  says_final x y a z = record { is = front_final l at R.inside tag; past = omega arith; within = omega (arith, R.inside) }
    where
      tag : get_or l at 0 ≡ final_tag
      tag = elim (ℕ_discrete (get_or l at 0) final_tag) [ yes e ↦ e | no w ↦ absurd (never R.read (front (drop at l)) R.is (front_other l at R.inside x y z w a)) ]

  pub admits_set : {a : Told} {s : Session} {σ τ : Storage} → get_or l at 0 ≡ set_tag → Admits (set (get_or l (at + 1) 0)) s a σ τ → AdmitsAt l at a (at + 2) s σ τ
  admits_set e A = let r = says_set e in record { call = set (get_or l (at + 1) 0); is = r.is; past = r.past; within = r.within; admits = A }

  module _ {n : ℕ} {s s' : Session} {σ σ' : Storage} where
    pub made_flush : get_or l at 0 ≡ flush_tag → Called flush n s s' σ σ' → Made l at n (at + 1) s s' σ σ'
    made_flush e c = let r = says_flush e in record { call = flush; is = r.is; past = r.past; within = r.within; called = c }

    pub made_final : (get_or l at 0 ≡ set_tag → ⊥) → (get_or l at 0 ≡ add_tag → ⊥) → (get_or l at 0 ≡ lane_add_tag → ⊥) →
        (get_or l at 0 ≡ flush_tag → ⊥) → Called final n s s' σ σ' → Made l at n (at + 1) s s' σ σ'
    made_final x y a z c = let r = says_final x y a z in record { call = final; is = r.is; past = r.past; within = r.within; called = c }

  -- a call that ends no run and is no set is an add: one with a lane, or one in lane 0
  module _ (h : ends_run (get_or l at 0) ≡ false) (x : get_or l at 0 ≡ set_tag → ⊥) where
    pub lane_inside : get_or l at 0 ≡ lane_add_tag → at + 1 < length l
    lane_inside e = go (ℕ_discrete (length l) (at + 1))
      where
        go : Dec (length l ≡ at + 1) → at + 1 < length l
        go (yes y) = absurd (never R.read (front (drop at l)) R.is (front_lane_add_short l at R.inside e (omega arith)))
        go (no n) = omega (arith, R.inside, n)

    pub add_in_lane : get_or l at 0 ≡ lane_add_tag → AddAt l at (get_or l (at + 1) 0) (at + 2)
    add_in_lane e = record { is = front_lane_add l at R.inside e (lane_inside e); past = omega arith; within = omega (arith, lane_inside e) }

    pub add_in_none : (get_or l at 0 ≡ lane_add_tag → ⊥) → AddAt l at 0 (at + 1)
    add_in_none n = record { is = front_add l at R.inside tag; past = omega arith; within = omega (arith, R.inside) }
      where
        low : get_or l at 0 ≤ add_tag
        low = ltb-false add_tag (get_or l at 0) (run_ends n ∙ h)

        tag : get_or l at 0 ≡ add_tag
        tag =
            elim (ℕ_discrete (get_or l at 0) add_tag) [
              | yes e ↦ e
              | no y ↦ absurd (never R.read (front (drop at l)) R.is (front_other l at R.inside x y (λ e. omega (arith, low)) (λ e. omega (arith, low)) n))
            ]

  -- it has both lists
  module _ {lane lists : ℕ} (A : AddAt l at lane lists) where
    pub ins_there : counted (drop lists l) ≡ none → ⊥
    unfolding add_front
    ins_there e = never R.read (front (drop at l)) R.is (A.is ∙ ap (add_front lane) e)

    module _ (middle : ℕ) (X : ListEnds l lists middle) where
      pub outs_there : counted (drop middle l) ≡ none → ⊥
      unfolding add_front add_outs
      outs_there e = go X
        where
          go : ListEnds l lists middle → ⊥
          go (inl x) = ins_there x.1
          go (inr x) =
              never R.read (front (drop at l)) R.is
              (A.is ∙ ap (add_front lane) x.2 ∙ ap (λ (o : Option Counted). add_outs lane (take (middle - (lists + 1)) (drop (lists + 1) l)) o) e)

      module _ (next : ℕ) (Y : ListEnds l middle next) where
        record Whole : Type 0 where
          ordered : lists < middle
          first : counted (drop lists l) ≡ some (record { items = take (middle - (lists + 1)) (drop (lists + 1) l); rest = drop middle l })
          between : middle < next
          inside : next ≤ length l
          second : counted (drop middle l) ≡ some (record { items = take (next - (middle + 1)) (drop (middle + 1) l); rest = drop next l })

        whole : Whole
        whole = go X Y
          where
            go : ListEnds l lists middle → ListEnds l middle next → Whole
            go (inl x) y = absurd (ins_there x.1)
            go (inr x) (inl y) = absurd (outs_there y.1)
            go (inr x) (inr y) = record { ordered = x.0; first = x.2; between = y.0; inside = y.1; second = y.2 }

        pub add_inside : (lists + 1 ≤ middle) × ((middle + 1 ≤ next) × (next ≤ length l))
        add_inside = let w = whole in (omega (arith, w.ordered), (omega (arith, w.between), w.inside))

        pub says_add : Says l at (add lane (take (middle - (lists + 1)) (drop (lists + 1) l)) (take (next - (middle + 1)) (drop (middle + 1) l))) next
        says_add =
            let w = whole in
            record {
              is = A.is ∙ add_whole l lists middle next lane w.first w.second;
              past = omega (arith, A.past, w.ordered, w.between);
              within = w.inside;
            }

        pub admits_add : {a : Told} {s : Session} {σ τ : Storage} →
            Admits (add lane (take (middle - (lists + 1)) (drop (lists + 1) l)) (take (next - (middle + 1)) (drop (middle + 1) l))) s a σ τ →
            AdmitsAt l at a next s σ τ
        admits_add x = let r = says_add in record { call = _; is = r.is; past = r.past; within = r.within; admits = x }

-- refused or placed, what was admitted is made
module _ {l : List ℕ} {at next : ℕ} {a : Told} {s : Session} {σ τ : Storage} (E : AdmitsAt l at a next s σ τ) where
  made : {s' : Session} {υ : Storage} → Called E.call a.number s s' σ υ → Made l at a.number next s s' σ υ
  made c = record { call = E.call; is = E.is; past = E.past; within = E.within; called = c }

  pub made_refused : (a.number ≡ 0 → ⊥) → Made l at a.number next s s σ τ
  made_refused h = made (admitted_refused E.call s a σ τ E.admits h)

  pub made_placed : {s' : Session} {υ : Storage} → a.number ≡ 0 → Places s a s' τ υ → Made l at a.number next s s' σ υ
  made_placed {s'} {υ} e Q = made (admitted_placed E.call s a σ τ E.admits s' υ e Q)
