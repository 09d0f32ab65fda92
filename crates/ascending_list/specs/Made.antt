-- One call of an encoded list under the ascending profile: what is promised of a set or an add whose number was worked out, and that it is
-- made once an accepted one was placed. Assumes nothing.
use Rattle.std.specs.Prelude.{◌≡◌, refl, List, [], Bool, true, false, ℕ, ◌+◌, ◌^◌, ◌<◌, length, get_or, Option, Some, None, Result, Ok, Err, is_some}
use Rattle.std.proofs.Common.{sym, ◌∙◌, subst}
use Rattle.std.proofs.lemmas.Bool.{false≢true}
use Rattle.rules.specs.declared.Refusal.{Refusal}
use Rattle.rules.specs.Answer.{number, number_of_pos}
use Rattle.lists.specs.declared.Registration.{Registration}
use Rattle.rules.specs.Calls.{Call, set, add, flush, final}
use Rattle.rules.specs.Encoding.{flush_tag}
use Rattle.call_runs.specs.Made.{ends_run, Says, Readable}
use Rattle.call_runs.specs.Making.{end_tag, says_flush, says_final}
use Rattle.buffer.specs.declared.Guide.{Guide}
use Rattle.session.specs.Storage.{Storage}
use Rattle.ascending_session.specs.declared.Ascending.{Ascending}
use Rattle.ascending_session.specs.Promise.{Asks, Called, Numbers, MayDo, Does, called_refused, may_do, called_done}
use Rattle.ascending_adding.specs.Adding.{with_added}
use Rattle.ascending_calls.specs.Setting.{risen, marked}

-- what was read at an index, by its number: where the next call starts, and of an accepted add its lane and lists
pub record Told : Type 0 where
  pub number : ℕ
  pub next : ℕ
  pub adds : Bool
  pub lane : ℕ
  pub inputs : List ℕ
  pub outputs : List ℕ

-- the same of what the code gives: nothing of all but an accepted add
abbrev added_of : Result (Option Registration) Refusal → Option Registration
added_of (Ok a) = a
added_of (Err e) = None

abbrev lane_of : Option Registration → ℕ
lane_of None = 0
lane_of (Some r) = r.lane

abbrev ins_of : Option Registration → List ℕ
ins_of None = []
ins_of (Some r) = r.inputs.now

abbrev outs_of : Option Registration → List ℕ
outs_of None = []
outs_of (Some r) = r.outputs.now

abbrev pub told : ℕ → Result (Option Registration) Refusal → Told
told next r =
    record { number = number r; next = next; adds = is_some (added_of r); lane = lane_of (added_of r); inputs = ins_of (added_of r); outputs = outs_of (added_of r) }

-- one call read at `at` was made: the numbers that follow it start at `next`
pub record Made (l : List ℕ) (at n next : ℕ) (s s' : Ascending) (σ σ' : Storage) : Type 0 where
  pub call : Call
  pub says : Says l at call next
  pub called : Called call n s s' σ σ'

-- the number of the set or add read at `at` is worked out: refused, nothing has changed; an accepted set is made, but for the lowest place;
-- of an accepted add nothing is done yet
pub record AdmitsAt (l : List ℕ) (at : ℕ) (d : Told) (s : Ascending) (σ τ : Storage) : Type 0 where
  pub call : Call
  pub says : Says l at call d.next
  pub numbers : Numbers call d.number s σ
  pub refused : (d.number ≡ 0 → ⊥) → τ ≡ σ
  pub sets : d.number ≡ 0 → d.adds ≡ false → Does call s (risen s) σ τ
  pub low : d.number ≡ 0 → d.adds ≡ false → s.lowest < 2 ^ 32
  pub adds : d.adds ≡ true → (call ≡ add d.lane d.inputs d.outputs) × (τ ≡ σ)

-- the number of a set is worked out: refused, nothing has changed; accepted, it is made, but for the lowest place
pub record SetAt (x n : ℕ) (s : Ascending) (σ τ : Storage) : Type 0 where
  pub numbers : Numbers (set x) n s σ
  pub refused : (n ≡ 0 → ⊥) → τ ≡ σ
  pub does : n ≡ 0 → Does (set x) s (risen s) σ τ
  pub low : n ≡ 0 → s.lowest < 2 ^ 32

-- The same of the marks, all that a set or an add touches before a registration is placed: asked of some storage with these, and promised of
-- every one.
pub record AsksCall (s : Ascending) (m : List ℕ) : Type 0 where
  pub around : Storage
  pub asks : Asks s (marked around m)

abbrev pub AdmitsSet : ℕ → ℕ → Ascending → List ℕ → List ℕ → Type 0
AdmitsSet x n s m m' = (σ : Storage) → Asks s (marked σ m) → SetAt x n s (marked σ m) (marked σ m')

abbrev pub AdmitsAdd : ℕ → List ℕ → List ℕ → ℕ → Ascending → List ℕ → Type 0
AdmitsAdd lane ins outs n s m = (σ : Storage) → Asks s (marked σ m) → Numbers (add lane ins outs) n s (marked σ m)

-- what is left to be placed of an add: its registration where it is accepted
abbrev pub Left : ℕ → List ℕ → List ℕ → Result (Option Registration) Refusal → Type 0
Left lane ins outs (Ok None) = ⊥
Left lane ins outs (Ok (Some r)) = (r.lane ≡ lane) × (r.inputs.now ≡ ins) × (r.outputs.now ≡ outs)
Left lane ins outs (Err e) = Unit {0}

abbrev pub AdmitsCall : List ℕ → ℕ → Told → Ascending → List ℕ → List ℕ → Type 0
AdmitsCall l at d s m m' = (σ : Storage) → Asks s (marked σ m) → AdmitsAt l at d s (marked σ m) (marked σ m')

-- where a whole storage is at hand
module _ {s : Ascending} {σ : Storage} (q : Asks s σ) where
  pub call_asked : AsksCall s σ.marks
  call_asked = record { around = σ; asks = q }

  pub call_admitted : {l : List ℕ} {at : ℕ} {d : Told} {m : List ℕ} → AdmitsCall l at d s σ.marks m → AdmitsAt l at d s σ (marked σ m)
  call_admitted h = h σ q

module _ {x n : ℕ} {s : Ascending} {σ : Storage} (h : Numbers (set x) n s σ) where
  pub set_refused : (n ≡ 0 → ⊥) → SetAt x n s σ σ
  set_refused z = record { numbers = h; refused = λ y. refl; does = λ e. absurd (z e); low = λ e. absurd (z e) }

  pub set_done : {τ : Storage} → n ≡ 0 → s.lowest < 2 ^ 32 → Does (set x) s (risen s) σ τ → SetAt x 0 s σ τ
  set_done z y D = record { numbers = λ P N W k R Q. sym z ∙ h P N W k R Q; refused = λ y. absurd (y refl); does = λ e. D; low = λ e. y }

-- what is read at `at` and looked at
module _ {l : List ℕ} {at : ℕ} {d : Told} {s : Ascending} {σ : Storage} where
  pub admits_set : {τ : Storage} → Says l at (set (get_or l (at + 1) 0)) d.next → d.adds ≡ false → SetAt (get_or l (at + 1) 0) d.number s σ τ → AdmitsAt l at d s σ τ
  admits_set r e A =
      record { call = set (get_or l (at + 1) 0); says = r; numbers = A.numbers; refused = A.refused; sets = λ z y. A.does z; low = λ z y. A.low z; adds = λ y. absurd (false≢true (sym e ∙ y)) }

  pub admits_add : {τ : Storage} → Says l at (add d.lane d.inputs d.outputs) d.next → d.adds ≡ true → Numbers (add d.lane d.inputs d.outputs) d.number s σ → τ ≡ σ → AdmitsAt l at d s σ τ
  admits_add r e h same =
      record {
        call = add d.lane d.inputs d.outputs;
        says = r;
        numbers = h;
        refused = λ z. same;
        sets = λ z f. absurd (false≢true (sym f ∙ e));
        low = λ z f. absurd (false≢true (sym f ∙ e));
        adds = λ z. (refl, same);
      }

  -- a refused one
  pub admits_refused : {c : Call} {τ : Storage} → Says l at c d.next → d.adds ≡ false → (d.number ≡ 0 → ⊥) → Numbers c d.number s σ → τ ≡ σ → AdmitsAt l at d s σ τ
  admits_refused {c} r e x h same =
      record { call = c; says = r; numbers = h; refused = λ z. same; sets = λ z. absurd (x z); low = λ z. absurd (x z); adds = λ y. absurd (false≢true (sym e ∙ y)) }

-- of what the checks of a set or an add answer
abbrev pub accepted_as : Option Registration → Result (Unit {0}) Refusal → Result (Option Registration) Refusal
accepted_as a (Ok _) = Ok a
accepted_as a (Err e) = Err e

abbrev pub to_place : ℕ → Registration → Told
to_place next r = record { number = 0; next = next; adds = true; lane = r.lane; inputs = r.inputs.now; outputs = r.outputs.now }

module _ {l : List ℕ} {at next : ℕ} {s : Ascending} {σ τ : Storage} where
  pub set_told : (r : Result (Unit {0}) Refusal) → Says l at (set (get_or l (at + 1) 0)) next → SetAt (get_or l (at + 1) 0) (number r) s σ τ
      → AdmitsAt l at (told next (accepted_as None r)) s σ τ
  set_told (Ok x) y A = admits_set y refl A
  set_told (Err e) y A = admits_set y refl A

  pub add_told : {lane : ℕ} {ins outs : List ℕ} (r : Result (Option Registration) Refusal) → Left lane ins outs r → Says l at (add lane ins outs) next
      → Numbers (add lane ins outs) (number r) s σ → τ ≡ σ → AdmitsAt l at (told next r) s σ τ
  add_told (Ok None) x y h same = absurd x
  add_told (Ok (Some a)) x y h same = admits_add {d = to_place next a} (rw (x.0, x.1, x.2) y) refl (rw (x.0, x.1, x.2) h) same
  add_told (Err e) x y h same = admits_refused y refl (number_of_pos e) h same

-- a flush or a final is made
module _ {l : List ℕ} {at : ℕ} (R : Readable l at) {n : ℕ} {s s' : Ascending} {σ σ' : Storage} where
  pub made_flush : get_or l at 0 ≡ flush_tag → Called flush n s s' σ σ' → Made l at n (at + 1) s s' σ σ'
  made_flush e c = record { call = flush; says = says_flush R e; called = c }

  pub made_final : ends_run (get_or l at 0) ≡ true → (get_or l at 0 ≡ flush_tag → ⊥) → Called final n s s' σ σ' → Made l at n (at + 1) s s' σ σ'
  made_final e z c = let t = end_tag e in record { call = final; says = says_final R t.0 t.1 t.2 z; called = c }

-- a set or an add is made
module _ {l : List ℕ} {at : ℕ} {d : Told} {s : Ascending} {σ τ : Storage} (A : AdmitsAt l at d s σ τ) where
  pub made_refused : (d.number ≡ 0 → ⊥) → Made l at d.number d.next s s σ τ
  made_refused x =
      subst (λ (υ : Storage). Made l at d.number d.next s s σ υ) (sym (A.refused x)) (record { call = A.call; says = A.says; called = called_refused A.numbers x })

  module _ (z : d.number ≡ 0) where
    done : {s' : Ascending} {υ : Storage} → Does A.call s s' σ υ → Made l at d.number d.next s s' σ υ
    done {s'} {υ} D = rw z (record { call = A.call; says = A.says; called = called_done A.numbers z D })

    pub made_set : d.adds ≡ false → Made l at d.number d.next s (risen s) σ τ
    made_set e = done (A.sets z e)

    -- an add's placing may be done, and makes it
    module _ (e : d.adds ≡ true) where
      pub may_place : Asks s σ → MayDo (add d.lane d.inputs d.outputs) s τ
      may_place q = rw ((A.adds e).1, ← (A.adds e).0) (may_do A.numbers z q)

      pub made_add : {h : Guide} {υ : Storage} → Does (add d.lane d.inputs d.outputs) s (with_added s h (length d.inputs) (length d.outputs)) τ υ
          → Made l at d.number d.next s (with_added s h (length d.inputs) (length d.outputs)) σ υ
      made_add {h} {υ} D = done (rw (← (A.adds e).1, (A.adds e).0) D)
