-- A call of a job put down as numbers and made: what both promise, and that it is the call that was read. Assumes nothing.
use Rattle.std.specs.Prelude.{◌≡◌, refl, List, [], ◌⊎◌, false, ℕ, ◌+◌, ◌≤◌, ◌<◌, length, take, drop}
use Rattle.std.proofs.Common.{sym, ap, ◌∙◌, inl, inr, arith, drop-drop, length-take-le}
use Rattle.std.proofs.Math.Option.{some}
use Rattle.std.proofs.Math.Decide.{dec_lt}
use Rattle.rules.specs.Calls as calls
use Rattle.rules.specs.Encoding.{front, set_tag, lane_add_tag}
use Rattle.encoding.specs.Put.{before_inputs, Put}
use Rattle.session.specs.declared.Session.{Session}
use Rattle.session.specs.Storage.{Storage}
use Rattle.admitting.specs.Promise.{Called}
use Rattle.call_runs.specs.Made.{ends_run}
use Rattle.call_runs.specs.Continuing.{OneCall, MadeOne}
use Rattle.jobtext.specs.Lists.{drop_past}
use Rattle.jobcalls.specs.declared.Call.{Call}
use Rattle.jobcalls.specs.declared.Call.TheVariants as call
use Rattle.jobcalls.specs.Told.{call_of, taken_by}

-- the first r numbers are the call, none a flush; past its own numbers and its lists storage is as it was
pub record Puts (x : Call) (entry exit : List ℕ) (r : ℕ) : Type 0 where
  pub within : r ≤ length exit
  pub none : r ≡ 0 → call_of x (drop before_inputs entry) ≡ calls.flush
  pub one : 0 < r → OneCall (take r exit) × (front (take r exit) ≡ some (record { call = call_of x (drop before_inputs entry); rest = [] }))
  pub past : drop (before_inputs + taken_by x) exit ≡ drop (before_inputs + taken_by x) entry

-- the one call that numbers are was made, or where there are none a flush
pub record Makes (l : List ℕ) (num : ℕ) (s s' : Session) (σ σ' : Storage) : Type 0 where
  pub flushed : length l ≡ 0 → Called calls.flush num s s' σ σ'
  pub one : 0 < length l → MadeOne l num s s' σ σ'

pub made_flush : {l : List ℕ} {num : ℕ} {s s' : Session} {σ σ' : Storage} → length l ≡ 0 → Called calls.flush num s s' σ σ' → Makes l num s s' σ σ'
made_flush e c = record { flushed = λ z. c; one = λ h. absurd (omega (arith, e)) }

pub made_call : {l : List ℕ} {num : ℕ} {s s' : Session} {σ σ' : Storage} → (length l ≡ 0 → ⊥) → MadeOne l num s s' σ σ' → Makes l num s s' σ σ'
made_call e c = record { flushed = λ z. absurd (e z); one = λ h. c }

-- a tag that a set or an add puts down ends no run
puts_on : (tag : ℕ) → (tag ≡ set_tag) ⊎ (tag ≡ lane_add_tag) → ends_run tag ≡ false
unfolding ends_run
puts_on tag (inl e) = rw e refl
puts_on tag (inr e) = rw e refl

-- the call x was put down as c
put_down : {x : Call} {c : calls.Call} {entry exit : List ℕ} {r : ℕ} → Put c entry exit r → c ≡ call_of x (drop before_inputs entry) → r ≤ before_inputs + taken_by x → Puts x entry exit r
put_down {x} {c} {entry} {exit} {r} p e few =
    record {
      within = p.within;
      none = λ z. absurd (omega (arith, z, p.positive));
      one = λ h. (record { call = c; is = p.is; goes_on = puts_on _ p.tag }, rw (sym e) p.is);
      past = drop_past r (before_inputs + taken_by x) exit entry few p.past;
    }

pub puts_set : {x : Call} {place : ℕ} {entry exit : List ℕ} {r : ℕ} → x ≡ call.Set place → Put (calls.set place) entry exit r → r ≡ 2 → Puts x entry exit r
puts_set {x} {place} {entry} e p z = put_down p (ap (λ (y : Call). call_of y (drop before_inputs entry)) (sym e)) (omega (arith, z))

pub puts_add : {x : Call} {lane i o : ℕ} {entry exit : List ℕ} {r : ℕ} → x ≡ call.Add lane i o
    → Put (calls.add lane (take i (drop before_inputs entry)) (take o (drop (i + 4) entry))) entry exit r → r ≡ i + o + 4 → Puts x entry exit r
puts_add {x} {lane} {i} {o} {entry} e p z =
    let k : before_inputs + (i + 1) ≡ i + 4 = omega arith in
    let f : drop (i + 4) entry ≡ drop (i + 1) (drop before_inputs entry) = sym (drop-drop (i + 1) before_inputs entry ∙ ap (λ (j : ℕ). drop j entry) k) in
    put_down p
    (ap (λ (l : List ℕ). calls.add lane (take i (drop before_inputs entry)) (take o l)) f ∙ ap (λ (y : Call). call_of y (drop before_inputs entry)) (sym e))
    (omega (arith, z, ap taken_by e))

pub puts_flush : {x : Call} (entry : List ℕ) → x ≡ call.Flush → Puts x entry entry 0
puts_flush entry e =
    record { within = omega arith; none = λ z. ap (λ (y : Call). call_of y (drop before_inputs entry)) e; one = λ h. absurd (omega arith); past = refl }

-- the call that was read is made
pub puts_made : {x : Call} {entry exit : List ℕ} {r num : ℕ} {s s' : Session} {σ σ' : Storage} → Puts x entry exit r → Makes (take r exit) num s s' σ σ'
    → Called (call_of x (drop before_inputs entry)) num s s' σ σ'
puts_made {x} {entry} {exit} {r} {num} {s} {s'} {σ} {σ'} p m = elim (dec_lt 0 r) [ yes h ↦ some_put h | no h ↦ none_put (omega arith) ]
  where
    long : length (take r exit) ≡ r
    long = length-take-le r exit p.within

    some_put : 0 < r → Called (call_of x (drop before_inputs entry)) num s s' σ σ'
    some_put h = m.one (omega (arith, long)) _ (p.one h).1

    none_put : r ≡ 0 → Called (call_of x (drop before_inputs entry)) num s s' σ σ'
    none_put z = rw (p.none z) (m.flushed (long ∙ z))

-- what making the numbers asks
pub puts_one : {x : Call} {entry exit : List ℕ} {r : ℕ} → Puts x entry exit r → 0 < length (take r exit) → OneCall (take r exit)
puts_one {exit = exit} {r = r} p h = (p.one (omega (arith, length-take-le r exit p.within))).0
