-- The loop of the sets and adds, from wherever the calls before it have led: what it asks and promises, its invariant, that a call keeps
-- this, and what follows from it. Assumes nothing.
use Rattle.std.specs.Prelude.{◌≡◌, refl, true, false, ℕ, ◌+◌, ◌≤◌, ◌<◌, length, get_or, drop, set}
use Rattle.std.proofs.Common.{sym, ap, ◌∙◌, arith, length-set, length-drop, get_or-set_same}
use mathlib.Core.List.{List, [], ◌∷◌}
use Rattle.std.proofs.lemmas.Bool.{false≢true}
use Rattle.std.proofs.Math.Option.{Option, some, none}
use Rattle.rules.specs.Calls.{Call, step}
use Rattle.rules.specs.Encoding.{front, Front, before_all, decode}
use Rattle.encoding.specs.Decode.{decode_none, decode_some}
use Rattle.session.specs.declared.Session.{Session}
use Rattle.session.specs.declared.Storage.{Storage as Slices}
use Rattle.session.specs.Storage.{Storage}
use Rattle.session.specs.Slices.{SameSlices}
use Rattle.admitting.specs.Told.{Told}
use Rattle.admitting.specs.Promise.{Asks, Called, positive}
use Rattle.admitting.specs.Admitted.{Places}
use Rattle.sorter.specs.Chain.{follows_step}
use Rattle.call_runs.specs.Made.{ends_run, Made, AdmitsAt, Readable}
use Rattle.call_runs.specs.Making.{made_refused, made_placed}
use Rattle.session.specs.Storage.{storage}
use Rattle.rules.specs.Encoding.{decode_from, unless_empty}

-- calls may be made: session and storage are as those before left them, the numbers from `at` on are calls, and from n on there is room for
-- their answers
pub record MayContinue (l : List ℕ) (s : Session) (σ : Storage) (out : List ℕ) (at n : ℕ) : Type 0 where
  pub asks : Asks s σ
  pub left : List Call
  pub is : decode (drop at l) ≡ some left
  pub room : n + length left ≤ length out

-- the calls from `at` to `at'` are made, one after the other, and their numbers stored from n on
pub data Onward : List ℕ → Session → Storage → List ℕ → ℕ → ℕ → Session → Storage → List ℕ → ℕ → ℕ → Type 0 where
  here : {l : List ℕ} {s : Session} {σ : Storage} {out : List ℕ} {at n : ℕ} → Onward l s σ out at n s σ out at n
  then : {l : List ℕ} {s t s' : Session} {σ τ σ' : Storage} {out out' : List ℕ} {at n num next at' n' : ℕ} → at < length l → Made l at num next s t σ τ
      → Onward l t τ (set out n num) next (n + 1) s' σ' out' at' n' → Onward l s σ out at n s' σ' out' at' n'

-- the same, up to a flush, a final or the end
pub record Continues (l : List ℕ) (s : Session) (σ : Storage) (out : List ℕ) (at n : ℕ) (s' : Session) (σ' : Storage) (out' : List ℕ) (at' n' : ℕ) : Type 0 where
  pub onward : Onward l s σ out at n s' σ' out' at' n'
  pub stops : at' < length l → ends_run (get_or l at' 0) ≡ true

-- the same slices twice
pub same_trans : {a b c : Slices} → SameSlices a b → SameSlices b c → SameSlices a c
same_trans x y =
    record {
      spans = y.spans ∙ x.spans;
      order = y.order ∙ x.order;
      tally = y.tally ∙ x.tally;
      rows = y.rows ∙ x.rows;
      marks = y.marks ∙ x.marks;
      locations = y.locations ∙ x.locations;
      waiting = y.waiting ∙ x.waiting;
      pool = y.pool ∙ x.pool;
    }

-- storage and answers have kept their lengths
pub record Kept (σ : Storage) (out : List ℕ) (σ' : Storage) (out' : List ℕ) : Type 0 where
  pub spans : length σ'.spans ≡ length σ.spans
  pub order : length σ'.order ≡ length σ.order
  pub tally : length σ'.tally ≡ length σ.tally
  pub rows : length σ'.rows ≡ length σ.rows
  pub marks : length σ'.marks ≡ length σ.marks
  pub locations : length σ'.locations ≡ length σ.locations
  pub waiting : length σ'.waiting ≡ length σ.waiting
  pub pool : length σ'.pool ≡ length σ.pool
  pub answers : length out' ≡ length out

-- a call that was made leaves session and storage for the next
asks_next : {c : Call} {num : ℕ} {s s' : Session} {σ σ' : Storage} → Asks s σ → Called c num s s' σ σ' → Asks s' σ'
asks_next {c} {num} {s} {s'} {σ} {σ'} q d =
    let one = positive q.parallelism q.places q.model s σ q.rep in
    let f = follows_step q.parallelism q.places (length σ.pool) one c q.model num s s' σ σ' refl q.rep q.between d in
    record {
      parallelism = q.parallelism;
      places = q.places;
      model = step q.parallelism q.places (length σ.pool) c q.model;
      rep = f.1;
      between = rw f.3 f.2;
    }

before_some : (c : Call) (o : Option (List Call)) (ds : List Call) → before_all c o ≡ some ds → (cs : List Call) × (o ≡ some cs) × (ds ≡ c ∷ cs)
unfolding before_all
before_some c none ds e = let z : ◌≡◌ {A = ℕ} 0 1 = cc in absurd (omega arith)
before_some c (some cs) ds e = (cs, refl, cc)

-- there is a call to read
pub call_there : {l : List ℕ} {at : ℕ} {left : List Call} → at < length l → decode (drop at l) ≡ some left → Readable l at
call_there {l} {at} {left} h is = go (front (drop at l)) refl
  where
    go : (o : Option Front) → front (drop at l) ≡ o → Readable l at
    go none e =
        let d = decode_none (drop at l) (omega (arith, length-drop at l)) e in
        let b : none ≡ some left = sym d ∙ is in
        let z : ◌≡◌ {A = ℕ} 0 1 = cc in
        absurd (omega arith)
    go (some f) e = record { inside = h; read = f; is = e }

-- the calls that numbers are begin with the one that is read
pub rest_of : (numbers : List ℕ) (calls : List Call) (f : Front) → decode numbers ≡ some calls → front numbers ≡ some f
    → (cs : List Call) × (decode f.rest ≡ some cs) × (calls ≡ f.call ∷ cs)
rest_of numbers calls f is e = before_some f.call (decode f.rest) calls (sym (decode_some numbers f e) ∙ is)

module _ {l : List ℕ} {s : Session} {σ : Storage} {out : List ℕ} {at n : ℕ} (may : MayContinue l s σ out at n) (h : at < length l) where
  may_readable : Readable l at
  may_readable = call_there h may.is

  may_room : n < length out
  may_room =
      let r = rest_of (drop at l) may.left may_readable.read may.is may_readable.is in
      omega (arith, may.room, ap length r.2)

  may_next : {s' : Session} {σ' : Storage} {num next : ℕ} → Made l at num next s s' σ σ' → MayContinue l s' σ' (set out n num) next (n + 1)
  may_next {s'} {σ'} {num} {next} M =
      let r = rest_of (drop at l) may.left (record { call = M.call; rest = drop next l }) may.is M.is in
      record { asks = asks_next may.asks M.called; left = r.0; is = r.1; room = omega (arith, may.room, ap length r.2, length-set out n num) }

kept_next : {l : List ℕ} {s s' : Session} {σ σ' : Storage} {at num next : ℕ} (out : List ℕ) (n : ℕ) → Made l at num next s s' σ σ' → Kept σ out σ' (set out n num)
kept_next {num = num} out n M =
    let f = M.called.frame in
    record {
      spans = f.spans.long;
      order = f.order.long;
      tally = f.tally.long;
      rows = f.rows.long;
      marks = f.marks.long;
      locations = f.locations.long;
      waiting = f.waiting.long;
      pool = f.pool;
      answers = length-set out n num;
    }

kept_trans : {σ σ' σ'' : Storage} {out out' out'' : List ℕ} → Kept σ out σ' out' → Kept σ' out' σ'' out'' → Kept σ out σ'' out''
kept_trans k m =
    record {
      spans = m.spans ∙ k.spans;
      order = m.order ∙ k.order;
      tally = m.tally ∙ k.tally;
      rows = m.rows ∙ k.rows;
      marks = m.marks ∙ k.marks;
      locations = m.locations ∙ k.locations;
      waiting = m.waiting ∙ k.waiting;
      pool = m.pool ∙ k.pool;
      answers = m.answers ∙ k.answers;
    }

-- one call more at the end
onward_last : {l : List ℕ} {s₀ s s' : Session} {σ₀ σ σ' : Storage} {out₀ out : List ℕ} {at₀ n₀ at n num next : ℕ} → Onward l s₀ σ₀ out₀ at₀ n₀ s σ out at n
    → at < length l → Made l at num next s s' σ σ' → Onward l s₀ σ₀ out₀ at₀ n₀ s' σ' (set out n num) next (n + 1)
onward_last here h M = then h M here
onward_last (then h₀ M₀ X) h M = then h₀ M₀ (onward_last X h M)

pub onward_upto : {l : List ℕ} {s₀ s : Session} {σ₀ σ : Storage} {out₀ out : List ℕ} {at₀ n₀ at n : ℕ} → Onward l s₀ σ₀ out₀ at₀ n₀ s σ out at n → at₀ ≤ at
onward_upto here = omega arith
onward_upto (then h₀ M₀ X) = omega (arith, M₀.past, onward_upto X)

-- midway, having begun at s₁, σ₁, out₁, at₁ and n₁
pub record Going (l : List ℕ) (s₁ : Session) (σ₁ : Storage) (out₁ : List ℕ) (at₁ n₁ : ℕ) (s : Session) (σ : Storage) (out : List ℕ) (at n : ℕ) : Type 0 where
  pub onward : Onward l s₁ σ₁ out₁ at₁ n₁ s σ out at n
  pub may : MayContinue l s σ out at n
  pub kept : Kept σ₁ out₁ σ out

pub going_begins : {l : List ℕ} {s : Session} {σ : Storage} {out : List ℕ} {at n : ℕ} → MayContinue l s σ out at n → Going l s σ out at n s σ out at n
going_begins ask =
    record {
      onward = here;
      may = ask;
      kept = record { spans = refl; order = refl; tally = refl; rows = refl; marks = refl; locations = refl; waiting = refl; pool = refl; answers = refl };
    }

module _ {l : List ℕ} {s₁ : Session} {σ₁ : Storage} {out₁ : List ℕ} {at₁ n₁ : ℕ} where
  -- a call more
  pub going_next : {s s' : Session} {σ σ' : Storage} {out : List ℕ} {at n num next : ℕ} → Going l s₁ σ₁ out₁ at₁ n₁ s σ out at n → at < length l → Made l at num next s s' σ σ'
      → Going l s₁ σ₁ out₁ at₁ n₁ s' σ' (set out n num) next (n + 1)
  going_next {out = out} {n = n} G h M =
      record { onward = onward_last G.onward h M; may = may_next G.may h M; kept = kept_trans G.kept (kept_next out n M) }

  -- calls more
  pub going_on : {s s' : Session} {σ σ' : Storage} {out out' : List ℕ} {at n at' n' : ℕ} → Going l s₁ σ₁ out₁ at₁ n₁ s σ out at n → Onward l s σ out at n s' σ' out' at' n'
      → Going l s₁ σ₁ out₁ at₁ n₁ s' σ' out' at' n'
  going_on G here = G
  going_on G (then h M X) = going_on (going_next G h M) X

module _ {l : List ℕ} {s₁ : Session} {σ₁ : Storage} {out₁ : List ℕ} {at₁ n₁ : ℕ} {s : Session} {σ : Storage} {out : List ℕ} {at n : ℕ} (G : Going l s₁ σ₁ out₁ at₁ n₁ s σ out at n) where
  pub going_asks : Asks s σ
  going_asks = G.may.asks

  module _ (h : at < length l) where
    pub going_readable : Readable l at
    going_readable = may_readable G.may h

    pub going_room : n < length out
    going_room = may_room G.may h

    -- a set or an add is refused, or admitted and placed; then session and storage have other names
    module _ {a : Told} {next : ℕ} {τ : Storage} (E : AdmitsAt l at a next s σ τ) {z : Session} {ω : Storage} where
      pub going_refused : (a.number ≡ 0 → ⊥) → z ≡ s → ω ≡ τ → Going l s₁ σ₁ out₁ at₁ n₁ z ω (set out n a.number) next (n + 1)
      going_refused x e₀ e₁ = rw (e₀, e₁) (going_next G h (made_refused E x))

      pub going_placed : {s' : Session} {υ : Storage} → a.number ≡ 0 → Places s a s' τ υ → z ≡ s' → ω ≡ υ
          → Going l s₁ σ₁ out₁ at₁ n₁ z ω (set out n a.number) next (n + 1)
      going_placed x Q e₀ e₁ = rw (e₀, e₁) (going_next G h (made_placed E x Q))

-- numbers that are one call, a set or an add; and that it was made
pub record OneCall (l : List ℕ) : Type 0 where
  pub call : Call
  pub is : front l ≡ some (record { call = call; rest = [] })
  pub goes_on : ends_run (get_or l 0 0) ≡ false

abbrev pub MadeOne : List ℕ → ℕ → Session → Session → Storage → Storage → Type 0
MadeOne l num s s' σ σ' = (c : Call) → front l ≡ some (record { call = c; rest = [] }) → Called c num s s' σ σ'

one_there : (l : List ℕ) (f : Front) → front l ≡ some f → 0 < length l
unfolding front
one_there [] f e = let z : ◌≡◌ {A = ℕ} 0 1 = cc in absurd (omega arith)
one_there (x ∷ l) f e = omega arith

same_front : {f g : Front} {o : Option Front} → o ≡ some f → o ≡ some g → f ≡ g
same_front d e = cc

-- the call that was read is the one that the numbers are
pub made_is_one : {l : List ℕ} {num next : ℕ} {s s' : Session} {σ σ' : Storage} → Made l 0 num next s s' σ σ' → MadeOne l num s s' σ σ'
made_is_one M c e = let f : M.call ≡ c = ap (λ (x : Front). x.call) (same_front M.is e) in rw (sym f) M.called

module _ {l : List ℕ} (one : OneCall l) where
  pub one_readable : Readable l 0
  one_readable = record { inside = one_there l _ one.is; read = record { call = one.call; rest = [] }; is = one.is }

  pub one_may : {s : Session} {σ : Storage} (out : List ℕ) → Asks s σ → 1 ≤ length out → MayContinue l s σ out 0 0
  unfolding decode decode_from unless_empty before_all
  one_may out q h = record { asks = q; left = one.call ∷ []; is = decode_some l (record { call = one.call; rest = [] }) one.is; room = omega (arith, h) }

  -- the loop makes that call, and stores its number first
  pub one_made : {s s' : Session} {σ σ' : Storage} {out out' : List ℕ} {at n : ℕ} → 1 ≤ length out → Continues l s σ out 0 0 s' σ' out' at n → MadeOne l (get_or out' 0 0) s s' σ σ'
  one_made {s} {s'} {σ} {σ'} {out} {out'} h C c e = go C.onward C.stops
    where
      after : {num next at n : ℕ} {w out' : List ℕ} {t s' : Session} {τ σ' : Storage} → Made l 0 num next s t σ τ → get_or w 0 0 ≡ num →
          Onward l t τ w next 1 s' σ' out' at n → Called c (get_or out' 0 0) s s' σ σ'
      after M g here = rw g (made_is_one M c e)
      after {next = next} M g (then j N X) =
          let f : drop next l ≡ [] = ap (λ (x : Front). x.rest) (same_front M.is e) in
          absurd (omega (arith, j, ap length f, length-drop next l))

      go : {at n : ℕ} {out' : List ℕ} {s' : Session} {σ' : Storage} → Onward l s σ out 0 0 s' σ' out' at n → (at < length l → ends_run (get_or l at 0) ≡ true) → Called c (get_or out' 0 0) s s' σ σ'
      go here stops = absurd (false≢true (sym one.goes_on ∙ stops one_readable.inside))
      go (then {num = num} i M more) stops = after M (get_or-set_same out 0 num 0 h) more

module _ {l : List ℕ} {s₁ : Session} {σ₁ : Storage} {out₁ : List ℕ} {at₁ n₁ : ℕ} {s : Session} {σ : Storage} {out : List ℕ} {at n : ℕ} (G : Going l s₁ σ₁ out₁ at₁ n₁ s σ out at n) where
  module _ (h : at < length l) where
    module _ {a : Told} {next : ℕ} {τ : Storage} (E : AdmitsAt l at a next s σ τ) {z : Session} {sp o t rs m lo w : List ℕ} where
      made_as : {s' : Session} {υ : Storage} → Made l at a.number next s s' σ υ → z ≡ s' → sp ≡ υ.spans → o ≡ υ.order → t ≡ υ.tally →
          rs ≡ υ.rows → m ≡ υ.marks → lo ≡ υ.locations → w ≡ υ.waiting
          → Going l s₁ σ₁ out₁ at₁ n₁ z (storage sp o t rs m lo w υ.pool) (set out n a.number) next (n + 1)
      made_as M e₀ e₁ e₂ e₃ e₄ e₅ e₆ e₇ = rw (e₀, e₁, e₂, e₃, e₄, e₅, e₆, e₇) (going_next G h M)
