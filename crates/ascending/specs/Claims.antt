-- Document 02, M-106: "Show that nothing ever waits under it and that its orders are those of the ordinary session on the calls that it
-- accepts." What holds of the model k after a list of calls under the profile, refused ones included: `Ascends`, proved in Proof; and what
-- the code goes by, `Reached`. Definitions only. Assumes nothing.
use Rattle.std.specs.Prelude.{◌≡◌, List, [], ◌∷◌, ◌++◌, ◌≢◌, ◌↔◌, true, ℕ, zero, suc, ◌+◌, ◌<◌, length, replicate}
use Rattle.rules.specs.Refusals as refusal
use Rattle.rules.specs.Guide.{Item, Entry}
use Rattle.rules.specs.Model.{Reg, Model, initial, tracked, place_one, with_set, do_set, with_add, do_add}
use Rattle.rules.specs.Checks.{taken}
use Rattle.rules.specs.Calls.{Call, set, add, flush, final}
use Rattle.rules.specs.Calls as ordinary
use Rattle.rules.specs.Ascending.{lowest, answer, step, run, accepted}
use Rattle.laws.specs.Sound.{Between}
use Rattle.laws.specs.Entries.{EachSpan, EachEntry}
use Rattle.laws.specs.Demand.{Demand}

-- the places m, m + 1 and so on, n of them
unfoldable pub places_from : ℕ → ℕ → List ℕ
places_from m zero = []
places_from m (suc n) = m ∷ places_from (suc m) n

-- every taken place lies below the lowest that is neither set nor written
abbrev pub Packed : ℕ → Model → Type 0
Packed N k = (x : ℕ) → taken k x ≡ true → x < lowest N k

-- a registration that an add adds
abbrev reg : ℕ → List ℕ → List ℕ → Reg
reg lane ins outs = record { lane = lane; ins = ins; outs = outs }

-- accepted equals added
abbrev pub AtOnce : Item → Type 0
AtOnce e = e.accepted ≡ e.added

-- a final among the calls is accepted
abbrev pub FinalAccepted : ℕ → ℕ → ℕ → List Call → Type 0
FinalAccepted P N W calls = (before : List Call) × (later : List Call) × (before ++ (final ∷ later) ≡ calls) × (answer N W final (run P N W before initial) ≡ 0)

pub record Ascends (P N W : ℕ) (calls : List Call) (k : Model) : Type 0 where
  -- what is accepted, the ordinary session accepts in the same state; and the whole model is that of the ordinary session after the accepted
  -- calls, each of which it accepts
  pub accepts : (c : Call) → answer N W c k ≡ 0 → ordinary.answer N W c k ≡ 0
  pub same : k ≡ ordinary.run P N W (accepted P N W calls initial) initial
  pub all_accepted : ordinary.answers P N W (accepted P N W calls initial) initial ≡ replicate (length (accepted P N W calls initial)) 0
  -- nothing waits; an accepted set marks its place and an accepted add is placed within its own call, and neither sets anything off
  pub none_waits : k.pending ≡ []
  pub set_alone : (x : ℕ) → answer N W (set x) k ≡ 0 → do_set P N x k ≡ with_set x k
  pub placed_alone : (lane : ℕ) (ins outs : List ℕ) → answer N W (add lane ins outs) k ≡ 0
      → do_add P N (reg lane ins outs) k ≡ place_one P (length k.adds) (length k.adds) (with_add (reg lane ins outs) k)
  -- so accepted equals added in every entry, written or held
  pub at_once : EachEntry AtOnce k.guide.order × EachSpan AtOnce k.guide.spans
  -- 8 and 12 are never answered
  pub never_taken : (c : Call) → answer N W c k ≢ refusal.taken_place
  pub never_still_waiting : (c : Call) → answer N W c k ≢ refusal.still_waiting
  -- the set and written places are those below m, and none is promised beyond; m moves by 1 with a set and by the count of outputs with an add
  pub below : (x : ℕ) → (tracked k x ≡ true) ↔ (x < lowest N k)
  pub taken_below : (x : ℕ) → (taken k x ≡ true) ↔ (x < lowest N k)
  pub set_moves : (x : ℕ) → answer N W (set x) k ≡ 0 → lowest N (step P N W (set x) k) ≡ lowest N k + 1
  pub add_moves : (lane : ℕ) (ins outs : List ℕ) → answer N W (add lane ins outs) k ≡ 0 → lowest N (step P N W (add lane ins outs) k) ≡ lowest N k + length outs
  pub others_stay : (lowest N (step P N W flush k) ≡ lowest N k) × (lowest N (step P N W final k) ≡ lowest N k)
  -- demand 3 of the model, and, in the profile's own calls, what demand 3 says of calls: no call changed an entry already written, a refused
  -- call changes nothing, and the session is closed exactly when a final was accepted
  pub demand : Demand P N W (accepted P N W calls initial) k
  pub stays : (before later : List Call) → before ++ later ≡ calls → (more : List Entry) × (k.guide.order ≡ (run P N W before initial).guide.order ++ more)
  pub unchanged : (c : Call) → answer N W c k ≢ 0 → step P N W c k ≡ k
  pub closes : FinalAccepted P N W calls ↔ (k.closed ≡ true)

-- what the code goes by: every invariant of a reachable model, nothing waits, and every taken place lies below the lowest
pub record Reached (P N W : ℕ) (k : Model) : Type 0 where
  pub between : Between P N W k
  pub none_waits : k.pending ≡ []
  pub packed : Packed N k
