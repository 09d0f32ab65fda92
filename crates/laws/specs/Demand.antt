-- Demand 3 of the model (document 01's clerk), as one record with a field for each sentence: what holds after a list of calls on a
-- fresh session. That it holds of every list is `demand_3` in DemandProof; that the code's answers, order, tally, mark, window lengths
-- and waiting registrations are the model's is promised by the calls themselves (crates sorter and call_list).
use Rattle.std.specs.Prelude.{◌≡◌, ◌⊎◌, ◌≢◌, ◌↔◌, true, false, ℕ, suc, ◌+◌, ◌≤◌, ◌<◌, length, get_or, eqb}
use mathlib.Core.List.{List, [], ◌∷◌, ◌++◌, map, Memᴰ}
use Rattle.rules.specs.Guide.{Item, Entry, held, tally}
use Rattle.rules.specs.Limits.{most_lane}
use Rattle.rules.specs.Summary.{sum}
use Rattle.rules.specs.Model.{Model, Pending, watermark, greatest, ready, reg_of, initial}
use Rattle.rules.specs.Record.{unfilled, fill, row_of}
use Rattle.rules.specs.Calls.{Call, final, answer, step, run}
use Rattle.laws.specs.ModelBase.{In}
use Rattle.laws.specs.Delaying.{IsPending, Sorted}
use Rattle.laws.specs.Order.{nth, written}
use Rattle.laws.specs.Tally.{having}

-- an entry reads the inputs and writes the outputs of the accepted add numbered by its added
abbrev pub reads : Model → ℕ → ℕ → Type 0
reads k j i = In i (reg_of k (nth k j).item.added).ins

abbrev pub writes : Model → ℕ → ℕ → Type 0
writes k j i = In i (reg_of k (nth k j).item.added).outs

-- the p entries from entry j on, p being its parallelism: they include it and stop where the order stops
abbrev pub Covered : Model → ℕ → ℕ → Type 0
Covered k j a = (j ≤ a) × (a < j + (nth k j).parallelism) × (a < written k)

-- how often r stands in a list
unfoldable pub count : ℕ → List ℕ → ℕ
count r [] = 0
count r (x ∷ xs) = elim (eqb r x) [ true ↦ suc (count r xs) | false ↦ count r xs ]

-- how often registration r stands in the order, is held in the window, waits
abbrev pub times : ℕ → List Entry → ℕ
times r order = count r (map (λ e. e.item.added) order)

abbrev pub held_times : ℕ → List (List Item) → ℕ
held_times r [] = 0
held_times r (span ∷ spans) = count r (map (λ e. e.added) span) + held_times r spans

abbrev pub pending_times : ℕ → List Pending → ℕ
pending_times r ws = count r (map (λ w. w.reg) ws)

-- a final among the calls is accepted, k being the model before them
abbrev pub FinalAccepted : ℕ → ℕ → ℕ → List Call → Model → Type 0
FinalAccepted P N W calls k = (before : List Call) × (later : List Call) × (before ++ (final ∷ later) ≡ calls) × (answer N W final (run P N W before k) ≡ 0)

-- of the model k after the calls
pub record Demand (P N W : ℕ) (calls : List Call) (k : Model) : Type 0 where
  -- each parallelism is from 1 to P
  pub parallelisms : (j : ℕ) → j < written k → (1 ≤ (nth k j).parallelism) × ((nth k j).parallelism ≤ P)
  -- index plus parallelism never falls along the order
  pub frontier : (i j : ℕ) → i ≤ j → j < written k → i + (nth k i).parallelism ≤ j + (nth k j).parallelism
  -- an entry reads only what was set or is written by an earlier one
  pub earlier : (j i : ℕ) → j < written k → reads k j i → In i k.sets ⊎ ((m : ℕ) × (m < j) × writes k m i)
  -- running together: of the p entries from one on, none reads what one of them writes
  pub together : (j a b i : ℕ) → Covered k j a → Covered k j b → writes k a i → reads k b i → ⊥
  -- the distance: a reader lies at least its writer's parallelism behind it
  pub distance : (a b i : ℕ) → a < written k → b < written k → writes k a i → reads k b i → a + (nth k a).parallelism ≤ b
  -- an entry is of an accepted add, and in a session its value equals its added
  pub known : (j : ℕ) → j < written k → (nth k j).item.added < length k.adds
  pub value_is_added : (j : ℕ) → j < written k → (nth k j).item.value ≡ (nth k j).item.added
  -- its lane is that add's, and at most 255 (document 02, M-104)
  pub lanes : (j : ℕ) → j < written k → ((nth k j).item.lane ≡ (reg_of k (nth k j).item.added).lane) × ((nth k j).item.lane ≤ most_lane)
  -- its registration's row is filled by it, but for written, which is the record's: the row's lane is the entry's
  pub rows : (j : ℕ) → j < written k → row_of k (nth k j).item.added ≡ fill j (nth k j) (unfilled (get_or k.recorded.written (nth k j).item.added 0))
  -- each accepted registration is in the order, or held in the window, or waits, and that once
  pub somewhere : (r : ℕ) → r < length k.adds → times r k.guide.order + held_times r k.guide.spans + pending_times r k.pending ≡ 1
  -- accepted = written + held + waiting
  pub counted : length k.adds ≡ written k + held k.guide.spans + length k.pending
  -- an accepted registration waits exactly when it has inputs and the greatest is above the mark,
  pub pending : (r : ℕ) → r < length k.adds → IsPending k r ↔ (ready (watermark N k) (reg_of k r).ins ≡ false)
  -- and none but accepted ones wait,
  pub pending_known : (w : Pending) → Memᴰ w k.pending → w.reg < length k.adds
  -- under its greatest input, by ascending place, then by registration
  pub pending_under : (w : Pending) → Memᴰ w k.pending → w.under ≡ greatest (reg_of k w.reg).ins
  pub pending_sorted : Sorted k.pending
  -- the tally counts the entries of each parallelism, and its sum is what is written
  pub tallied : (p : ℕ) → get_or (tally P k.guide.order) p 0 ≡ having p k.guide.order
  pub tally_sum : sum (tally P k.guide.order) ≡ written k
  -- no call changed an entry already written
  pub stays : (before later : List Call) → before ++ later ≡ calls → (more : List Entry) × (k.guide.order ≡ (run P N W before initial).guide.order ++ more)
  -- a refused call changes nothing
  pub unchanged : (c : Call) → answer N W c k ≢ 0 → step P N W c k ≡ k
  -- the session is closed exactly when a final was accepted, wherever it stands among the calls
  pub closes : FinalAccepted P N W calls initial ↔ (k.closed ≡ true)
  -- after an accepted final nothing waits, nothing is held, and each accepted registration stands in the order exactly once
  pub none_pending : k.closed ≡ true → length k.pending ≡ 0
  pub none_held : k.closed ≡ true → held k.guide.spans ≡ 0
  pub once : k.closed ≡ true → (r : ℕ) → r < length k.adds → times r k.guide.order ≡ 1
