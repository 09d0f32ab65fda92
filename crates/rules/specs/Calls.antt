-- Document 01, the clerk's calls: each meets its checks; a refused one changes nothing. One step, and a list of calls with the number
-- of each. Assumes nothing.
use Rattle.std.specs.Prelude.{List, [], ◌∷◌, true, false, ℕ, eqb}
use Rattle.rules.specs.Model.{Model, do_set, do_add, note_add, do_flush, do_final}
use Rattle.rules.specs.Checks.{Check, verdict, check_set, check_add, check_flush, check_final}

-- an add: its lane, its inputs and its outputs
pub data Call : Type 0 where
  set : ℕ → Call
  add : ℕ → List ℕ → List ℕ → Call
  flush final : Call

unfoldable pub checks : ℕ → ℕ → Call → Model → List Check
checks N W (set x) k = check_set N x k
checks N W (add lane ins outs) k = check_add N W (record { lane = lane; ins = ins; outs = outs }) k
checks N W flush k = check_flush k
checks N W final k = check_final k

-- a call's number, 0 if accepted
unfoldable pub answer : ℕ → ℕ → Call → Model → ℕ
answer N W c k = verdict (checks N W c k)

-- what an accepted call does
unfoldable pub apply_call : ℕ → ℕ → Call → Model → Model
apply_call P N (set x) k = do_set P N x k
apply_call P N (add lane ins outs) k = note_add (do_add P N (record { lane = lane; ins = ins; outs = outs }) k)
apply_call P N flush k = do_flush P k
apply_call P N final k = do_final P N k

-- the state after a call with number n: the one before where it is refused
unfoldable pub unless_refused : {A : Type 0} → ℕ → A → A → A
unless_refused n before after = elim (eqb n 0) [ true ↦ after | false ↦ before ]

unfoldable pub step : ℕ → ℕ → ℕ → Call → Model → Model
step P N W c k = unless_refused (answer N W c k) k (apply_call P N c k)

unfoldable pub run : ℕ → ℕ → ℕ → List Call → Model → Model
run P N W [] k = k
run P N W (c ∷ cs) k = run P N W cs (step P N W c k)

unfoldable pub answers : ℕ → ℕ → ℕ → List Call → Model → List ℕ
answers P N W [] k = []
answers P N W (c ∷ cs) k = answer N W c k ∷ answers P N W cs (step P N W c k)
