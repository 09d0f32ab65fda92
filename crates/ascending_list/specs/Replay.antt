-- What replaying an encoded list of calls on a fresh session under the ascending profile promises: M-106's claims (`Ascends`, with demand 3
-- among them) for running code, about every list. Definitions only. Assumes nothing.
use Rattle.std.specs.Prelude.{◌≡◌, List, [], ◌∷◌, ◌++◌, ℕ, length, take, drop, ltb, Result, Ok, Err}
use Rattle.std.proofs.Math.Option.{Option, some, none}
use Rattle.rules.specs.Model.{initial}
use Rattle.rules.specs.Refusals as refusal
use Rattle.rules.specs.declared.Refusal.{Refusal}
use Rattle.rules.specs.Checks.{Sizes, verdict}
use Rattle.rules.specs.Calls.{Call}
use Rattle.rules.specs.Ascending.{check_open, run, answers}
use Rattle.rules.specs.Encoding.{decode}
use Rattle.ascending.specs.Claims.{Ascends}
use Rattle.session.specs.Storage.{Storage, Frame}
use Rattle.opening.specs.Opened.{sizes}
use Rattle.ascending_session.specs.declared.Ascending.{Ascending}
use Rattle.ascending_session.specs.Rep.{Rep}
use Rattle.ascending_session.specs.Shows.{Shows}
use Rattle.ascending_opening.specs.Opened.{first_session}

-- the number of a replay: 15 for numbers that are no list of calls; then what opening refuses, and 2 where there is no room for the
-- calls' numbers
unfoldable pub replay_number : ℕ → ℕ → Sizes → ℕ → Option (List Call) → ℕ
replay_number P N s room none = refusal.malformed
replay_number P N s room (some cs) = verdict (check_open P N s ++ (record { fails = ltb room (length cs); number = refusal.too_short } ∷ []))

-- after the calls cs: the numbers written are the rules', session and storage stand for the model after them and show it, what M-106 claims
-- holds of it, and what lies beyond is untouched
pub record Ran (P N W : ℕ) (cs : List Call) (s : Ascending) (σ τ : Storage) (out out' : List ℕ) : Type 0 where
  pub numbers : take (length cs) out' ≡ answers P N W cs initial
  pub rep : Rep P N W (run P N W cs initial) s τ
  pub shows : Shows P N W (run P N W cs initial) s τ
  pub ascends : Ascends P N W cs (run P N W cs initial)
  pub frame : Frame P N 0 s.guide.written σ τ
  pub long : length out' ≡ length out
  pub beyond : drop (length cs) out' ≡ drop (length cs) out

-- the session that a replay gives: refused, the fresh one of P 0, V 0 and W 0, as opening has it
abbrev pub opened : Result Ascending Refusal → Ascending
opened (Ok s) = s
opened (Err e) = first_session 0 0 0

-- the promise: l are the encoded calls, n is the number. Refused, storage and answers are as they were, and the session is the fresh one
-- of P 0, V 0 and W 0, as opening has it
pub record Replays (P N W : ℕ) (l : List ℕ) (n : ℕ) (s : Ascending) (σ τ : Storage) (out out' : List ℕ) : Type 0 where
  pub number_is : n ≡ replay_number P N (sizes σ) (length out) (decode l)
  pub refused : (n ≡ 0 → ⊥) → (τ ≡ σ) × (out' ≡ out)
  pub unopened : (n ≡ 0 → ⊥) → s ≡ first_session 0 0 0
  pub ran : n ≡ 0 → (cs : List Call) × (decode l ≡ some cs) × Ran P N W cs s σ τ out out'
