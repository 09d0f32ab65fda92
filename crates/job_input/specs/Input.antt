-- What reading the input promises: the bytes that were read lie within the room. Assumes nothing.
use Rattle.std.specs.Prelude.{◌≡◌, ℕ, ◌≤◌, Result, Ok, Err}
use Rattle.std.proofs.Common.{subst}

abbrev pub Within : {E : Type 0} → Result ℕ E → ℕ → Type 0
Within (Ok n) room = n ≤ room
Within (Err e) room = Unit {0}

pub within : {E : Type 0} (r : Result ℕ E) (n room : ℕ) → r ≡ Ok n → Within r room → n ≤ room
within r n room e h = subst (λ (x : Result ℕ _). Within x room) e h
