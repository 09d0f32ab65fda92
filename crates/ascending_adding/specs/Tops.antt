-- What is read of a registration's inputs, by a truth value and a location's two numbers. Assumes nothing.
use Rattle.std.specs.Prelude.{◌≡◌, List, Bool, ℕ, ◌<◌, length, ltb}
use Rattle.std.proofs.Common.{◌∙◌}
use Rattle.rules.specs.Limits.{location_radix}
use Rattle.tracking.specs.Tracking.{packed, peak, unpacked}
use Rattle.tracking.specs.Places.{unpacked_packs}

-- what is read of the inputs: whether there are any, and the greatest of their locations
abbrev pub has : List ℕ → Bool
has ins = ltb 0 (length ins)

pub record Top (locations ins : List ℕ) (span pos : ℕ) : Type 0 where
  pub is : packed span pos ≡ peak locations ins
  pub low : pos < location_radix

pub top_of : {locations ins : List ℕ} {top span pos : ℕ} → top ≡ peak locations ins → span ≡ (unpacked top).span → pos ≡ (unpacked top).pos → Top locations ins span pos
top_of {locations} {ins} {top} {span} {pos} t es ep =
    rw (es, ep) (record { is = (unpacked_packs top).0 ∙ t; low = (unpacked_packs top).1 })
