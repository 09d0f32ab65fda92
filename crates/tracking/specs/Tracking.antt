-- What is stored of places: a mark each (rules/Record.mark-by, 0 where untracked) and a location each, as one number (rules/Record.pack).
-- Definitions that the promises cite; laws are in Loops and Places. Assumes nothing.
use Rattle.std.specs.Prelude.{◌≡◌, List, [], ◌∷◌, Bool, true, false, ℕ, zero, suc, ◌/◌, ◌%◌, max, get_or, set}
use Rattle.rules.specs.Limits.{location_radix, mark_written}
use Rattle.rules.specs.Guide.{Loc}
use Rattle.rules.specs.Record.{pack}
use Rattle.window.specs.declared.Location.{Location}

-- a span and a position as one number, a location of code as document 01's, and the location that a number stands for (Places.unpacked-packs)
abbrev pub packed : ℕ → ℕ → ℕ
packed span pos = pack (record { span = span; pos = pos })

abbrev pub located : Location → Loc
located at = record { span = at.span; pos = at.pos }

abbrev pub unpacked : ℕ → Loc
unpacked n = record { span = n / location_radix; pos = n % location_radix }

-- the greatest of the locations of the places xs
unfoldable pub peak : List ℕ → List ℕ → ℕ
peak l [] = 0
peak l (x ∷ xs) = max (get_or l x 0) (peak l xs)

-- l with v at each of the places xs
unfoldable pub stamped : List ℕ → List ℕ → ℕ → List ℕ
stamped l [] v = l
stamped l (x ∷ xs) v = stamped (set l x v) xs v

unfoldable pub nz : ℕ → Bool
nz zero = false
nz (suc n) = true

-- a place is tracked where its mark is not 0
unfoldable pub tracked_in : List ℕ → ℕ → Bool
tracked_in marks x = nz (get_or marks x 0)

-- the places xs are marked as written and have the location, no other has changed
pub record Stamped (marks locations xs : List ℕ) (loc : ℕ) (marks' locations' : List ℕ) : Type 0 where
  pub marks_are : marks' ≡ stamped marks xs mark_written
  pub locations_are : locations' ≡ stamped locations xs loc
