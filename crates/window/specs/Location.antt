-- A location that may be there, as the three parts that the theorems speak of: whether there is one, its span and its position, 0 where
-- there is none.
use Rattle.std.specs.Prelude.{Bool, true, false, ℕ, Option, Some, None}
use Rattle.window.specs.declared.Location.{Location}

abbrev pub has : Option Location → Bool
has (Some at) = true
has None = false

abbrev pub span_of : Option Location → ℕ
span_of (Some at) = at.span
span_of None = 0

abbrev pub pos_of : Option Location → ℕ
pos_of (Some at) = at.pos
pos_of None = 0
