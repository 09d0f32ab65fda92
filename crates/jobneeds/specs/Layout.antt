-- A job's needs as a host finds them: the call's result and the four lent numbers. Definitions only. Assumes nothing.
use Rattle.std.specs.Prelude.{List, [], ◌∷◌, ℕ, ◌+◌, ◌*◌}
use Rattle.rules.specs.Limits.{reply_radix}
use Rattle.rules.specs.Needs.{Needs, Reading, needing, unread, most_spans}

-- n, w, f and the ceiling
unfoldable pub needs_numbers : Needs → List ℕ
needs_numbers c = c.registrations ∷ c.pool ∷ c.flushes ∷ most_spans c ∷ []

-- 0, or 64 times the line plus the number
unfoldable pub needs_result : Reading → ℕ
needs_result (needing c) = 0
needs_result (unread n code) = reply_radix * n + code

-- the four numbers after the call: the needs; refused, as they were
unfoldable pub needs_after : Reading → List ℕ → List ℕ
needs_after (needing c) before = needs_numbers c
needs_after (unread n code) before = before
