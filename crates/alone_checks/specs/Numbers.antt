-- The checks of a push and of a flush of the guide alone, by the window's numbers and lengths: `check_push` and `check_flush_alone` of
-- `rules` where they are those of the window (`Held` of the crate `alone`). Assumes nothing.
use Rattle.std.specs.Prelude.{List, [], ◌∷◌, Bool, true, false, not, ◌&&◌, ◌||◌, ℕ, ◌-◌, get_or, leb, ltb, eqb}
use Rattle.rules.specs.Limits.{last_span_limit}
use Rattle.rules.specs.Refusals as refusal
use Rattle.rules.specs.Checks.{Check, any, short, spans_needed, tally_needed}

-- at opening: a lent length is too short
abbrev pub any_short : ℕ → ℕ → ℕ → ℕ → ℕ → Bool
any_short p v s o t = any short ((s, spans_needed p) ∷ (o, v) ∷ (t, tally_needed p) ∷ [])

unfoldable pub origin_not : ℕ → ℕ → Bool
origin_not span pos = not (eqb span 0 && eqb pos 0)

-- `after` is not held
unfoldable pub stray_by : ℕ → List ℕ → ℕ → ℕ → Bool
stray_by first lens span pos =
    origin_not span pos && (leb first span && not (leb first span && (ltb (span - first) 32 && ltb pos (get_or lens (span - first) 0))))

unfoldable pub stray_after : ℕ → List ℕ → Bool → ℕ → ℕ → Bool
stray_after first lens false span pos = false
stray_after first lens true span pos = stray_by first lens span pos

unfoldable pub push_checks : ℕ → ℕ → List ℕ → ℕ → ℕ → Bool → ℕ → ℕ → List Check
push_checks last first lens N pushes has span pos =
    record { fails = leb N pushes || leb last_span_limit last; number = refusal.guide_exhausted } ∷ (record { fails = stray_after first lens has span pos; number = refusal.not_held } ∷ [])

unfoldable pub flush_checks : ℕ → List Check
flush_checks last = record { fails = leb last_span_limit last; number = refusal.guide_exhausted } ∷ []
