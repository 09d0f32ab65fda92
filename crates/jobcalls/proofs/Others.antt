-- What a `?` tells where there is no line, and a `match` or a `let .. else` where none of its patterns fits: a line that is none of theirs says nothing where an `in=` line, an
-- `out=` line or one of the head's must stand, or a call must start. Assumes nothing.
use mathlib.Core.List.{List}
use Rattle.std.specs.Prelude.{Option as Answer, Some, None, Result, Ok, Err}
use Rattle.std.specs.Option.{ok_or}
use mathlib.Core.Option.{none}
use mathlib.Core.Path.{◌≡◌, refl, ap, ◌∙◌}
use Prim.Native.Nat.{ℕ}
use Rattle.rules.specs.Job as rule
use Rattle.jobline.specs.declared.Line.{Line}
use Rattle.jobline.specs.declared.Line.TheVariants as line
use Rattle.jobline.specs.Lines.{line_as}
use Rattle.jobcalls.specs.declared.Malformed.{Malformed}

-- the line that is told where `ok_or` finds none
line_in : Result Line Malformed → ℕ
line_in (Ok l) = 0
line_in (Err x) = x.line

pub told_at : {l : Answer Line} {x : Malformed} (n : ℕ) → ◌≡◌ {A = Result Line Malformed} (Err x) (ok_or l (record { line = n })) → l ≡ None → x.line ≡ n
unfolding line_in
told_at n e absent = ap line_in (e ∙ ap (λ (l : Answer Line). ok_or l (record { line = n })) absent)

-- the line is not the one that the pattern fits
abbrev Never : (ℕ → Line) → Line → Type 0
Never pattern l = (n : ℕ) → l ≡ pattern n → ⊥

abbrev NeverOne : Line → Line → Type 0
NeverOne pattern l = l ≡ pattern → ⊥

pub no_start_of : (l : Line) → Never line.Set l → Never line.Lane l → Never line.Inputs l → NeverOne line.Flush l → NeverOne line.Final l →
    (read : List ℕ) → rule.start_of (line_as (Some l) read) ≡ none
no_start_of (line.Parallelism n) _ _ _ _ _ read = refl
no_start_of (line.Places n) _ _ _ _ _ read = refl
no_start_of (line.Set n) h0 _ _ _ _ read = absurd (h0 n refl)
no_start_of (line.Lane n) _ h1 _ _ _ read = absurd (h1 n refl)
no_start_of (line.Inputs n) _ _ h2 _ _ read = absurd (h2 n refl)
no_start_of (line.Outputs n) _ _ _ _ _ read = refl
no_start_of line.Flush _ _ _ h3 _ read = absurd (h3 refl)
no_start_of line.Final _ _ _ _ h4 read = absurd (h4 refl)

pub no_inputs_of : (l : Line) → Never line.Inputs l → (read : List ℕ) → rule.inputs_of (line_as (Some l) read) ≡ none
no_inputs_of (line.Parallelism n) _ read = refl
no_inputs_of (line.Places n) _ read = refl
no_inputs_of (line.Set n) _ read = refl
no_inputs_of (line.Lane n) _ read = refl
no_inputs_of (line.Inputs n) h read = absurd (h n refl)
no_inputs_of (line.Outputs n) _ read = refl
no_inputs_of line.Flush _ read = refl
no_inputs_of line.Final _ read = refl

pub no_outputs_of : (l : Line) → Never line.Outputs l → (read : List ℕ) → rule.outputs_of (line_as (Some l) read) ≡ none
no_outputs_of (line.Parallelism n) _ read = refl
no_outputs_of (line.Places n) _ read = refl
no_outputs_of (line.Set n) _ read = refl
no_outputs_of (line.Lane n) _ read = refl
no_outputs_of (line.Inputs n) _ read = refl
no_outputs_of (line.Outputs n) h read = absurd (h n refl)
no_outputs_of line.Flush _ read = refl
no_outputs_of line.Final _ read = refl

pub no_parallelism_of : (l : Line) → Never line.Parallelism l → (read : List ℕ) → rule.parallelism_of (line_as (Some l) read) ≡ none
no_parallelism_of (line.Parallelism n) h read = absurd (h n refl)
no_parallelism_of (line.Places n) _ read = refl
no_parallelism_of (line.Set n) _ read = refl
no_parallelism_of (line.Lane n) _ read = refl
no_parallelism_of (line.Inputs n) _ read = refl
no_parallelism_of (line.Outputs n) _ read = refl
no_parallelism_of line.Flush _ read = refl
no_parallelism_of line.Final _ read = refl

pub no_places_of : (l : Line) → Never line.Places l → (read : List ℕ) → rule.places_of (line_as (Some l) read) ≡ none
no_places_of (line.Parallelism n) _ read = refl
no_places_of (line.Places n) h read = absurd (h n refl)
no_places_of (line.Set n) _ read = refl
no_places_of (line.Lane n) _ read = refl
no_places_of (line.Inputs n) _ read = refl
no_places_of (line.Outputs n) _ read = refl
no_places_of line.Flush _ read = refl
no_places_of line.Final _ read = refl
