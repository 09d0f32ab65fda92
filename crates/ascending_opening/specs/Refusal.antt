-- The checks of opening under the ascending profile are those of every opening whose waiting storage suffices, so that what
-- those say of the lengths does here. Assumes nothing.
use Rattle.std.specs.Prelude.{◌≡◌, [], ◌∷◌, ◌++◌, Bool, ℕ}
use Rattle.std.proofs.Common.{arith, le-ltb}
use Rattle.std.proofs.Math.Path.{ap}
use Rattle.rules.specs.Refusals as refusal
use Rattle.rules.specs.Checks.{verdict, any, short, Sizes, waiting_needed, check_range, too_short as every_short, check_open as every_open}
use Rattle.rules.specs.Ascending.{lengths, check_open}
use Rattle.std.proofs.Common.{sym, ◌∙◌}

-- 2: a lent length too short
unfoldable pub too_short : ℕ → ℕ → Sizes → Bool
too_short P N s = any short (lengths P N s)

-- the lengths, with as much waiting storage as every session needs
abbrev pub sufficing : ℕ → Sizes → Sizes
sufficing N s =
    record { spans = s.spans; order = s.order; rows = s.rows; marks = s.marks; locations = s.locations; waiting = waiting_needed N; tally = s.tally }

module _ (P N : ℕ) (s : Sizes) where
  pub short_as_ever : too_short P N s ≡ every_short P N (sufficing N s)
  unfolding too_short every_short any
  short_as_ever = rw (le-ltb (waiting_needed N) (waiting_needed N) (omega arith))

  pub open_as_ever : verdict (check_open P N s) ≡ verdict (every_open P N (sufficing N s))
  unfolding check_open every_open too_short
  open_as_ever = ap (λ (b : Bool). verdict (check_range P N ++ (record { fails = b; number = refusal.too_short } ∷ []))) short_as_ever

  -- what the code works out
  pub short_by : {b : Bool} → b ≡ every_short P N (sufficing N s) → b ≡ too_short P N s
  short_by e = e ∙ sym short_as_ever

  pub number_by : {n : ℕ} → n ≡ verdict (every_open P N (sufficing N s)) → n ≡ verdict (check_open P N s)
  number_by e = e ∙ sym open_as_ever
