-- The search of document 01, "Guide": the first span from a begin index on that is shorter than P, else one new span. It is `seek` of
-- `rules` on the spans' lengths alone; `Chosen` of the crate `guide` says so. Assumes nothing.
use Rattle.std.specs.Prelude.{Bool, true, false, List, [], ◌∷◌, ℕ, suc, ltb, drop}
use Rattle.choice.specs.declared.MatchedSpan.{MatchedSpan}
use Rattle.choice.specs.declared.MatchedSpan.TheVariants.{Existing, New}

abbrev pub pick_span : Bool → MatchedSpan → MatchedSpan → MatchedSpan
pick_span true x y = x
pick_span false x y = y

-- the first of `lens` below p, its index counted from i
unfoldable pub first_below : List ℕ → ℕ → ℕ → MatchedSpan
first_below [] i p = New 1
first_below (l ∷ ls) i p = pick_span (ltb l p) (Existing i) (first_below ls (suc i) p)

unfoldable pub matched : List ℕ → ℕ → ℕ → MatchedSpan
matched lens from p = first_below (drop from lens) from p
