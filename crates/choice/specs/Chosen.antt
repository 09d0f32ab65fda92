-- The choice of a span from span 0's number and the window's lengths: `choose` of `rules`, by numbers alone. The laws are the ways out of
-- it, one for each `return` of the code. Assumes nothing.
use Rattle.std.specs.Prelude.{◌≡◌, List, Bool, true, false, ℕ, ◌+◌, ◌-◌, ◌≤◌, ◌<◌, ltb, eqb, get_or}
use Rattle.std.proofs.Common.{◌∙◌}
use borrow.Author.Tests.{lt-ltb, le-ltb, eq-eqb, ne_eqb}
use Rattle.choice.specs.declared.MatchedSpan.{MatchedSpan}
use Rattle.choice.specs.declared.MatchedSpan.TheVariants.{Existing, New}
use Rattle.choice.specs.Search.{pick_span, matched}

-- absent, or below span 0's number: span 1; at distance 31: two spans are opened; else the search, begun at d+2 or d+1
unfoldable pub chosen_by : ℕ → List ℕ → ℕ → Bool → ℕ → ℕ → MatchedSpan
chosen_by first lens p false span pos = Existing 1
chosen_by first lens p true span pos =
    pick_span (ltb span first) (Existing 1)
    (pick_span (eqb (span - first) 31) (New 2)
    (pick_span (ltb (get_or lens (span - first + 1) 0) pos) (matched lens (span - first + 2) p) (matched lens (span - first + 1) p)))

module _ (first : ℕ) (lens : List ℕ) (p : ℕ) (has : Bool) (span pos : ℕ) where
  pub by_none : has ≡ false → Existing 1 ≡ chosen_by first lens p has span pos
  unfolding chosen_by
  by_none e = rw e

  pub by_old : has ≡ true → span < first → Existing 1 ≡ chosen_by first lens p has span pos
  unfolding chosen_by
  by_old e h = rw (e, lt-ltb span first h)

  pub by_two : has ≡ true → first ≤ span → span - first ≡ 31 → New 2 ≡ chosen_by first lens p has span pos
  unfolding chosen_by
  by_two e h f = rw (e, le-ltb span first h, eq-eqb (span - first) 31 f)

  pub by_far : (d : ℕ) (r : MatchedSpan) → has ≡ true → first ≤ span → (span - first ≡ 31 → ⊥) → d ≡ span - first → get_or lens (d + 1) 0 < pos
      → r ≡ matched lens (d + 2) p → r ≡ chosen_by first lens p has span pos
  unfolding chosen_by
  by_far d r e h n ed l k = k ∙ rw (e, le-ltb span first h, ne_eqb (span - first) 31 n, ← ed, lt-ltb (get_or lens (d + 1) 0) pos l)

  pub by_near : (d : ℕ) (r : MatchedSpan) → has ≡ true → first ≤ span → (span - first ≡ 31 → ⊥) → d ≡ span - first → pos ≤ get_or lens (d + 1) 0
      → r ≡ matched lens (d + 1) p → r ≡ chosen_by first lens p has span pos
  unfolding chosen_by
  by_near d r e h n ed l k = k ∙ rw (e, le-ltb span first h, ne_eqb (span - first) 31 n, ← ed, le-ltb (get_or lens (d + 1) 0) pos l)
