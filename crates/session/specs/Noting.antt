-- The order's length noted as written: where the count of registrations went from `from` to `to`, in the row of the latest. An add counts
-- one registration and a set none; a flush notes the latest of all. Assumes nothing.
use Rattle.std.specs.Prelude.{◌≡◌, List, true, false, ℕ, ◌+◌, ◌-◌, ◌≤◌, ◌<◌, ltb}
use Rattle.std.proofs.Common.{sym, ap, ◌∙◌, subst, inl, inr, arith}
use borrow.Author.Tests.{lt-ltb, le-ltb}
use Rattle.laws.specs.History.{lt_or_le}
use Rattle.records.specs.Filling.{with_written}
use Rattle.records.specs.Filled.{RowsFrame, rows_refl, written_frame}

unfoldable pub noted : ℕ → ℕ → ℕ → List ℕ → List ℕ
noted from to n rs = elim (ltb from to) [ true ↦ with_written rs (to - 1) n | false ↦ rs ]

module _ (from to n : ℕ) (rs : List ℕ) where
  pub noted_none : to ≤ from → noted from to n rs ≡ rs
  unfolding noted
  noted_none h = rw (noted, le-ltb from to h)

  pub noted_some : from < to → noted from to n rs ≡ with_written rs (to - 1) n
  unfolding noted
  noted_some h = rw (noted, lt-ltb from to h)

  -- all beyond the rows of v registrations stays
  pub noted_frame : (v : ℕ) → to ≤ v → RowsFrame v rs (noted from to n rs)
  noted_frame v h =
      elim (lt_or_le from to) [
        | inl x ↦ subst (λ (l : List ℕ). RowsFrame v rs l) (sym (noted_some x)) (written_frame v rs (to - 1) n (omega arith))
        | inr x ↦ subst (λ (l : List ℕ). RowsFrame v rs l) (sym (noted_none x)) (rows_refl v rs)
      ]

-- one registration more: its own row
pub noted_one : (r n : ℕ) (rs : List ℕ) → noted r (r + 1) n rs ≡ with_written rs r n
noted_one r n rs = let e : r + 1 - 1 ≡ r = omega arith in noted_some r (r + 1) n rs (omega arith) ∙ ap (λ (q : ℕ). with_written rs q n) e
