-- Laws of the append of a row: what is still to be appended, and a turn of the loop.
use mathlib.Core.Path.{◌≡◌}
use mathlib.Core.List.{List}
use Prim.Native.Nat.{ℕ, suc, ◌+◌, ◌-◌, ◌<◌}
use native.Mathlib.Omega.{arith}
use Rattle.rules.specs.Guide.{parallelism}
use Rattle.entries.specs.Entries.{entry_at, with_parallelism, with_entry, row, annotated, appended}
use Rattle.entries.specs.declared.Entry.{Entry}

module _ (s : List ℕ) (p a b n base : ℕ) where
  -- what is still to be appended from position q on
  abbrev pub rest : List ℕ → ℕ → List ℕ
  rest o q = appended o (n + q) (annotated p a b q (row s (base + q) (a - q)))

  -- a turn appends one entry
  pub turn : (o o' : List ℕ) (q : ℕ) (e : Entry) (w : ℕ) → q < a → e ≡ entry_at s (base + q) → w ≡ parallelism p a b q
      → o' ≡ with_entry o (n + q) (with_parallelism e w) → rest o q ≡ rest o' (q + 1)
  turn o o' q e w h f g k =
      let e1 : a - q ≡ suc (a - (q + 1)) = omega arith in
      let e2 : n + (q + 1) ≡ suc (n + q) = omega arith in
      let e3 : base + (q + 1) ≡ suc (base + q) = omega arith in
      let e4 : q + 1 ≡ suc q = omega arith in
      rw (k, g, f, e1, e2, e3) (rw e4)
