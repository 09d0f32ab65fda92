-- What the rows say: row r is the one that the rules give registration r after an order (`row_after`), with a written of its own.
-- `filled` keeps it as the order grows, and leaves alone all beyond the rows of V; another written changes nothing else. Assumes nothing.
use Rattle.std.specs.Prelude.{◌≡◌, refl, Bool, true, false, ◌≢◌, ℕ, zero, suc, ◌+◌, ◌≤◌, ◌<◌, eqb, length, set}
use Rattle.std.proofs.Common.{sym, ◌∙◌, add-zero, zero-add, arith}
use Rattle.std.proofs.Math.Path.{ap, subst}
use mathlib.Core.List.{List, [], ◌∷◌, ◌++◌, map}
use Rattle.std.proofs.Math.Decide.{ℕ_discrete}
use Rattle.std.proofs.Math.ListN.{get_or, length-set}
use Rattle.std.proofs.Math.Seq.{get_or-set_same, get_or-set_other}
use borrow.Author.Tests.{eqb-true, eqb-false}
use Rattle.rules.specs.Guide.{Entry as OrderEntry}
use Rattle.rules.specs.Record.{Row, unfilled, fill, row_after}
use Rattle.entries.specs.declared.Entry.{Entry}
use Rattle.entries.specs.Entries.{lane_radix, packed, parallelism_in, lane_in, Narrow, row, entry_at, item_of, entry_of}
use Rattle.entries.specs.Stored.{packed_parallelism, packed_lane, row_narrow, row_add}
use Rattle.buffer.specs.View.{order_of}
use Rattle.buffer.specs.Order.{map_append, order_count}
use Rattle.records.specs.Filling.{row_extent, rows_fit, has_row, written_at, with_written, fill_one, filled, Fillable, fill_one_length, filled_length}

-- row r of lent rows
unfoldable pub row_at : List ℕ → ℕ → Row
row_at rs r =
    let i = row_extent r in
    let last = get_or rs (i + 4) 0 in
    record {
      added = get_or rs i 0;
      accepted = get_or rs (i + 1) 0;
      written = written_at rs r;
      index = get_or rs (i + 3) 0;
      parallelism = parallelism_in last;
      lane = lane_in last;
    }

-- the rows of the first v registrations are those of an order, with the written that ws has for each
abbrev pub Filled : ℕ → List ℕ → List ℕ → List OrderEntry → Type 0
Filled v rs ws os = (r : ℕ) → r < v → row_at rs r ≡ row_after r (unfilled (get_or ws r 0)) 0 os

-- a row, filled by entry e at index n if it is the one of e's registration
abbrev filled_by : ℕ → ℕ → OrderEntry → Row → Row
filled_by r n e a = elim (eqb e.item.added r) [ true ↦ fill n e a | false ↦ a ]

by_cases : (b : Bool) (x y z : Row) → (b ≡ true → z ≡ x) → (b ≡ false → z ≡ y) → z ≡ elim b [ true ↦ x | false ↦ y ]
by_cases true x y z f g = f refl
by_cases false x y z f g = g refl

after_append : (r : ℕ) (a : Row) (n : ℕ) (ws bs : List OrderEntry) → row_after r a n (ws ++ bs) ≡ row_after r (row_after r a n ws) (n + length ws) bs
unfolding row_after
after_append r a n [] bs = rw add-zero
after_append r a n (e ∷ ws) bs = let m : n + suc (length ws) ≡ suc n + length ws = omega arith in rw m (after_append r (filled_by r n e a) (suc n) ws bs)

module _ (rs : List ℕ) (n : ℕ) (e : Entry) (h : has_row rs e.added) where
  abbrev a : ℕ
  a = e.added

  abbrev fifth : ℕ
  fifth = packed e.parallelism e.lane

  abbrev s1 : List ℕ
  s1 = set rs (row_extent a) e.added

  abbrev s2 : List ℕ
  s2 = set s1 (row_extent a + 1) e.accepted

  abbrev s3 : List ℕ
  s3 = set s2 (row_extent a + 3) n

  pub fill_other : (i : ℕ) → i ≢ row_extent a → i ≢ row_extent a + 1 → i ≢ row_extent a + 3 → i ≢ row_extent a + 4 → get_or (fill_one rs n e) i 0 ≡ get_or rs i 0
  unfolding fill_one
  fill_other i x y z w =
      get_or-set_other s3 (row_extent a + 4) i fifth 0 w
      ∙ get_or-set_other s2 (row_extent a + 3) i n 0 z
      ∙ get_or-set_other s1 (row_extent a + 1) i e.accepted 0 y
      ∙ get_or-set_other rs (row_extent a) i e.added 0 x

  read_same : e.parallelism < lane_radix → row_at (fill_one rs n e) a ≡ fill n (entry_of e) (row_at rs a)
  unfolding row_at fill_one fill entry_of item_of
  read_same narrow =
      let f0 : get_or (fill_one rs n e) (row_extent a) 0 ≡ e.added =
      get_or-set_other s3 (row_extent a + 4) (row_extent a) fifth 0 (omega arith)
      ∙ get_or-set_other s2 (row_extent a + 3) (row_extent a) n 0 (omega arith)
      ∙ get_or-set_other s1 (row_extent a + 1) (row_extent a) e.accepted 0 (omega arith)
      ∙ get_or-set_same rs (row_extent a) e.added 0 (omega arith) in
      let f1 : get_or (fill_one rs n e) (row_extent a + 1) 0 ≡ e.accepted =
      get_or-set_other s3 (row_extent a + 4) (row_extent a + 1) fifth 0 (omega arith)
      ∙ get_or-set_other s2 (row_extent a + 3) (row_extent a + 1) n 0 (omega arith)
      ∙ get_or-set_same s1 (row_extent a + 1) e.accepted 0 (simp length-set (omega arith)) in
      let f2 : get_or (fill_one rs n e) (row_extent a + 2) 0 ≡ get_or rs (row_extent a + 2) 0 = fill_other (row_extent a + 2) (omega arith) (omega arith) (omega arith) (omega arith) in
      let f3 : get_or (fill_one rs n e) (row_extent a + 3) 0 ≡ n =
      get_or-set_other s3 (row_extent a + 4) (row_extent a + 3) fifth 0 (omega arith)
      ∙ get_or-set_same s2 (row_extent a + 3) n 0 (simp length-set (omega arith)) in
      let f4 : get_or (fill_one rs n e) (row_extent a + 4) 0 ≡ fifth = get_or-set_same s3 (row_extent a + 4) fifth 0 (simp length-set (omega arith)) in
      rw (f0, f1, f2, f3, f4, packed_parallelism e.parallelism e.lane narrow, packed_lane e.parallelism e.lane narrow)

  read_other : (r : ℕ) → r ≢ a → row_at (fill_one rs n e) r ≡ row_at rs r
  unfolding row_at
  read_other r m =
      let f0 = fill_other (row_extent r) (omega arith) (omega arith) (omega arith) (omega arith) in
      let f1 = fill_other (row_extent r + 1) (omega arith) (omega arith) (omega arith) (omega arith) in
      let f2 = fill_other (row_extent r + 2) (omega arith) (omega arith) (omega arith) (omega arith) in
      let f3 = fill_other (row_extent r + 3) (omega arith) (omega arith) (omega arith) (omega arith) in
      let f4 = fill_other (row_extent r + 4) (omega arith) (omega arith) (omega arith) (omega arith) in
      rw (f0, f1, f2, f3, f4)

  read_filled_one : (r : ℕ) → e.parallelism < lane_radix → row_at (fill_one rs n e) r ≡ filled_by r n (entry_of e) (row_at rs r)
  unfolding entry_of item_of
  read_filled_one r narrow =
      by_cases (eqb a r) (fill n (entry_of e) (row_at rs r)) (row_at rs r) (row_at (fill_one rs n e) r)
      (λ t. subst (λ (z : ℕ). row_at (fill_one rs n e) z ≡ fill n (entry_of e) (row_at rs z)) (eqb-true a r t) (read_same narrow))
      (λ t. read_other r (λ q. eqb-false a r t (sym q)))

-- every entry is of a registration below v
unfoldable pub Known : ℕ → List OrderEntry → Type 0
Known v [] = Unit {0}
Known v (e ∷ es) = (e.item.added < v) × Known v es

read_filled : (v r n : ℕ) (rs : List ℕ) (es : List Entry) → Known v (map entry_of es) → Narrow es → rows_fit rs v → row_at (filled rs n es) r ≡ row_after r (row_at rs r) n (map entry_of es)
unfolding filled row_after Known item_of entry_of
read_filled v r n rs [] k b h = refl
read_filled v r n rs (e ∷ es) k b h =
    read_filled v r (suc n) (fill_one rs n e) es k.1 b.1 (omega (arith, fill_one_length rs n e))
    ∙ ap (λ (z : Row). row_after r z (suc n) (map entry_of es)) (read_filled_one rs n e (omega (arith, k.0)) r b.0)

pub known_at : (v : ℕ) (o : List ℕ) (n a q : ℕ) → Known v (map entry_of (row o n a)) → q < a → (entry_at o (n + q)).added < v
unfolding Known item_of entry_of
known_at v o n zero q m h = absurd (omega arith)
known_at v o n (suc a) zero m h = let e : n + 0 ≡ n = omega arith in rw e m.0
known_at v o n (suc a) (suc q) m h = let e : n + suc q ≡ suc n + q = omega arith in rw e (known_at v o (suc n) a q m.1 (omega arith))

pub known_append : (v : ℕ) (l m : List OrderEntry) → Known v (l ++ m) → Known v m
unfolding Known
known_append v [] m k = k
known_append v (x ∷ l) m k = known_append v l m k.1

-- what a filling leaves alone: what lies beyond the rows of V registrations
pub record RowsFrame (v : ℕ) (rs rs' : List ℕ) : Type 0 where
  pub long : length rs' ≡ length rs
  pub beyond : (j : ℕ) → row_extent v ≤ j → get_or rs' j 0 ≡ get_or rs j 0

pub rows_refl : (v : ℕ) (rs : List ℕ) → RowsFrame v rs rs
rows_refl v rs = record { long = refl; beyond = λ j h. refl }

filled_beyond : (v j n : ℕ) (rs : List ℕ) (es : List Entry) → Known v (map entry_of es) → rows_fit rs v → row_extent v ≤ j → get_or (filled rs n es) j 0 ≡ get_or rs j 0
unfolding filled Known item_of entry_of
filled_beyond v j n rs [] k h l = refl
filled_beyond v j n rs (e ∷ es) k h l =
    filled_beyond v j (suc n) (fill_one rs n e) es k.1 (omega (arith, fill_one_length rs n e)) l
    ∙ fill_other rs n e (omega (arith, k.0)) j (omega (arith, k.0)) (omega (arith, k.0)) (omega (arith, k.0)) (omega (arith, k.0))

-- the a entries of the order from index n on, all of registrations below v
module _ (v n a : ℕ) (o rs : List ℕ) (long : rows_fit rs v) (known : Known v (map entry_of (row o n a))) where
  pub fillable : Fillable o n a rs
  fillable = record { known = λ q h. omega (arith, known_at v o n a q known h) }

  order_grown : order_of o (n + a) ≡ order_of o n ++ map entry_of (row o n a)
  unfolding order_of
  order_grown = ap (λ l. map entry_of l) (row_add o 0 n a ∙ ap (λ z. row o 0 n ++ row o z a) (zero-add n)) ∙ map_append entry_of (row o 0 n) (row o n a)

  pub fills : (ws : List ℕ) → Filled v rs ws (order_of o n) → Filled v (filled rs n (row o n a)) ws (order_of o (n + a))
  fills ws f r h =
      let z : Row = unfilled (get_or ws r 0) in
      let new : List OrderEntry = map entry_of (row o n a) in
      let index : 0 + length (order_of o n) ≡ n = zero-add (length (order_of o n)) ∙ order_count o n in
      read_filled v r n rs (row o n a) known (row_narrow o n a) long
      ∙ ap (λ (y : Row). row_after r y n new) (f r h)
      ∙ sym (ap (λ (l : List OrderEntry). row_after r z 0 l) order_grown
      ∙ after_append r z 0 (order_of o n) new
      ∙ ap (λ (y : ℕ). row_after r (row_after r z 0 (order_of o n)) y new) index)

  pub fill_frame : RowsFrame v rs (filled rs n (row o n a))
  fill_frame =
      record {
        long = filled_length rs n (row o n a);
        beyond = λ j h. filled_beyond v j n rs (row o n a) known long h;
      }

-- rows of zeros say what an empty order says
pub blank_rows : (v : ℕ) (rs : List ℕ) → ((j : ℕ) → j < row_extent v → get_or rs j 0 ≡ 0) → Filled v rs [] []
unfolding row_at unfilled row_after
blank_rows v rs z r h =
    rw (z (row_extent r) (omega arith), z (row_extent r + 1) (omega arith), z (row_extent r + 2) (omega arith), z (row_extent r + 3) (omega arith), z (row_extent r + 4) (omega arith))

-- ---- written, which no entry changes

rewrite : ℕ → Row → Row
rewrite w a = record { added = a.added; accepted = a.accepted; written = w; index = a.index; parallelism = a.parallelism; lane = a.lane }

after_written : (r w : ℕ) (a : Row) (n : ℕ) (os : List OrderEntry) → rewrite w (row_after r a n os) ≡ row_after r (rewrite w a) n os
unfolding row_after fill rewrite
after_written r w a n [] = refl
after_written r w a n (e ∷ os) = after_written r w (filled_by r n e a) (suc n) os ∙ ap (λ (z : Row). row_after r z (suc n) os) (one (eqb e.item.added r))
  where
    one : (b : Bool) → rewrite w (elim b [ true ↦ fill n e a | false ↦ a ]) ≡ elim b [ true ↦ fill n e (rewrite w a) | false ↦ rewrite w a ]
    one true = refl
    one false = refl

-- a row's written is that of ws
pub written_of : (v : ℕ) (rs ws : List ℕ) (os : List OrderEntry) → Filled v rs ws os → (r : ℕ) → r < v → written_at rs r ≡ get_or ws r 0
unfolding row_at unfilled rewrite
written_of v rs ws os f r h =
    ap (λ (a : Row). a.written) (f r h ∙ sym (after_written r (get_or ws r 0) (unfilled (get_or ws r 0)) 0 os))

-- rows that differ in written alone
pub rewritten : (v : ℕ) (rs rs' ws ws' : List ℕ) (os : List OrderEntry) → Filled v rs ws os → ((j : ℕ) → ((r : ℕ) → j ≢ row_extent r + 2) → get_or rs' j 0 ≡ get_or rs j 0)
    → ((r : ℕ) → r < v → written_at rs' r ≡ get_or ws' r 0) → Filled v rs' ws' os
unfolding row_at unfilled rewrite
rewritten v rs rs' ws ws' os f same w r h =
    let f0 = same (row_extent r) (λ q e. omega arith) in
    let f1 = same (row_extent r + 1) (λ q e. omega arith) in
    let f3 = same (row_extent r + 3) (λ q e. omega arith) in
    let f4 = same (row_extent r + 4) (λ q e. omega arith) in
    let is : row_at rs' r ≡ rewrite (get_or ws' r 0) (row_at rs r) = rw (f0, f1, w r h, f3, f4) in
    is ∙ ap (rewrite (get_or ws' r 0)) (f r h) ∙ after_written r (get_or ws' r 0) (unfilled (get_or ws r 0)) 0 os

-- written stored in one row: what lies beyond the rows stays, and they say the same but for that written
module _ (v : ℕ) (rs : List ℕ) (r w : ℕ) (h : r < v) where
  pub written_frame : RowsFrame v rs (with_written rs r w)
  written_frame =
      record { long = length-set rs (row_extent r + 2) w; beyond = λ j z. get_or-set_other rs (row_extent r + 2) j w 0 (omega arith) }

  pub written_stored : (ws ws' : List ℕ) (os : List OrderEntry) → rows_fit rs v → get_or ws' r 0 ≡ w → ((q : ℕ) → q ≢ r → get_or ws' q 0 ≡ get_or ws q 0)
      → Filled v rs ws os → Filled v (with_written rs r w) ws' os
  written_stored ws ws' os long e o f =
      rewritten v rs (with_written rs r w) ws ws' os f (λ i z. get_or-set_other rs (row_extent r + 2) i w 0 (z r))
      (λ q z. elim (ℕ_discrete q r) [
        | yes y ↦ rw y (get_or-set_same rs (row_extent r + 2) w 0 (omega arith) ∙ sym e)
        | no y ↦ get_or-set_other rs (row_extent r + 2) (row_extent q + 2) w 0 (omega (arith, y)) ∙ written_of v rs ws os f q z ∙ sym (o q y)
      ])
