-- A registration's row after an order: the entry of the registration, which stands there once, fills it. Assumes nothing.
use Rattle.std.specs.Prelude.{◌≡◌, refl, List, [], ◌∷◌, map, ◌⊎◌, true, false, ℕ, zero, suc, ◌+◌, ◌≤◌, ◌<◌, length, get_or, eqb}
use Rattle.std.proofs.Common.{sym, inl, inr, add-zero, arith, eqb-true, eq-eqb}
use Rattle.rules.specs.Guide.{Entry}
use Rattle.rules.specs.Record.{Row, fill, row_after}
use Rattle.laws.specs.ModelBase.{bool_cases}
use Rattle.laws.specs.Once.{one_of, one_same}
use Rattle.laws.specs.Order.{no_written}
use Rattle.laws.specs.Demand.{count, times}

abbrev added_of : List Entry → List ℕ
added_of l = map (λ (e : Entry). e.item.added) l

-- counting a registration is summing its weight
pub count_cons : (r x : ℕ) (l : List ℕ) → count r (x ∷ l) ≡ one_of r x + count r l
unfolding count one_of
count_cons r x l = go (bool_cases (eqb r x))
  where
    go : (eqb r x ≡ true) ⊎ (eqb r x ≡ false) → count r (x ∷ l) ≡ one_of r x + count r l
    go (inl e) = rw (e, count, one_of) (omega arith)
    go (inr e) = rw (e, count, one_of) (omega arith)

-- a row after entries among which its registration's does not stand
row_kept : (r n : ℕ) (row : Row) (l : List Entry) → times r l ≡ 0 → row_after r row n l ≡ row
unfolding row_after
row_kept r n row [] z = refl
row_kept r n row (e ∷ l) z = go (bool_cases (eqb e.item.added r)) (row_kept r (suc n) row l)
  where
    go : (eqb e.item.added r ≡ true) ⊎ (eqb e.item.added r ≡ false) → (times r l ≡ 0 → row_after r row (suc n) l ≡ row) → row_after r row n (e ∷ l) ≡ row
    go (inl t) f = absurd (omega (arith, count_cons r e.item.added (added_of l), one_same r e.item.added (sym (eqb-true e.item.added r t))))
    go (inr t) f = rw (row_after, t) (f (omega (arith, count_cons r e.item.added (added_of l))))

-- an entry of the order stands in it
stands : (l : List Entry) (j : ℕ) → j < length l → 1 ≤ times (get_or l j no_written).item.added l
stands [] j h = absurd (omega arith)
stands (e ∷ l) zero h = omega (arith, count_cons e.item.added e.item.added (added_of l), one_same e.item.added e.item.added refl)
stands (e ∷ l) (suc j) h = omega (arith, count_cons (get_or l j no_written).item.added e.item.added (added_of l), stands l j (omega arith))

-- after entries among which it stands once, at index j: that one fills it
pub row_once : (l : List Entry) (n j : ℕ) (row : Row) → j < length l → times (get_or l j no_written).item.added l ≤ 1
    → row_after (get_or l j no_written).item.added row n l ≡ fill (n + j) (get_or l j no_written) row
unfolding row_after
row_once [] n j row h z = absurd (omega arith)
row_once (e ∷ l) n zero row h z =
    let r = e.item.added in
    let c = count_cons r r (added_of l) in
    rw (row_after, eq-eqb r r refl, add-zero n) (row_kept r (suc n) (fill n e row) l (omega (arith, c, one_same r r refl)))
row_once (e ∷ l) n (suc j) row h z = go (bool_cases (eqb e.item.added r)) (row_once l (suc n) j)
  where
    r : ℕ
    r = (get_or l j no_written).item.added

    go : (eqb e.item.added r ≡ true) ⊎ (eqb e.item.added r ≡ false)
        → ((row' : Row) → j < length l → times r l ≤ 1 → row_after r row' (suc n) l ≡ fill (suc n + j) (get_or l j no_written) row')
        → row_after r row n (e ∷ l) ≡ fill (n + suc j) (get_or l j no_written) row
    go (inl t) f =
        absurd (omega (arith, z, count_cons r e.item.added (added_of l), one_same r e.item.added (sym (eqb-true e.item.added r t)), stands l j (omega arith)))
    go (inr t) f =
        let i : n + suc j ≡ suc n + j = omega arith in
        rw (row_after, t, i) (f row (omega arith) (omega (arith, z, count_cons r e.item.added (added_of l))))
