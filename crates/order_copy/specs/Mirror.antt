-- A slice of structs that is kept beside the session's flat order: `Mirrors` says that its first n structs are the order's n entries, and
-- `mirrors_after` that `order_append_new`, accepted after a call, keeps it so. The flat order stands for `rules`' order by `order_of`.
-- Assumes nothing.
use Rattle.std.specs.Prelude.{◌≡◌, refl, List, ◌∷◌, ◌++◌, map, ℕ, zero, suc, ◌+◌, ◌-◌, ◌≤◌, length, take, drop}
use Rattle.std.proofs.Common.{sym, ap, ◌∙◌, subst, append_assoc, arith, take_at}
use Rattle.std.proofs.lemmas.List.{map-append}
use Rattle.rules.specs.Guide.{Entry}
use Rattle.rules.specs.Calls.{unless_refused}
use Rattle.laws.specs.Accepted.{accepted_is}
use Rattle.entries.specs.Entries.{row, entry_of as stored_entry, item_of}
use Rattle.entries.specs.Stored.{row_add}
use Rattle.buffer.specs.View.{order_of}
use Rattle.order_copy.specs.declared.OrderInfo.{OrderInfo}
use Rattle.order_copy.specs.Flat.{entry_of}
use Rattle.order_copy.specs.Copied.{entries, copied, check_new}
use Rattle.order_copy.specs.Checked.{ready}
use Rattle.order_copy.specs.Loop.{before, copied_length}

-- the order's entry that a struct stands for
unfoldable pub entry : OrderInfo → Entry
entry e = record { item = record { value = e.value; added = e.added; accepted = e.accepted; lane = e.lane }; parallelism = e.parallelism }

-- the first n structs are the n entries of the flat order
pub record Mirrors (o : List OrderInfo) (flat : List ℕ) (n : ℕ) : Type 0 where
  pub room : n ≤ length o
  pub same : map entry (take n o) ≡ order_of flat n

pub mirrors_none : (o : List OrderInfo) (flat : List ℕ) → Mirrors o flat 0
unfolding order_of
mirrors_none o flat = record { room = omega arith; same = refl }

-- entries copied are those that the flat order stands for
entries_are : (f : List ℕ) (k n : ℕ) → map entry (entries f k n) ≡ map stored_entry (row f k n)
unfolding entries entry stored_entry item_of
entries_are f k zero = refl
entries_are f k (suc n) = ap (λ l. entry (entry_of f k) ∷ l) (entries_are f (suc k) n)

-- the new entries copied, after a call that left the n entries as they were and wrote entries up to m
mirrors_more : (o : List OrderInfo) (flat flat' : List ℕ) (n m : ℕ) → Mirrors o flat n → order_of flat' n ≡ order_of flat n → n ≤ m → m ≤ length o
    → Mirrors (copied o flat' n m) flat' m
unfolding order_of copied
mirrors_more o flat flat' n m k e h room =
    record { room = omega (arith, copied_length o flat' n m h room); same = first ∙ parts }
  where
    first : map entry (take m (take n o ++ (entries flat' n (m - n) ++ drop m o))) ≡ map entry (take n o) ++ map entry (entries flat' n (m - n))
    first =
        ap (λ l. map entry (take m l)) (sym (append_assoc (take n o) (entries flat' n (m - n)) (drop m o)))
        ∙ ap (map entry) (take_at (take n o ++ entries flat' n (m - n)) (drop m o) m (before o flat' n m h room)) ∙ map-append entry (take n o) (entries flat' n (m - n))

    parts : map entry (take n o) ++ map entry (entries flat' n (m - n)) ≡ order_of flat' m
    parts =
        let d : n + (m - n) ≡ m = omega arith in
        let z : 0 + n ≡ n = omega arith in
        ap (λ l. l ++ map entry (entries flat' n (m - n))) (k.same ∙ sym e) ∙ ap (λ l. order_of flat' n ++ l) (entries_are flat' n (m - n))
        ∙ sym (map-append stored_entry (row flat' 0 n) (row flat' n (m - n)))
        ∙ ap (map stored_entry) (sym (ap (λ j. row flat' 0 j) (sym d) ∙ row_add flat' 0 n (m - n) ∙ ap (λ j. row flat' 0 n ++ row flat' j (m - n)) z))

-- what `order_append_new` promises of its answer r and of the structs o', read so
pub mirrors_after : (o o' : List OrderInfo) (flat flat' : List ℕ) (n m r : ℕ) → Mirrors o flat n → order_of flat' n ≡ order_of flat n →
    r ≡ check_new (length o) flat' n m → o' ≡ unless_refused r o (copied o flat' n m) → r ≡ 0
    → Mirrors o' flat' m
mirrors_after o o' flat flat' n m r k e a s z =
    let f = ready (length o) flat' n m (sym a ∙ z) in
    let p : o' ≡ copied o flat' n m = s ∙ accepted_is r o (copied o flat' n m) z in
    subst (λ (l : List OrderInfo). Mirrors l flat' m) (sym p) (mirrors_more o flat flat' n m k e f.order f.within)
