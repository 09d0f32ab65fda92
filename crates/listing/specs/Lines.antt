-- Laws of writing a listing: an entry's line by its fields, the lines one after another, the smallest parallelism, the head; those of the
-- floor are in Floor. Assumes nothing.
use Rattle.std.specs.Prelude.{List, [], ◌∷◌, ◌++◌, ◌≡◌, refl, length}
use Rattle.std.proofs.Common.{append_assoc, append-nil, ◌∙◌, subst}
use Rattle.std.proofs.Math.Path.{sym, ap}
use Prim.Native.Nat.{ℕ, suc, ◌+◌, ◌-◌, ◌*◌, ◌≤◌, ◌<◌, min}
use Rattle.std.proofs.Math.Numerals.{add-one}
use native.Mathlib.Omega.{arith}
use Rattle.rules.specs.Guide.{Entry as OrderEntry}
use Rattle.rules.specs.Listing.{line, least, floor, word_status, word_entries, word_places, word_floor}
use Rattle.rules.specs.Listing.{word_median}
use Rattle.entries.specs.Entries.{entry_at, entry_of}
use Rattle.writer.specs.Wrote.{Wrote, wrote_then, wrote_none}
use Rattle.listing.specs.Listed.{line_bytes, entries_from, line_in, lines_from, listed}
use Rattle.rules.specs.Listing.{field, entry_line, rejection, word_line, word_order, word_added, word_accepted, word_parallelism, word_written, word_lane}
use Rattle.entries.specs.declared.Entry.{Entry}
use Rattle.entries.specs.Entries.{item_of}

-- a loop over the entries: i of them are written, and the others are left
more : (o rows : List ℕ) (i n : ℕ) → i < n → lines_from o rows i (n - i) ≡ line_in o rows i ++ lines_from o rows (i + 1) (n - (i + 1))
unfolding lines_from
more o rows i n h = let e : n - i ≡ suc (n - (i + 1)) = omega arith in rw (e, add-one i)

none_left : (o rows : List ℕ) (i n : ℕ) → n ≤ i → lines_from o rows i (n - i) ≡ []
unfolding lines_from
none_left o rows i n h = let e : n - i ≡ 0 = omega arith in rw e

none_yet : (o rows : List ℕ) (n : ℕ) → lines_from o rows 0 (n - 0) ≡ lines_from o rows 0 n
none_yet o rows n = ap (lines_from o rows 0) (omega arith)

-- where the loop stands: the text of the first i entries is written, up to `end`
pub record Writing (o rows : List ℕ) (n at i : ℕ) (entry out : List ℕ) (end : ℕ) : Type 0 where
  pub text : List ℕ
  pub upto : i ≤ n
  pub same : length out ≡ length entry
  pub wrote : Wrote entry out at end text
  pub left : text ++ lines_from o rows i (n - i) ≡ lines_from o rows 0 n
  pub short : end ≤ at + line_bytes * i

pub writing_begins : (o rows : List ℕ) (n at : ℕ) (out : List ℕ) → Writing o rows n at 0 out out at
writing_begins o rows n at out =
    record { text = []; upto = omega arith; same = refl; wrote = wrote_none out at; left = none_yet o rows n; short = omega arith }

pub writes_on : {o rows : List ℕ} {n at i : ℕ} {entry out : List ℕ} {end : ℕ} → Writing o rows n at i entry out end → i < n
    → {next : List ℕ} {r : ℕ} → length next ≡ length out → Wrote out next end r (line_in o rows i) → r ≤ end + line_bytes
    → Writing o rows n at (i + 1) entry next r
writes_on {o} {rows} {n} {at} {i} {entry} {out} {end} w h {next} {r} l x few =
    record {
      text = w.text ++ line_in o rows i;
      upto = omega arith;
      same = l ∙ w.same;
      wrote = wrote_then w.wrote x;
      left =
          append_assoc w.text (line_in o rows i) (lines_from o rows (i + 1) (n - (i + 1)))
          ∙ ap (λ (t : List ℕ). w.text ++ t) (sym (more o rows i n h)) ∙ w.left;
      short = omega (arith, w.short, few);
    }

pub written_all : {o rows : List ℕ} {n at i : ℕ} {entry out : List ℕ} {end : ℕ} → Writing o rows n at i entry out end → n ≤ i
    → Wrote entry out at end (lines_from o rows 0 n)
written_all {o} {rows} {n} {at} {i} {entry} {out} {end} w h =
    subst (λ (t : List ℕ). Wrote entry out at end t)
    (sym (append-nil w.text) ∙ ap (λ (t : List ℕ). w.text ++ t) (sym (none_left o rows i n h)) ∙ w.left)
    w.wrote

-- the smallest parallelism: the least so far with that of the entries left
unfoldable pub least_of : ℕ → List OrderEntry → ℕ
least_of m [] = m
least_of m (e ∷ es) = min m (least (e ∷ es))

least_first : (e : OrderEntry) (es : List OrderEntry) → least (e ∷ es) ≡ least_of e.parallelism es
unfolding least least_of
least_first e [] = refl
least_first e (f ∷ es) = refl

least_cons : (m : ℕ) (e : OrderEntry) (es : List OrderEntry) → least_of m (e ∷ es) ≡ least_of (min m e.parallelism) es
unfolding least_of
least_cons m e es = ap (min m) (least_first e es) ∙ go es
  where
    go : (es : List OrderEntry) → min m (least_of e.parallelism es) ≡ least_of (min m e.parallelism) es
    go [] = refl
    go (f ∷ es) = three m e.parallelism (least (f ∷ es))
      where
        three : (a b c : ℕ) → min a (min b c) ≡ min (min a b) c
        three a b c = omega arith

module _ (o : List ℕ) (n : ℕ) where
  pub least_begins : (n ≡ 0 → ⊥) → least (entries_from o 0 n) ≡ least_of (entry_at o 0).parallelism (entries_from o 1 (n - 1))
  unfolding entry_of
  least_begins h = let e : n ≡ suc (n - 1) = omega (arith, h) in ap (λ (k : ℕ). least (entries_from o 0 k)) e ∙ least_first _ _

  least_turn : (i m : ℕ) → i < n → least_of m (entries_from o i (n - i)) ≡ least_of (min m (entry_at o i).parallelism) (entries_from o (i + 1) (n - (i + 1)))
  unfolding entry_of
  least_turn i m h = let e : n - i ≡ suc (n - (i + 1)) = omega arith in rw (e, add-one i) (least_cons m (entry_of (entry_at o i)) (entries_from o (suc i) (n - suc i)))

  -- y is the least after the turn
  module _ (i m y x : ℕ) (h : i < n) (e : x ≡ least_of m (entries_from o i (n - i))) where
    pub least_on : y ≡ min m (entry_at o i).parallelism → x ≡ least_of y (entries_from o (i + 1) (n - (i + 1)))
    least_on k = e ∙ least_turn i m h ∙ ap (λ (z : ℕ). least_of z (entries_from o (i + 1) (n - (i + 1)))) (sym k)

  pub least_ends : (i m x : ℕ) → n ≤ i → x ≡ least_of m (entries_from o i (n - i)) → m ≡ x
  unfolding least_of
  least_ends i m x h e = let k : n - i ≡ 0 = omega arith in sym (e ∙ ap (λ (y : ℕ). least_of m (entries_from o i y)) k)

pub least_none : (o : List ℕ) (n : ℕ) → n ≡ 0 → 0 ≡ least (entries_from o 0 n)
unfolding least
least_none o n e = ap (λ (k : ℕ). least (entries_from o 0 k)) (sym e)

-- the head's lines, then the entries'
pub listed_is : (or rows : List ℕ) (n P places low median : ℕ) → low ≡ floor P (entries_from or 0 n)
    → line word_status 0 ++ (line word_entries n ++ (line word_places places ++ (line word_floor low ++ (line word_median median ++ lines_from or rows 0 n)))) ≡ listed or rows n P places median
unfolding listed
listed_is or rows n P places low median h = rw h

-- an entry's line, by its fields; the last is a line
pub wrote_entry : {o a b c d f g : List ℕ} {at p q r s t u : ℕ} (index : ℕ) (e : Entry) (written : ℕ)
    → Wrote o a at p (field word_order index) → Wrote a b p q (field word_added e.added) → Wrote b c q r (field word_accepted e.accepted)
    → Wrote c d r s (field word_parallelism e.parallelism) → Wrote d f s t (field word_written written) → Wrote f g t u (line word_lane e.lane)
    → Wrote o g at u (entry_line index (entry_of e) written)
unfolding entry_line entry_of item_of line
wrote_entry index e written v w x y z l = wrote_then v (wrote_then w (wrote_then x (wrote_then y (wrote_then z l))))

module _ (o : List ℕ) (n : ℕ) where
  module _ (i m y x : ℕ) (h : i < n) (e : x ≡ least_of m (entries_from o i (n - i))) where
    on_by : y ≡ min m (entry_at o i).parallelism → x ≡ least_of y (entries_from o (i + 1) (n - (i + 1)))
    on_by k = e ∙ least_turn o n i m h ∙ ap (λ (z : ℕ). least_of z (entries_from o (i + 1) (n - (i + 1)))) (sym k)

    pub least_less : (entry_at o i).parallelism < m → y ≡ (entry_at o i).parallelism → x ≡ least_of y (entries_from o (i + 1) (n - (i + 1)))
    least_less lt k = on_by (omega arith)

    pub least_same : m ≤ (entry_at o i).parallelism → y ≡ m → x ≡ least_of y (entries_from o (i + 1) (n - (i + 1)))
    least_same le k = on_by (omega arith)

-- the head's lines, then the entries'
pub wrote_listing : {o a b c d e f : List ℕ} {p q r s t u : ℕ} (or rows : List ℕ) (n P places low median : ℕ) → low ≡ floor P (entries_from or 0 n)
    → Wrote o a 0 p (line word_status 0) → Wrote a b p q (line word_entries n) → Wrote b c q r (line word_places places) → Wrote c d r s (line word_floor low)
    → Wrote d e s t (line word_median median) → Wrote e f t u (lines_from or rows 0 n)
    → Wrote o f 0 u (listed or rows n P places median)
unfolding listed
wrote_listing {o} {f = f} {u = u} or rows n P places low median h v w x y z l =
    subst (λ (m : ℕ). Wrote o f 0 u (line word_status 0 ++ (line word_entries n ++ (line word_places places ++ (line word_floor m ++ (line word_median median ++ lines_from or rows 0 n)))))) h
    (wrote_then v (wrote_then w (wrote_then x (wrote_then y (wrote_then z l)))))

pub wrote_rejection : {o a b : List ℕ} {p q : ℕ} (n code : ℕ) → Wrote o a 0 p (line word_status code) → Wrote a b p q (line word_line n) → Wrote o b 0 q (rejection n code)
unfolding rejection
wrote_rejection n code x y = wrote_then x y
