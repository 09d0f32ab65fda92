-- Listings and lanes: ` lane=L` struck from a listing leaves the listing without that field (`struck_listing`), and that depends on no lane
-- (`plain_bare`). Assumes nothing.
use Rattle.std.specs.Prelude.{List, [], ◌∷◌, ◌++◌, map, true, false, ◌⊎◌, ◌≡◌, refl, ℕ, zero, suc, ◌+◌, ◌/◌, ◌%◌, ◌≤◌, ◌<◌, min, length, get_or, leb, ltb, eqb}
use Rattle.std.proofs.Common.{append_assoc, append-nil, inl, inr, sym, ap, ◌∙◌, arith, mod-lt, ltb-true, le-leb, ne_eqb}
use Rattle.std.proofs.lemmas.List.{length-map}
use Rattle.rules.specs.Text.{newline, zero_digit, nine_digit}
use Rattle.rules.specs.Guide.{Entry, tally}
use Rattle.rules.specs.Summary.{median}
use Rattle.rules.specs.Model.{Model}
use Rattle.rules.specs.Job.{after_key}
use Rattle.rules.specs.Listing.{digits, decimal, field, line, least, before_run_out, floor, entry_line, entry_lines, listing}
use Rattle.rules.specs.Listing.{word_status, word_entries, word_places, word_floor, word_median, word_order, word_added, word_accepted, word_parallelism, word_written, word_lane}
use Rattle.laws.specs.ModelBase.{bool_cases}
use Rattle.lanes.specs.Claims.{bare_item, bare_entry, bare_guide, bare, leading_digits, lane_length, struck_from, struck, plain_line, plain_lines, plain_listing}
use Rattle.lanes.proofs.Lists.{tally_bare}

-- ---- digits

-- bytes that are all digits
data Digits : List ℕ → Type 0 where
  no_digit : Digits []
  digit : {b : ℕ} {bs : List ℕ} → zero_digit ≤ b → b ≤ nine_digit → Digits bs → Digits (b ∷ bs)

digits_append : {xs ys : List ℕ} → Digits xs → Digits ys → Digits (xs ++ ys)
digits_append no_digit e = e
digits_append (digit a b d) e = digit a b (digits_append d e)

one_digit : (n : ℕ) → n < 10 → Digits ((zero_digit + n) ∷ [])
one_digit n h = digit {b = zero_digit + n} (omega arith) (omega arith) no_digit

digits_of : (f n : ℕ) → Digits (digits f n)
unfolding digits
digits_of zero n = no_digit
digits_of (suc f) n = go (bool_cases (ltb n 10)) (digits_of f (n / 10))
  where
    go : (ltb n 10 ≡ true) ⊎ (ltb n 10 ≡ false) → Digits (digits f (n / 10)) → Digits (digits (suc f) n)
    go (inl e) d = let low : n < 10 = ltb-true n 10 e in rw (digits, e) (one_digit n low)
    go (inr e) d = rw (digits, e) (digits_append d (one_digit (n % 10) (mod-lt n (omega arith))))

-- ---- what striking leaves

-- of xs it leaves ys, whatever follows
record Leaves (xs ys : List ℕ) : Type 0 where
  left : (rest : List ℕ) → struck (xs ++ rest) ≡ ys ++ struck rest

leaves_append : {xs ys us vs : List ℕ} → Leaves xs us → Leaves ys vs → Leaves (xs ++ ys) (us ++ vs)
leaves_append {xs} {ys} {us} {vs} h i =
    record { left = λ rest. rw (append_assoc xs ys rest, h.left (ys ++ rest), i.left rest) (sym (append_assoc us vs (struck rest))) }

-- a digit is no space
leaves_digits : {xs : List ℕ} → Digits xs → Leaves xs xs
unfolding struck struck_from lane_length after_key
leaves_digits no_digit = record { left = λ rest. refl }
leaves_digits (digit {b} low high d) =
    let e : eqb b 32 ≡ false = ne_eqb b 32 (λ f. omega (arith, f, low)) in
    record { left = λ rest. rw (e, struck_from, lane_length, after_key) (ap (λ (t : List ℕ). b ∷ t) ((leaves_digits d).left rest)) }

leaves_field : (word : List ℕ) (n : ℕ) → ((rest : List ℕ) → struck (word ++ rest) ≡ word ++ struck rest) → Leaves (field word n) (field word n)
unfolding field decimal
leaves_field word n h = let w : Leaves word word = record { left = h } in leaves_append w (leaves_digits (digits_of 20 n))

leaves_line : (word : List ℕ) (n : ℕ) → ((rest : List ℕ) → struck (word ++ rest) ≡ word ++ struck rest) → Leaves (line word n) (line word n)
unfolding line struck struck_from lane_length after_key
leaves_line word n h = leaves_append (leaves_field word n h) (record { left = λ rest. refl })

-- all digits after ` lane=` go, and byte 10 is none
lane_over : {xs : List ℕ} → Digits xs → (rest : List ℕ) → struck_from (leading_digits (xs ++ (newline ∷ rest))) (xs ++ (newline ∷ rest)) ≡ newline ∷ struck rest
unfolding leading_digits struck struck_from lane_length after_key
lane_over no_digit rest = refl
lane_over (digit {b} low high d) rest = rw (le-leb zero_digit b low, le-leb b nine_digit high, leading_digits) (lane_over d rest)

lane_found : (bs : List ℕ) → lane_length (word_lane ++ bs) ≡ suc (suc (suc (suc (suc (suc (leading_digits bs))))))
unfolding lane_length after_key
lane_found bs = omega arith

lane_gone : (bs : List ℕ) → struck (word_lane ++ bs) ≡ struck_from (leading_digits bs) bs
unfolding struck struck_from
lane_gone bs = rw (struck_from, lane_found bs)

lane_left : (n : ℕ) → Leaves (field word_lane n ++ (newline ∷ [])) (newline ∷ [])
unfolding field decimal
lane_left n =
    record {
      left = λ rest.
          rw (append_assoc (word_lane ++ digits 20 n) (newline ∷ []) rest, append_assoc word_lane (digits 20 n) (newline ∷ rest))
          (lane_gone (digits 20 n ++ (newline ∷ rest)) ∙ lane_over (digits_of 20 n) rest);
    }

-- ---- the listing

entry_left : (index : ℕ) (e : Entry) (written : ℕ) → Leaves (entry_line index e written) (plain_line index e written)
unfolding entry_line plain_line line struck struck_from lane_length after_key
entry_left index e written =
    leaves_append (leaves_field word_order index (λ rest. refl))
    (leaves_append (leaves_field word_added e.item.added (λ rest. refl))
    (leaves_append (leaves_field word_accepted e.item.accepted (λ rest. refl))
    (leaves_append (leaves_field word_parallelism e.parallelism (λ rest. refl))
    (leaves_append (leaves_field word_written written (λ rest. refl)) (lane_left e.item.lane)))))

entries_left : (n : ℕ) (es : List Entry) (written : List ℕ) → Leaves (entry_lines n es written) (plain_lines n es written)
unfolding entry_lines plain_lines
entries_left n [] written = record { left = λ rest. refl }
entries_left n (e ∷ es) written = leaves_append (entry_left n e (get_or written e.item.added 0)) (entries_left (suc n) es written)

listing_left : (P : ℕ) (k : Model) → Leaves (listing P k) (plain_listing P k)
unfolding listing plain_listing struck struck_from lane_length after_key
listing_left P k =
    leaves_append (leaves_line word_status 0 (λ rest. refl))
    (leaves_append (leaves_line word_entries (length k.guide.order) (λ rest. refl))
    (leaves_append (leaves_line word_places k.recorded.places (λ rest. refl))
    (leaves_append (leaves_line word_floor (floor P k.guide.order) (λ rest. refl))
    (leaves_append (leaves_line word_median (median (tally P k.guide.order)) (λ rest. refl)) (entries_left 0 k.guide.order k.recorded.written)))))

pub struck_listing : (P : ℕ) (k : Model) → struck (listing P k) ≡ plain_listing P k
unfolding struck struck_from
struck_listing P k = ap struck (sym (append-nil (listing P k))) ∙ ((listing_left P k).left [] ∙ append-nil (plain_listing P k))

-- ---- what is left depends on no lane

least_bare : (es : List Entry) → least (map bare_entry es) ≡ least es
unfolding least bare_entry
least_bare [] = refl
least_bare (e ∷ []) = refl
least_bare (e ∷ (f ∷ es)) = ap (min e.parallelism) (least_bare (f ∷ es))

before_bare : (P n i : ℕ) (es : List Entry) → before_run_out P n i (map bare_entry es) ≡ map bare_entry (before_run_out P n i es)
unfolding before_run_out
before_bare P n i [] = refl
before_bare P n i (e ∷ es) = go (bool_cases (leb (i + P) n)) (before_bare P n (suc i) es)
  where
    go : (leb (i + P) n ≡ true) ⊎ (leb (i + P) n ≡ false) → before_run_out P n (suc i) (map bare_entry es) ≡ map bare_entry (before_run_out P n (suc i) es)
        → before_run_out P n i (map bare_entry (e ∷ es)) ≡ map bare_entry (before_run_out P n i (e ∷ es))
    go (inl f) r = rw (before_run_out, f) (ap (λ (l : List Entry). bare_entry e ∷ l) r)
    go (inr f) r = rw (before_run_out, f) r

floor_bare : (P : ℕ) (order : List Entry) → floor P (map bare_entry order) ≡ floor P order
unfolding floor
floor_bare P order = rw (length-map order bare_entry, before_bare P (length order) 0 order) (least_bare (before_run_out P (length order) 0 order))

plain_lines_bare : (n : ℕ) (es : List Entry) (written : List ℕ) → plain_lines n (map bare_entry es) written ≡ plain_lines n es written
unfolding plain_lines plain_line bare_entry bare_item
plain_lines_bare n [] written = refl
plain_lines_bare n (e ∷ es) written = ap (λ (t : List ℕ). plain_line n e (get_or written e.item.added 0) ++ t) (plain_lines_bare (suc n) es written)

plain_bare : (P : ℕ) (k : Model) → plain_listing P (bare k) ≡ plain_listing P k
unfolding plain_listing bare bare_guide
plain_bare P k =
    let order : List Entry = k.guide.order in
    rw (length-map order bare_entry, floor_bare P order, tally_bare P order, plain_lines_bare 0 order k.recorded.written)

-- two models that are the same but for lanes
pub listings_same : (P : ℕ) (k j : Model) → bare k ≡ bare j → struck (listing P k) ≡ struck (listing P j)
listings_same P k j h =
    struck_listing P k ∙ (sym (plain_bare P k) ∙ (ap (plain_listing P) h ∙ (plain_bare P j ∙ sym (struck_listing P j))))
