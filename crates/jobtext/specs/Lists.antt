-- Laws for the loop that reads a list: the numbers read so far, before the fields that are left, are the list. Assumes nothing.
use mathlib.Core.List.{List, [], ◌∷◌, ◌++◌, append_assoc}
use Rattle.std.specs.Prelude.{Some, None}
use Rattle.std.proofs.Math.Option.{Option, none, some}
use Rattle.std.specs.Prelude.{◌≡◌, refl, ℕ, suc, ◌+◌, ◌-◌, ◌*◌, ◌/◌, ◌≤◌, ◌<◌, take, drop, set}
use Rattle.std.proofs.Math.Path.{sym, ap}
use Rattle.std.proofs.Common.{◌∙◌, zero-le, suc-ne-zero, add-one, arith, length-take, length-set, take_all, drop-drop, take-suc-set, drop-set-lt}
use Rattle.std.proofs.Math.Decide.{dec_lt}
use Rattle.std.proofs.Math.ListN.{length, length-drop}
use Rattle.std.proofs.lemmas.List.{drop-set-add, take-set-le}
use Rattle.rules.specs.Job.{fields_from, both, number, numbers, list}
use Rattle.jobtext.specs.Text.{before, ListRead}
use Rattle.jobtext.specs.Pieces.{before_le, fields_more, fields_last}
use Rattle.jobtext.specs.Numbers.{number_some}

-- lists that agree from n on agree from any later place on
pub drop_past : (n m : ℕ) (a b : List ℕ) → n ≤ m → drop n a ≡ drop n b → drop m a ≡ drop m b
drop_past n m a b h e =
    let q : n + (m - n) ≡ m = omega arith in
    ap (λ (i : ℕ). drop i a) (sym q) ∙ sym (drop-drop (m - n) n a) ∙ ap (drop (m - n)) e ∙ drop-drop (m - n) n b ∙ ap (λ (i : ℕ). drop i b) q

-- p is read, and o tells what is left
unfoldable pub prefixed : List ℕ → Option (List ℕ) → Option (List ℕ)
prefixed p none = none
prefixed p (some l) = some (p ++ l)

-- the list of the bytes s, where p is read and the fields from `at` on are left
abbrev pub Left : List ℕ → ℕ → List ℕ → Type 0
Left s at p = prefixed p (numbers (fields_from [] (drop at s))) ≡ list s

pub left_begins : (s into : List ℕ) (off : ℕ) → (length s ≡ 0 → ⊥) → Left s 0 (take 0 (drop off into))
unfolding list prefixed
left_begins [] into off n = absurd (n refl)
left_begins (x ∷ l) into off n = whole (numbers (fields_from [] (x ∷ l)))
  where
    whole : (o : Option (List ℕ)) → prefixed [] o ≡ o
    whole none = refl
    whole (some l) = refl

step_value : (p : List ℕ) (v : ℕ) (o : Option (List ℕ)) → prefixed p (both (some v) o) ≡ prefixed (p ++ (v ∷ [])) o
unfolding prefixed both
step_value p v none = refl
step_value p v (some l) = ap (λ (x : List ℕ). some x) (sym (append_assoc p (v ∷ []) l))

module _ (s : List ℕ) (at : ℕ) (p : List ℕ) (le : at ≤ length s) (inv : Left s at p) where
  abbrev field : List ℕ
  field = take (before 44 (drop at s)) (drop at s)

  rest_end : at + before 44 (drop at s) ≡ length s → fields_from [] (drop at s) ≡ field ∷ []
  rest_end e =
      fields_last [] (drop at s) (rw (length-drop at s) (omega (arith, e)))
      ∙ ap (λ (x : List ℕ). x ∷ []) (sym (take_all (before 44 (drop at s)) (drop at s) (rw (length-drop at s) (omega (arith, e)))))

  rest_more : at + before 44 (drop at s) < length s → fields_from [] (drop at s) ≡ field ∷ fields_from [] (drop (at + before 44 (drop at s) + 1) s)
  rest_more h =
      let k : at + suc (before 44 (drop at s)) ≡ at + before 44 (drop at s) + 1 = omega arith in
      fields_more [] (drop at s) (rw (length-drop at s) (omega (arith, h)))
      ∙ ap (λ (x : List ℕ). field ∷ fields_from [] x) (drop-drop (suc (before 44 (drop at s))) at s ∙ ap (λ (j : ℕ). drop j s) k)

  list_bad : none ≡ number field → none ≡ list s
  unfolding numbers both prefixed
  list_bad e = elim (dec_lt (at + before 44 (drop at s)) (length s)) [ yes h ↦ from _ (rest_more h) | no h ↦ from _ (rest_end (full h)) ]
    where
      full : (at + before 44 (drop at s) < length s → ⊥) → at + before 44 (drop at s) ≡ length s
      full h = omega (arith, h, simp length-drop at (before_le 44 (drop at s)))

      from : (fs : List (List ℕ)) → fields_from [] (drop at s) ≡ field ∷ fs → none ≡ list s
      from fs d = ap (λ (x : Option ℕ). prefixed p (both x (numbers fs))) e ∙ sym (ap (λ (x : List (List ℕ)). prefixed p (numbers x)) d) ∙ inv

  list_end : (v : ℕ) → some v ≡ number field → at + before 44 (drop at s) ≡ length s → some (p ++ (v ∷ [])) ≡ list s
  unfolding numbers both prefixed
  list_end v e d =
      ap (λ (x : Option ℕ). prefixed p (both x (some []))) e ∙ sym (ap (λ (x : List (List ℕ)). prefixed p (numbers x)) (rest_end d)) ∙ inv

  list_more : (v : ℕ) → some v ≡ number field → at + before 44 (drop at s) < length s → Left s (at + before 44 (drop at s) + 1) (p ++ (v ∷ []))
  unfolding numbers
  list_more v e h =
      sym (step_value p v (numbers (fields_from [] (drop (at + before 44 (drop at s) + 1) s))))
      ∙ ap (λ (x : Option ℕ). prefixed p (both x (numbers (fields_from [] (drop (at + before 44 (drop at s) + 1) s))))) e
      ∙ sym (ap (λ (x : List (List ℕ)). prefixed p (numbers x)) (rest_more h)) ∙ inv

-- where the loop stands: n numbers are read into `into` from `off` on, and the fields from `at` on are left
pub record Reading (s entry into : List ℕ) (off at n : ℕ) : Type 0 where
  pub inside : at ≤ length s
  pub slow : 2 * n ≤ at
  pub same : length into ≡ length entry
  pub left : Left s at (take n (drop off into))
  pub kept : take off into ≡ take off entry
  pub past : drop (off + n) into ≡ drop (off + n) entry

pub reading_begins : (s entry : List ℕ) (off : ℕ) → (length s ≡ 0 → ⊥) → Reading s entry entry off 0 0
reading_begins s entry off n = record { inside = zero-le; slow = zero-le; same = refl; left = left_begins s entry off n; kept = refl; past = refl }

-- a turn, whose field ends at e
module _ {s entry into : List ℕ} {off at n : ℕ} (i : Reading s entry into off at n) (room : 2 * off + length s < 2 * length entry)
    (e : ℕ) (found : e ≡ at + before 44 (drop at s)) where
  as_field : take (e - at) (drop at s) ≡ take (before 44 (drop at s)) (drop at s)
  as_field = let k : e - at ≡ before 44 (drop at s) = omega (arith, found) in ap (λ (j : ℕ). take j (drop at s)) k

  pub end_in : e ≤ length s
  end_in = omega (arith, found, simp length-drop at (before_le 44 (drop at s)))

  pub says_bad : none ≡ number (take (e - at) (drop at s)) → ListRead entry into off s None
  says_bad h =
      record {
        reads = list_bad s at (take n (drop off into)) i.inside i.left (h ∙ ap number as_field);
        few = zero-le;
        within = omega arith;
        kept = i.kept;
        past = λ x. absurd (x refl);
        beyond = drop_past (off + n) (off + (length s + 1) / 2) into entry (omega (arith, i.slow, i.inside)) i.past;
      }

  module _ (v : ℕ) (h : some v ≡ number (take (e - at) (drop at s))) where
    pub not_empty : at < e
    not_empty = omega (arith, found, simp length-take at (number_some (take (before 44 (drop at s)) (drop at s)) v (h ∙ ap number as_field)))

    stored : take (n + 1) (drop off (set into (off + n) v)) ≡ take n (drop off into) ++ (v ∷ [])
    stored = rw (drop-set-add off into n v, add-one) (take-suc-set (drop off into) n v (rw (length-drop off into) (omega arith)))

    before_kept : take off (set into (off + n) v) ≡ take off entry
    before_kept = take-set-le off into (off + n) v (omega arith) ∙ i.kept

    past_kept : drop (off + (n + 1)) (set into (off + n) v) ≡ drop (off + (n + 1)) entry
    past_kept = drop-set-lt (off + (n + 1)) into (off + n) v (omega arith) ∙ drop_past (off + n) (off + (n + 1)) into entry (omega arith) i.past

    pub says_all : e ≡ length s → ListRead entry (set into (off + n) v) off s (Some (n + 1))
    says_all d =
        record {
          reads =
              ap (λ (x : List ℕ). some x) stored
              ∙ list_end s at (take n (drop off into)) i.inside i.left v (h ∙ ap number as_field) (sym found ∙ d);
          few = omega (arith, not_empty, d);
          within = simp length-set (omega (arith, not_empty, d));
          kept = before_kept;
          past = λ x. past_kept;
          beyond = drop_past (off + (n + 1)) (off + (length s + 1) / 2) (set into (off + n) v) entry (omega (arith, not_empty, d, i.slow)) past_kept;
        }

    pub reads_on : (e ≡ length s → ⊥) → Reading s entry (set into (off + n) v) off (e + 1) (n + 1)
    reads_on d =
        let lt : at + before 44 (drop at s) < length s = omega (arith, d, end_in, found) in
        record {
          inside = omega (arith, end_in, d);
          slow = omega (arith, not_empty);
          same = simp length-set i.same;
          left = rw (stored, found) (list_more s at (take n (drop off into)) i.inside i.left v (h ∙ ap number as_field) lt);
          kept = before_kept;
          past = past_kept;
        }

pub says_none : (s into : List ℕ) (off : ℕ) → 2 * off + length s < 2 * length into → length s ≡ 0 → ListRead into into off s (Some 0)
unfolding list
says_none [] into off room e = record { reads = refl; few = zero-le; within = omega arith; kept = refl; past = λ x. refl; beyond = refl }
says_none (x ∷ l) into off room e = absurd (suc-ne-zero (length l) e)
