-- Laws of the order: what the append of span 0 adds to it is what `rules` releases.
use Rattle.std.specs.Prelude.{◌≡◌, refl, List, [], ◌∷◌, ◌++◌, map, ℕ, suc, ◌+◌, ◌*◌, ◌≤◌, length, get_or}
use Rattle.std.proofs.Common.{sym, ap, ◌∙◌, append-nil, append_assoc, add-zero, zero-add, arith}
use Rattle.std.proofs.lemmas.List.{length-map}
use Rattle.entries.specs.declared.Entry.{Entry}
use Rattle.entries.specs.Entries.{Narrow, fits, with_entry, row, annotated, appended, item_of, entry_of}
use Rattle.entries.specs.Stored.{annotated_narrow, row_other, row_suc, entry_same, stored_length}
use Rattle.rules.specs.Limits.{most_parallelism}
use Rattle.rules.specs.Guide.{parallelism, annotate, released}
use Rattle.buffer.specs.View.{spans_of, order_of}
use Rattle.buffer.specs.Rows.{row_length}

pub map_append : {A B : Type 0} (f : A → B) (l m : List A) → map f (l ++ m) ≡ map f l ++ map f m
map_append f [] m = refl
map_append f (x ∷ l) m = ap (λ t. f x ∷ t) (map_append f l m)

annotated_is : (p a b q : ℕ) (es : List Entry) → map entry_of (annotated p a b q es) ≡ annotate (parallelism p a b) q (map item_of es)
unfolding entry_of item_of annotate
annotated_is p a b q [] = refl
annotated_is p a b q (e ∷ es) = rw (annotated_is p a b (suc q) es)

pub annotated_length : (p a b q : ℕ) (es : List Entry) → length (annotated p a b q es) ≡ length es
annotated_length p a b q [] = refl
annotated_length p a b q (e ∷ es) = ap suc (annotated_length p a b (suc q) es)

pub appended_row : (o : List ℕ) (n : ℕ) (es : List Entry) → fits o (n + length es) → Narrow es → row (appended o n es) 0 (n + length es) ≡ row o 0 n ++ es
appended_row o n [] h k = rw (add-zero, append-nil)
appended_row o n (e ∷ es) h k =
    let o1 = with_entry o n e in
    let l = stored_length o n e (omega arith) in
    let g : row o1 0 (suc n) ≡ row o 0 n ++ (e ∷ []) =
    (let x : suc n ≡ n + 1 = omega arith in ap (λ t. row o1 0 t) x
    ∙ rw (row_suc o1 0 n, zero-add n, entry_same o n e (omega arith) k.0, row_other o n e (omega arith) 0 n (λ j a b. omega arith))) in
    let x : n + suc (length es) ≡ suc n + length es = omega arith in
    ap (λ t. row (appended o1 (suc n) es) 0 t) x ∙ appended_row o1 (suc n) es (omega arith) k.1 ∙ ap (λ t. t ++ es) g ∙ append_assoc (row o 0 n) (e ∷ []) es

pub order_count : (o : List ℕ) (n : ℕ) → length (order_of o n) ≡ n
unfolding order_of
order_count o n = length-map (row o 0 n) entry_of ∙ row_length o 0 n

-- the order after the release of a span
pub order_released : (o : List ℕ) (n p a b : ℕ) (es : List Entry) → length es ≡ a → fits o (n + a) → 1 ≤ p → p ≤ most_parallelism
    → order_of (appended o n (annotated p a b 0 es)) (n + a) ≡ order_of o n ++ annotate (parallelism p a b) 0 (map item_of es)
unfolding order_of
order_released o n p a b es e k one few =
    let r = annotated p a b 0 es in
    let f : length r ≡ a = annotated_length p a b 0 es ∙ e in
    let g : row (appended o n r) 0 (n + a) ≡ row o 0 n ++ r = ap (λ t. row (appended o n r) 0 (n + t)) (sym f) ∙ appended_row o n r (omega arith) (annotated_narrow p a b 0 es one few) in
    rw (g, map_append entry_of (row o 0 n) r) (ap (λ t. map entry_of (row o 0 n) ++ t) (annotated_is p a b 0 es))

-- what the release of span 0 appends
pub first_released : (p : ℕ) (s rs ls : List ℕ) → length rs ≡ length ls → 2 ≤ length ls
    → released p 1 (spans_of p s rs ls) ≡ annotate (parallelism p (get_or ls 0 0) (get_or ls 1 0)) 0 (map item_of (row s (get_or rs 0 0 * (p + 1)) (get_or ls 0 0)))
unfolding released spans_of
first_released p s [] ls h k = absurd (omega arith)
first_released p s (r ∷ []) [] h k = absurd (omega arith)
first_released p s (r ∷ []) (l ∷ []) h k = absurd (omega arith)
first_released p s (r ∷ []) (l ∷ (m ∷ ls)) h k = absurd (omega arith)
first_released p s (r ∷ (q ∷ rs)) [] h k = absurd (omega arith)
first_released p s (r ∷ (q ∷ rs)) (l ∷ []) h k = absurd (omega arith)
first_released p s (r ∷ (q ∷ rs)) (l ∷ (m ∷ ls)) h k =
    let e = length-map (row s (r * (p + 1)) l) item_of ∙ row_length s (r * (p + 1)) l in
    let f = length-map (row s (q * (p + 1)) m) item_of ∙ row_length s (q * (p + 1)) m in
    rw (append-nil, e, f)

pub appended_length : (o : List ℕ) (n : ℕ) (es : List Entry) → fits o (n + length es) → length (appended o n es) ≡ length o
appended_length o n [] h = refl
appended_length o n (e ∷ es) h = let l = stored_length o n e (omega arith) in appended_length (with_entry o n e) (suc n) es (omega arith) ∙ l
