-- The 37 numbers that the code writes for an answer are those of the definition. Assumes nothing.
use Rattle.std.specs.Prelude.{◌≡◌, refl, List, [], ◌∷◌, ◌++◌, ℕ, suc, ◌+◌, length, get_or}
use Rattle.std.proofs.Common.{sym, ap, ◌∙◌, arith, length-append}
use Rattle.std.proofs.Math.Option.{Option, some, none}
use Rattle.rules.specs.Guide.{Loc}
use Rattle.rules.specs.Alone.{Request, reply, serve_step}
use Rattle.buffer.specs.View.{view}
use Rattle.buffer.specs.Rows.{spans_lengths}
use Rattle.placing.specs.Done.{order_view}
use Rattle.alone.specs.declared.Alone.{Alone}
use Rattle.alone.specs.Reply.{Reply, At, Released, Rejected}
use Rattle.alone.specs.Held.{model, number, given}
use Rattle.alone.specs.Served.{Served, given_by}
use Rattle.alone_list.specs.Requests.{located, answer_to}

-- a reply as three numbers
pub record Head (r : Reply) (n span pos : ℕ) : Type 0 where
  pub number_is : n ≡ number r
  pub located_is : span ∷ (pos ∷ []) ≡ located (given r)

pub head_at : (s q : ℕ) → Head (At s q) 0 s q
unfolding number given located
head_at s q = record { number_is = refl; located_is = refl }

pub head_released : Head Released 0 0 0
unfolding number given located
head_released = record { number_is = refl; located_is = refl }

pub head_rejected : (n : ℕ) → Head (Rejected n) n 0 0
unfolding number given located
head_rejected n = record { number_is = refl; located_is = refl }

unfoldable pub block_of : Alone → Reply → List ℕ
block_of x r = number r ∷ (located (given r) ++ (x.guide.written ∷ (get_or x.guide.window.ids 0 0 ∷ x.guide.window.lens)))

pub block_is : (x : Alone) (r : Reply) (n span pos : ℕ) → Head r n span pos
    → (n ∷ (span ∷ (pos ∷ (x.guide.written ∷ (get_or x.guide.window.ids 0 0 ∷ []))))) ++ x.guide.window.lens ≡ block_of x r
unfolding block_of
block_is x r n span pos h =
    ap (λ l. n ∷ (l ++ (x.guide.written ∷ (get_or x.guide.window.ids 0 0 ∷ x.guide.window.lens)))) h.located_is
    ∙ ap (λ m. m ∷ (located (given r) ++ (x.guide.written ∷ (get_or x.guide.window.ids 0 0 ∷ x.guide.window.lens)))) h.number_is

pub block_answer : (q : Request) (x y : Alone) (s o t s' o' t' : List ℕ) (r : Reply) → Served q x y s o t s' o' t' r
    → block_of y r ≡ answer_to (reply x.guide.v q (model x s o)) (given_by x.guide.p x.guide.v q (model x s o)) (serve_step x.guide.p x.guide.v q (model x s o)).guide
unfolding block_of answer_to model view
block_answer q x y s o t s' o' t' r c =
    let g = ap (λ a. a.guide) c.is in
    let k = c.held.stands.laid in
    let w = order_view y.guide s' o' in
    let l = spans_lengths y.guide.p s' y.guide.window.rows y.guide.window.lens (k.rows_many ∙ sym k.lens_many) in
    ap (λ z. number r ∷ (located (given r) ++ (z ∷ (get_or y.guide.window.ids 0 0 ∷ y.guide.window.lens)))) (sym w)
    ∙ ap (λ z. number r ∷ (located (given r) ++ (length (view y.guide s' o').order ∷ (get_or y.guide.window.ids 0 0 ∷ z)))) (sym l)
    ∙ ap (λ b. answer_to (number r) (given r) b) g
    ∙ ap (λ z. answer_to z (given r) (serve_step x.guide.p x.guide.v q (model x s o)).guide) c.number_is
    ∙ ap (λ z. answer_to (reply x.guide.v q (model x s o)) z (serve_step x.guide.p x.guide.v q (model x s o)).guide) c.given_is

pub block_length : (x : Alone) (r : Reply) → length x.guide.window.lens ≡ 32 → length (block_of x r) ≡ 37
unfolding block_of located
block_length x r h = ap suc (length-append (located (given r)) _ ∙ go (given r))
  where
    go : (l : Option Loc) → length (located l) + suc (suc (length x.guide.window.lens)) ≡ 36
    go none = omega arith
    go (some l) = omega arith
