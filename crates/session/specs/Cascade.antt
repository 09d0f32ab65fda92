-- The cascade by single placings: one turn of it, and its end. Assumes nothing.
use Rattle.std.specs.Prelude.{◌≡◌, refl, List, [], ◌∷◌, ℕ, zero, suc, ◌+◌, length}
use Rattle.std.proofs.Common.{ap, ◌∙◌, arith}
use Rattle.rules.specs.Model.{Model, place_one, push, off, rest, cascade, settle_all}
use Rattle.laws.specs.CascadeInv.{push_length, off_rest, place_pending}

-- an empty stack: nothing is placed
pub settle_done : (P N c : ℕ) (k : Model) → settle_all P N c [] k ≡ k
unfolding settle_all cascade
settle_done P N c k = go (length {A = ℕ} [] + length k.pending)
  where
    go : (f : ℕ) → cascade P N c f [] k ≡ k
    go zero = refl
    go (suc f) = refl

-- one placing, and then what is left and what it sets off
pub settle_turn : (P N c r : ℕ) (st : List ℕ) (k : Model) → settle_all P N c (r ∷ st) k ≡ settle_all P N c (push (off N (place_one P c r k)) st) (rest N (place_one P c r k))
unfolding settle_all cascade
settle_turn P N c r st k =
    let j : Model = place_one P c r k in
    let e : length st + length k.pending ≡ length (push (off N j) st) + length (rest N j).pending = omega (arith, push_length (off N j) st, off_rest N j, ap length (place_pending P c r k)) in
    let s : length (r ∷ st) + length k.pending ≡ suc (length st + length k.pending) = omega arith in
    ap (λ (f : ℕ). cascade P N c f (r ∷ st) k) s ∙ ap (λ (f : ℕ). cascade P N c f (push (off N j) st) (rest N j)) e
