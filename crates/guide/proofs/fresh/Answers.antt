-- `guide::fresh` meets its contract: the numbers and the rows of its spans are 0 to 31. Assumes nothing.
use Rattle.std.proofs.Common.{◌≡◌, refl, List, [], ◌∷◌, ℕ, zero, suc, ◌+◌, ◌<◌, length, get_or, add-zero, arith, rules}
use Rattle.std.specs.Fn.{Mut, Called}
use Rattle.std.specs.Array.{IsFromFnResult}
use Rattle.guide.specs.Fresh.{first_guide}
use Rattle.buffer.specs.View.{upto}
use Rattle.guide.proofs.fresh.Goals as goal

is_upto : (ys : List ℕ) (m n : ℕ) → length ys ≡ n → ((i : ℕ) → i < n → get_or ys i 0 ≡ m + i) → ys ≡ upto m n
unfolding upto
is_upto [] m zero l h = refl
is_upto [] m (suc n) l h = absurd (omega arith)
is_upto (y ∷ ys) m zero l h = absurd (omega arith)
is_upto (y ∷ ys) m (suc n) l h =
    let e : y ≡ m = rw add-zero at (h 0 (omega arith)) in
    let f = is_upto ys (suc m) n (omega arith) (λ i k. omega (arith, h (suc i) (omega arith))) in
    rw (e, f)

counts : {F : Type 0} (g : Mut F (ℕ × Unit {0}) ℕ) (f : F) (ys : List ℕ) → ((p q : F) (i y : ℕ) → i < 32 → Called g p (i, tt) y q → y ≡ i) → IsFromFnResult g f ys 32 → ys ≡ upto 0 32
counts g f ys h r = is_upto ys 0 32 r.long (λ i l. let k = r.at i 0 l in omega (arith, h k.0 k.1 i _ l k.2))

pub returns : goal.returns
unfolding first_guide
returns c =
    let e = counts _ _ _ (λ p q i y l k. search rules) c.from_fn.ensures.items in
    let f = counts _ _ _ (λ p q i y l k. search rules) c.from_fn-2.ensures.items in
    rw (e, f)
