-- `window::shift` meets its contract. Assumes nothing.
use Rattle.std.proofs.Common.{◌≡◌, sym, ◌∙◌, List, [], ◌∷◌, ◌++◌, ℕ, ◌<◌, length, set, take, drop, length-set, length-drop, arith}
use Rattle.std.proofs.Math.Seq.{take-suc-set, take_all}
use Rattle.window.proofs.shift.Goals as goal

ends : {X : Type 0} (a r : List X) (i : ℕ) (x : X) → length a ≡ 32 → i ≡ 31 → length r ≡ 32 → take i r ≡ take i (drop 1 a) → set r 31 x ≡ drop 1 a ++ (x ∷ [])
ends a r i x l z m s =
    let e : take 31 r ≡ take 31 (drop 1 a) = rw z at s in
    let f : 31 < length r = omega arith in
    sym (take_all 32 (set r 31 x) (simp length-set (omega arith))) ∙ take-suc-set r 31 x f ∙ rw (e, take_all 31 (drop 1 a) (simp length-drop (omega arith)))

pub returns : goal.returns
returns g c = let l = c.loop-i in ends c.args.a l.r l.i c.args.x (omega arith) (omega arith) l.invariant.1.0 l.invariant.1.1
