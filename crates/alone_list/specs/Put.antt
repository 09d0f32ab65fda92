-- Numbers put into a list from an index on; such puts compose. Assumes nothing.
use Rattle.std.specs.Prelude.{◌≡◌, refl, List, [], ◌∷◌, ◌++◌, ℕ, ◌+◌, ◌≤◌, ◌<◌, length, get_or, take, drop, set}
use Rattle.std.proofs.Common.{sym, ap, ◌∙◌, append_assoc, append-nil, add-zero, add-one, arith, length-set, length-append, length-take}
use Rattle.std.proofs.Common.{length-drop, take_all, length-take-le, take-suc-set, drop-set-lt, drop-drop, drop_at, take-suc}
use Rattle.std.proofs.Math.Seq.{take_at}
use borrow.Rule.Slice.PartMut.{put_mid, same_len_mid}

-- m is l with the numbers xs from index n on; it begins as l does, and what lies beyond them is as it was
pub record Put (n : ℕ) (xs l m : List ℕ) : Type 0 where
  pub long : length m ≡ length l
  pub is : take (n + length xs) m ≡ take n l ++ xs
  pub beyond : drop (n + length xs) m ≡ drop (n + length xs) l

pub put_none : (n : ℕ) (l : List ℕ) → Put n [] l l
put_none n l = record { long = refl; is = rw (add-zero, append-nil); beyond = refl }

pub put_one : (n x : ℕ) (l : List ℕ) → n < length l → Put n (x ∷ []) l (set l n x)
put_one n x l h =
    record {
      long = length-set l n x;
      is = rw add-one (take-suc-set l n x h);
      beyond = drop-set-lt (n + 1) l n x (omega arith);
    }

pub put_then : (n : ℕ) (xs ys l m k : List ℕ) → Put n xs l m → Put (n + length xs) ys m k → Put n (xs ++ ys) l k
put_then n xs ys l m k f g =
    let e : n + length (xs ++ ys) ≡ n + length xs + length ys = simp length-append (omega arith) in
    record {
      long = g.long ∙ f.long;
      is = rw e (g.is ∙ ap (λ z. z ++ ys) f.is ∙ append_assoc (take n l) xs ys);
      beyond = rw e (g.beyond ∙ sym (drop-drop (length ys) (n + length xs) m) ∙ ap (λ z. drop (length ys) z) f.beyond ∙ drop-drop (length ys) (n + length xs) l);
    }

-- a part that is written over
pub put_part : (n k : ℕ) (xs l m : List ℕ) → m ≡ xs → k ≡ length xs → n + k ≤ length l → Put n xs l (put_mid n k l m)
put_part n k xs l m e f h =
    let t : length (take n l) ≡ n = length-take-le n l (omega arith) in
    let q : length (take n l ++ m) ≡ n + length xs = simp length-append (omega (arith, t, ap length e)) in
    let a = append_assoc (take n l) m (drop k (drop n l)) in
    let d = drop-drop k n l ∙ ap (λ j. drop (n + j) l) f in
    record {
      long = same_len_mid n k l m (omega (arith, ap length e, length-take k (drop n l), length-drop n l));
      is = ap (take (n + length xs)) (sym a) ∙ take_at (take n l ++ m) (drop k (drop n l)) (n + length xs) q ∙ ap (λ x. take n l ++ x) e;
      beyond = ap (drop (n + length xs)) (sym a) ∙ drop_at (take n l ++ m) (drop k (drop n l)) (n + length xs) q ∙ d;
    }

-- a list put number by number
pub put_more : (n i : ℕ) (xs l m : List ℕ) → i < length xs → n + i < length l → Put n (take i xs) l m → Put n (take (i + 1) xs) l (set m (n + i) (get_or xs i 0))
put_more n i xs l m h k f =
    let t : length (take i xs) ≡ i = length-take-le i xs (omega arith) in
    let o = put_one (n + i) (get_or xs i 0) m (omega (arith, f.long)) in
    let g : Put (n + length (take i xs)) (get_or xs i 0 ∷ []) m (set m (n + i) (get_or xs i 0)) = rw t o in
    rw (add-one i, take-suc xs i 0 h) (put_then n (take i xs) (get_or xs i 0 ∷ []) l m (set m (n + i) (get_or xs i 0)) f g)

pub put_whole : {n : ℕ} {l m : List ℕ} (xs : List ℕ) (i : ℕ) → length xs ≤ i → Put n (take i xs) l m → Put n xs l m
put_whole xs i h f = rw take_all at f

pub put_as : {n : ℕ} {xs ys l m : List ℕ} → xs ≡ ys → Put n xs l m → Put n ys l m
put_as e f = rw e at f

-- five in a row
pub put_five : (n a b c d e : ℕ) (l : List ℕ) → n + 5 ≤ length l → Put n (a ∷ (b ∷ (c ∷ (d ∷ (e ∷ []))))) l (set (set (set (set (set l n a) (n + 1) b) (n + 2) c) (n + 3) d) (n + 4) e)
put_five n a b c d e l h =
    let l1 = set l n a in
    let l2 = set l1 (n + 1) b in
    let l3 = set l2 (n + 2) c in
    let l4 = set l3 (n + 3) d in
    let p2 = put_then n (a ∷ []) (b ∷ []) l l1 l2 (put_one n a l (omega arith)) (put_one (n + 1) b l1 (simp length-set (omega arith))) in
    let p3 = put_then n (a ∷ (b ∷ [])) (c ∷ []) l l2 l3 p2 (put_one (n + 2) c l2 (simp length-set (omega arith))) in
    let p4 = put_then n (a ∷ (b ∷ (c ∷ []))) (d ∷ []) l l3 l4 p3 (put_one (n + 3) d l3 (simp length-set (omega arith))) in
    put_then n (a ∷ (b ∷ (c ∷ (d ∷ [])))) (e ∷ []) l l4 (set l4 (n + 4) e) p4 (put_one (n + 4) e l4 (simp length-set (omega arith)))
