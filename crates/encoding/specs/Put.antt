-- A set or an add put down as numbers, and the laws by which it is read again as that call. Assumes nothing.
use Rattle.std.specs.Prelude.{◌≡◌, refl, List, [], ◌∷◌, ◌++◌, ◌⊎◌, ℕ, suc, ◌+◌, ◌≤◌, length, get_or, take, drop, set}
use Rattle.std.proofs.Common.{ap, ◌∙◌, inl, inr, arith, length-drop, length-set, length-take-le, take_all, take_at, drop-set-lt}
use Rattle.std.proofs.Math.Bool.{true}
use Rattle.std.proofs.Math.Option.{some}
use Rattle.std.proofs.Math.Dec.{leb}
use Rattle.std.proofs.Math.ListN.{length-append, drop_of_length-le}
use Rattle.std.proofs.Math.Seq.{drop_at, take-append-add}
use Rattle.std.proofs.lemmas.List.{set_split}
use borrow.Author.Tests.{le-leb}
use Rattle.rules.specs.Calls.{Call, set as set_call, add as add_call}
use Rattle.rules.specs.Encoding.{set_tag, lane_add_tag, counted, set_front, add_outs, add_front, lane_front, front}

-- how many numbers stand before the inputs of an add whose lane is told: its tag, the lane, the count of inputs
abbrev pub before_inputs : ℕ
before_inputs = 3

-- the call c stands alone in the first r numbers, and what lies past them is as it was
pub record Put (c : Call) (entry exit : List ℕ) (r : ℕ) : Type 0 where
  pub is : front (take r exit) ≡ some (record { call = c; rest = [] })
  pub tag : (get_or (take r exit) 0 0 ≡ set_tag) ⊎ (get_or (take r exit) 0 0 ≡ lane_add_tag)
  pub positive : 1 ≤ r
  pub within : r ≤ length exit
  pub past : drop r exit ≡ drop r entry

pub put_set : (l : List ℕ) (x : ℕ) → 2 ≤ length l → Put (set_call x) l (set (set l 0 set_tag) 1 x) 2
unfolding front set_front
put_set [] x h = absurd (omega arith)
put_set (a ∷ []) x h = absurd (omega arith)
put_set (a ∷ b ∷ l) x h = record { is = refl; tag = inl refl; positive = omega arith; within = omega arith; past = refl }

-- a list after its count n, with what follows it and at the end of the numbers
module _ (n : ℕ) (xs : List ℕ) (many : length xs ≡ n) where
  counted_list : (ys : List ℕ) → counted (n ∷ xs ++ ys) ≡ some (record { items = xs; rest = ys })
  unfolding counted
  counted_list ys =
      let e : leb n (length (xs ++ ys)) ≡ true = le-leb n (length (xs ++ ys)) (omega (arith, length-append xs ys)) in
      rw (e, counted) (rw (take_at xs ys n many, drop_at xs ys n many))

  counted_last : counted (n ∷ xs) ≡ some (record { items = xs; rest = [] })
  unfolding counted
  counted_last =
      let e : leb n (length xs) ≡ true = le-leb n (length xs) (omega arith) in
      rw (e, counted) (rw (take_all n xs (omega arith), drop_of_length-le xs {i = n} (omega arith)))

module _ (lane i o : ℕ) where
  -- an add as numbers is read as that add
  front_of_add : (ins outs : List ℕ) → length ins ≡ i → length outs ≡ o
      → front (lane_add_tag ∷ lane ∷ i ∷ ins ++ o ∷ outs) ≡ some (record { call = add_call lane ins outs; rest = [] })
  unfolding front lane_front add_front add_outs
  front_of_add ins outs m n = rw (counted_list i ins m (o ∷ outs), add_front) (rw (counted_last o outs n, add_outs))

  module _ (l : List ℕ) (h : i + o + 1 ≤ length l) where
    -- behind the first three numbers: the inputs, the outputs' count, the outputs
    lists_stand : take (i + 1 + o) (set l i o) ≡ take i l ++ o ∷ take o (drop (suc i) l)
    lists_stand =
        let k : i + 1 + o ≡ length (take i l) + suc o = omega (arith, length-take-le i l (omega arith)) in
        ap (take (i + 1 + o)) (set_split l i o (omega arith))
        ∙ ap (λ (n : ℕ). take n (take i l ++ o ∷ drop (suc i) l)) k
        ∙ take-append-add (take i l) (o ∷ drop (suc i) l) (suc o)

    put_behind : (a b c : ℕ) → Put (add_call lane (take i l) (take o (drop (suc i) l))) (a ∷ b ∷ c ∷ l) (lane_add_tag ∷ lane ∷ i ∷ set l i o) (suc (suc (suc (i + 1 + o))))
    put_behind a b c =
        let m : length (take i l) ≡ i = length-take-le i l (omega arith) in
        let n : length (take o (drop (suc i) l)) ≡ o = length-take-le o (drop (suc i) l) (rw (length-drop (suc i) l) (omega arith)) in
        record {
          is = ap (λ (z : List ℕ). front (lane_add_tag ∷ lane ∷ i ∷ z)) lists_stand ∙ front_of_add (take i l) (take o (drop (suc i) l)) m n;
          tag = inr refl;
          positive = omega arith;
          within = omega (arith, length-set l i o);
          past = drop-set-lt (i + 1 + o) l i o (omega arith);
        }

  pub put_add : (l : List ℕ) → i + o + 4 ≤ length l
      → Put (add_call lane (take i (drop 3 l)) (take o (drop (i + 4) l))) l (set (set (set (set l 0 lane_add_tag) 1 lane) 2 i) (3 + i) o) (3 + i + 1 + o)
  put_add [] h = absurd (omega arith)
  put_add (a ∷ []) h = absurd (omega arith)
  put_add (a ∷ b ∷ []) h = absurd (omega arith)
  put_add (a ∷ b ∷ c ∷ l) h =
      let r : 3 + i + 1 + o ≡ suc (suc (suc (i + 1 + o))) = omega arith in
      let m : 3 + i ≡ suc (suc (suc i)) = omega arith in
      let k : i + 4 ≡ suc (suc (suc (suc i))) = omega arith in
      rw (r, m, k) (put_behind l (omega arith) a b c)
