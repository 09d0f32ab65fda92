-- Part of a list filled with zeros, and the law by which std's `fill` gives it. Assumes nothing.
use Rattle.std.specs.Prelude.{◌≡◌, List, ℕ, ◌+◌, ◌-◌, ◌≤◌, ◌<◌, length, get_or, take, drop, replicate}
use Rattle.std.proofs.Common.{sym, ap, ◌∙◌, subst, arith, length-take, length-drop, length-take-le, get_or-take, get_or-drop}
use Rattle.std.proofs.Math.ListN.{get_or-append}
use Rattle.std.proofs.Math.Seq.{drop_at}
use Rattle.std.proofs.lemmas.List.{length-replicate, get_or-replicate}
use Rattle.std.proofs.lemmas.Slice.{take-put_mid_below, drop-put_mid}
use borrow.Rule.Slice.PartMut.{put_mid, same_len_mid}
use Rattle.std.specs.Prelude.{refl, set}
use Rattle.std.proofs.Common.{length-set, get_or-set_same, get_or-set_other, drop-set-lt}
use Rattle.std.proofs.Math.Decide.{ℕ_discrete}
use Rattle.std.proofs.lemmas.List.{take-set-le}

-- the numbers from a up to b are 0, all others are as they were
pub record Cleared (a b : ℕ) (l m : List ℕ) : Type 0 where
  pub long : length m ≡ length l
  pub before : take a m ≡ take a l
  pub zero : (i : ℕ) → a ≤ i → i < b → get_or m i 0 ≡ 0
  pub beyond : drop b m ≡ drop b l

-- the loop at i: the numbers from a up to i are 0, and it stays within b
pub record Clearing (a b i : ℕ) (l m : List ℕ) : Type 0 where
  pub from : a ≤ i
  pub upto : i ≤ b
  pub inside : b ≤ length l
  pub long : length m ≡ length l
  pub before : take a m ≡ take a l
  pub zero : (j : ℕ) → a ≤ j → j < i → get_or m j 0 ≡ 0
  pub beyond : drop b m ≡ drop b l

pub clear_start : (a b : ℕ) (l : List ℕ) → a ≤ b → b ≤ length l → Clearing a b a l l
clear_start a b l h k =
    record { from = omega arith; upto = h; inside = k; long = refl; before = refl; zero = λ j x y. absurd (omega arith); beyond = refl }

pub clear_turn : (a b i : ℕ) (l m : List ℕ) → i < b → Clearing a b i l m → Clearing a b (i + 1) l (set m i 0)
clear_turn a b i l m h c =
    record {
      from = omega (arith, c.from);
      upto = omega arith;
      inside = c.inside;
      long = length-set m i 0 ∙ c.long;
      before = take-set-le a m i 0 c.from ∙ c.before;
      zero = λ j x y. go j x y;
      beyond = drop-set-lt b m i 0 h ∙ c.beyond;
    }
  where
    go : (j : ℕ) → a ≤ j → j < i + 1 → get_or (set m i 0) j 0 ≡ 0
    go j x y = elim (ℕ_discrete j i) [ yes e ↦ rw e (get_or-set_same m i 0 0 (omega (arith, c.inside, c.long))) | no n ↦ get_or-set_other m i j 0 0 n ∙ c.zero j x (omega (arith, n)) ]

pub clear_end : (a b i : ℕ) (l m : List ℕ) → b ≤ i → Clearing a b i l m → Cleared a b l m
clear_end a b i l m h c = record { long = c.long; before = c.before; zero = λ j x y. c.zero j x (omega arith); beyond = c.beyond }

-- after `s[a..b].fill(0)`: k is b - a, l is what s held, and m is what the part holds now
pub cleared_fill : (a b k : ℕ) (l m : List ℕ) → m ≡ replicate k 0 → k ≡ b - a → a ≤ b → b ≤ length l → Cleared a b l (put_mid a k l m)
cleared_fill a b k l m e d h q =
    record {
      long = same_len_mid a k l m (omega (arith, m_long, length-take k (drop a l), length-drop a l));
      before = take-put_mid_below a k l m a (omega arith) (omega arith);
      zero = go;
      beyond = drop-put_mid a k l m b (omega arith) (omega arith) m_long;
    }
  where
    m_long : length m ≡ k
    m_long = ap length e ∙ length-replicate k 0

    go : (i : ℕ) → a ≤ i → i < b → get_or (put_mid a k l m) i 0 ≡ 0
    go i x y =
        let j : i - a < k = omega arith in
        subst (λ (n : ℕ). get_or (put_mid a k l m) n 0 ≡ 0) (let n : a + (i - a) ≡ i = omega arith in n) (
        sym (get_or-drop a (put_mid a k l m) (i - a) 0) ∙ ap (λ (x : List ℕ). get_or x (i - a) 0) (drop_at (take a l) _ a (length-take-le a l (omega arith)))
        ∙ get_or-append m _ 0 (i - a) (omega (arith, m_long)) ∙ ap (λ (x : List ℕ). get_or x (i - a) 0) e ∙ get_or-replicate k (i - a) 0 0 j
        )

-- what lies before a or from b on, number by number
module _ {a b : ℕ} {l m : List ℕ} (c : Cleared a b l m) where
  pub cleared_below : (i : ℕ) → i < a → get_or m i 0 ≡ get_or l i 0
  cleared_below i h = sym (get_or-take a m i 0 h) ∙ ap (λ (x : List ℕ). get_or x i 0) c.before ∙ get_or-take a l i 0 h

  pub cleared_beyond : (i : ℕ) → b ≤ i → get_or m i 0 ≡ get_or l i 0
  cleared_beyond i h =
      let j : b + (i - b) ≡ i = omega arith in
      subst (λ (x : ℕ). get_or m x 0 ≡ get_or l x 0) j (sym (get_or-drop b m (i - b) 0) ∙ ap (λ (x : List ℕ). get_or x (i - b) 0) c.beyond ∙ get_or-drop b l (i - b) 0)
