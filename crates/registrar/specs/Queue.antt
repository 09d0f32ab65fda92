-- Laws of the model's lists of delayed registrations: what is due below a place and what is left, read by places; and queueing one more.
-- Nothing of storage is here. Assumes nothing.
use Rattle.std.specs.Prelude.{◌≡◌, refl, ◌⊎◌, true, false, cond, ℕ, zero, suc, ◌+◌, ◌≤◌, ◌<◌, eqb, ltb}
use Rattle.std.proofs.Common.{sym, ap, ◌∙◌, inl, inr, arith, ltb-true, ltb-false, eqb-true, eq-eqb, ne_eqb, lt-ltb, le-ltb}
use mathlib.Core.List.Memᴰ
use mathlib.Core.List.{List, [], ◌∷◌, ◌++◌, append_assoc, Memᴰ}
use Rattle.std.proofs.lemmas.Bool.{eqb-false}
use Rattle.rules.specs.Model.{Pending, due, left, queue, push}
use Rattle.laws.specs.ModelBase.{bool_cases}
use Rattle.laws.specs.Delaying.{Sorted, before_le, left_sorted, left_above}
use Rattle.registrar.specs.Delayed.{newest, occurs, pends}

-- every place of ps is at least m
abbrev pub From : ℕ → List Pending → Type 0
From m ps = (x : Pending) → Memᴰ x ps → m ≤ x.under

pub from_tail : (m : ℕ) (x : Pending) (ps : List Pending) → From m (x ∷ ps) → From m ps
from_tail m x ps f y h = f y (Memᴰ.tail h)

-- sorted, so all from the first's place on
pub sorted_from : (m : ℕ) (x : Pending) (ps : List Pending) → Sorted (x ∷ ps) → m ≤ x.under → From m (x ∷ ps)
sorted_from m x ps s k y h = go (Memᴰ.cases_cons h)
  where
    go : (y ≡ x) ⊎ Memᴰ y ps → m ≤ y.under
    go (inl e) = rw e k
    go (inr z) = omega (arith, before_le x y (s.0 y z))

pub push_append : (a b st : List ℕ) → push (a ++ b) st ≡ push b (push a st)
unfolding push
push_append [] b st = refl
push_append (r ∷ a) b st = push_append a b (r ∷ st)

pub push_onto : (a st : List ℕ) → push a st ≡ push a [] ++ st
unfolding push
push_onto [] st = refl
push_onto (r ∷ a) st = push_onto a (r ∷ st) ∙ sym (append_assoc (push a []) (r ∷ []) st) ∙ ap (λ (l : List ℕ). l ++ st) (sym (push_onto a (r ∷ [])))

pub push_twice : (a b : List ℕ) → push (push a b) [] ≡ push b [] ++ a
unfolding push
push_twice [] b = sym (nil (push b []))
  where
    nil : (l : List ℕ) → l ++ [] ≡ l
    nil [] = refl
    nil (x ∷ l) = ap (λ (m : List ℕ). x ∷ m) (nil l)
push_twice (r ∷ a) b = push_twice a (r ∷ b) ∙ ap (λ (l : List ℕ). l ++ a) (push_onto b (r ∷ [])) ∙ append_assoc (push b []) (r ∷ []) a

-- one step of `due` and `left`
due_more : (m : ℕ) (x : Pending) (ps : List Pending) → x.under < m → due m (x ∷ ps) ≡ x.reg ∷ due m ps
unfolding due
due_more m x ps h = rw (lt-ltb x.under m h, due)

due_stop : (m : ℕ) (x : Pending) (ps : List Pending) → m ≤ x.under → due m (x ∷ ps) ≡ []
unfolding due
due_stop m x ps h = rw (le-ltb x.under m h, due)

pub left_more : (m : ℕ) (x : Pending) (ps : List Pending) → x.under < m → left m (x ∷ ps) ≡ left m ps
unfolding left
left_more m x ps h = rw (lt-ltb x.under m h, left)

pub left_stop : (m : ℕ) (x : Pending) (ps : List Pending) → m ≤ x.under → left m (x ∷ ps) ≡ x ∷ ps
unfolding left
left_stop m x ps h = rw (le-ltb x.under m h, left)

pub lt_or_le : (a b : ℕ) → (a < b) ⊎ (b ≤ a)
lt_or_le a b = go (bool_cases (ltb a b))
  where
    go : (ltb a b ≡ true) ⊎ (ltb a b ≡ false) → (a < b) ⊎ (b ≤ a)
    go (inl e) = inl (ltb-true a b e)
    go (inr e) = inr (ltb-false a b e)

-- where all are from m on, nothing is due below m
pub due_none : (m : ℕ) (ps : List Pending) → From m ps → due m ps ≡ []
unfolding due
due_none m [] f = refl
due_none m (x ∷ ps) f = due_stop m x ps (f x (Memᴰ.head refl))

pub left_all : (m : ℕ) (ps : List Pending) → From m ps → left m ps ≡ ps
unfolding left
left_all m [] f = refl
left_all m (x ∷ ps) f = left_stop m x ps (f x (Memᴰ.head refl))

-- in two steps
pub due_split : (m n : ℕ) (ps : List Pending) → m ≤ n → due n ps ≡ due m ps ++ due n (left m ps)
unfolding due left
due_split m n [] k = refl
due_split m n (x ∷ ps) k = go (lt_or_le x.under m) (due_split m n ps k)
  where
    go : (x.under < m) ⊎ (m ≤ x.under) → due n ps ≡ due m ps ++ due n (left m ps) → due n (x ∷ ps) ≡ due m (x ∷ ps) ++ due n (left m (x ∷ ps))
    go (inl h) r = rw (due_more n x ps (omega arith), due_more m x ps h, left_more m x ps h) (ap (λ (l : List ℕ). x.reg ∷ l) r)
    go (inr h) r = rw (due_stop m x ps h, left_stop m x ps h)

pub left_split : (m n : ℕ) (ps : List Pending) → m ≤ n → left n (left m ps) ≡ left n ps
unfolding left
left_split m n [] k = refl
left_split m n (x ∷ ps) k = go (lt_or_le x.under m) (left_split m n ps k)
  where
    go : (x.under < m) ⊎ (m ≤ x.under) → left n (left m ps) ≡ left n ps → left n (left m (x ∷ ps)) ≡ left n (x ∷ ps)
    go (inl h) r = rw (left_more m x ps h, left_more n x ps (omega arith)) r
    go (inr h) r = rw (left_stop m x ps h)

pub left_in : (m : ℕ) (ps : List Pending) (y : Pending) → Memᴰ y (left m ps) → Memᴰ y ps
unfolding left
left_in m [] y h = h
left_in m (x ∷ ps) y h = go (lt_or_le x.under m) (left_in m ps y)
  where
    go : (x.under < m) ⊎ (m ≤ x.under) → (Memᴰ y (left m ps) → Memᴰ y ps) → Memᴰ y (x ∷ ps)
    go (inl k) i = Memᴰ.tail (i (rw (left_more m x ps k) at h))
    go (inr k) i = rw (left_stop m x ps k) at h

-- one step of `newest`
pub newest_same : (p : ℕ) (x : Pending) (ps : List Pending) → x.under ≡ p → newest p (x ∷ ps) ≡ newest p ps ++ (x.reg ∷ [])
unfolding newest
newest_same p x ps e = rw (eq-eqb x.under p e, newest)

newest_other : (p : ℕ) (x : Pending) (ps : List Pending) → (x.under ≡ p → ⊥) → newest p (x ∷ ps) ≡ newest p ps
unfolding newest
newest_other p x ps n = rw (ne_eqb x.under p n, newest)

pub eq_or_ne : (a b : ℕ) → (a ≡ b) ⊎ (a ≡ b → ⊥)
eq_or_ne a b = go (bool_cases (eqb a b))
  where
    go : (eqb a b ≡ true) ⊎ (eqb a b ≡ false) → (a ≡ b) ⊎ (a ≡ b → ⊥)
    go (inl e) = inl (eqb-true a b e)
    go (inr e) = inr (eqb-false a b e)

pub newest_none : (p : ℕ) (ps : List Pending) → From (suc p) ps → newest p ps ≡ []
unfolding newest
newest_none p [] f = refl
newest_none p (x ∷ ps) f = newest_other p x ps (λ e. omega (arith, f x (Memᴰ.head refl))) ∙ newest_none p ps (from_tail (suc p) x ps f)

-- what is left holds all of a place from m on
pub newest_left : (m q : ℕ) (ps : List Pending) → m ≤ q → newest q (left m ps) ≡ newest q ps
unfolding newest left
newest_left m q [] k = refl
newest_left m q (x ∷ ps) k = go (lt_or_le x.under m) (newest_left m q ps k)
  where
    go : (x.under < m) ⊎ (m ≤ x.under) → newest q (left m ps) ≡ newest q ps → newest q (left m (x ∷ ps)) ≡ newest q (x ∷ ps)
    go (inl h) i = rw (left_more m x ps h) (i ∙ sym (newest_other q x ps (λ e. omega arith)))
    go (inr h) i = rw (left_stop m x ps h)

-- the lowest place's registrations are those due below the next
pub newest_due : (p : ℕ) (ps : List Pending) → Sorted ps → From p ps → newest p ps ≡ push (due (suc p) ps) []
unfolding newest due push
newest_due p [] s f = refl
newest_due p (x ∷ ps) s f = go (eq_or_ne x.under p) (newest_due p ps s.1 (from_tail p x ps f))
  where
    go : (x.under ≡ p) ⊎ (x.under ≡ p → ⊥) → newest p ps ≡ push (due (suc p) ps) [] → newest p (x ∷ ps) ≡ push (due (suc p) (x ∷ ps)) []
    go (inl e) i =
        rw (newest_same p x ps e, due_more (suc p) x ps (omega arith), push)
        (ap (λ (l : List ℕ). l ++ (x.reg ∷ [])) i ∙ sym (push_onto (due (suc p) ps) (x.reg ∷ [])))
    go (inr n) i =
        let k : suc p ≤ x.under = omega (arith, f x (Memᴰ.head refl), n) in
        rw (due_stop (suc p) x ps k) (newest_none p (x ∷ ps) (sorted_from (suc p) x ps s k))

-- the chains of the n places from lo on, the highest place first, are what is due, turned round
abbrev pub down : (ℕ → List ℕ) → ℕ → ℕ → List ℕ
down ch lo zero = []
down ch lo (suc n) = ch (lo + n) ++ down ch lo n

pub down_due : (lo n : ℕ) (ps : List Pending) → Sorted ps → From lo ps → down (λ q. newest q ps) lo n ≡ push (due (lo + n) ps) []
unfolding push
down_due lo zero ps s f = let e : lo + 0 ≡ lo = omega arith in rw (e, due_none lo ps f)
down_due lo (suc n) ps s f =
    let e : lo + suc n ≡ suc (lo + n) = omega arith in
    let m : ℕ = lo + n in
    let a : newest m ps ≡ push (due (suc m) (left m ps)) [] = sym (newest_left m m ps (omega arith)) ∙ newest_due m (left m ps) (left_sorted m ps s) (left_above m ps s) in
    let b : push (due (suc m) ps) [] ≡ push (due (suc m) (left m ps)) [] ++ push (due m ps) [] =
    ap (λ (l : List ℕ). push l []) (due_split m (suc m) ps (omega arith)) ∙ push_append (due m ps) (due (suc m) (left m ps)) [] ∙ push_onto (due (suc m) (left m ps)) (push (due m ps) []) in
    rw e (ap (λ (l : List ℕ). l ++ down (λ q. newest q ps) lo n) a ∙ ap (λ (l : List ℕ). push (due (suc m) (left m ps)) [] ++ l) (down_due lo n ps s f) ∙ sym b)

-- counts
pub occurs_append : (r : ℕ) (a b : List ℕ) → occurs r (a ++ b) ≡ occurs r a + occurs r b
unfolding occurs
occurs_append r [] b = omega arith
occurs_append r (x ∷ a) b = omega (arith, occurs_append r a b)

pub occurs_push : (r : ℕ) (a b : List ℕ) → occurs r (push a b) ≡ occurs r a + occurs r b
unfolding occurs push
occurs_push r [] b = omega arith
occurs_push r (x ∷ a) b = omega (arith, occurs_push r a (x ∷ b))

pub pends_split : (r m : ℕ) (ps : List Pending) → pends r ps ≡ occurs r (due m ps) + pends r (left m ps)
unfolding occurs pends due left
pends_split r m [] = refl
pends_split r m (x ∷ ps) = go (lt_or_le x.under m) (pends_split r m ps)
  where
    go : (x.under < m) ⊎ (m ≤ x.under) → pends r ps ≡ occurs r (due m ps) + pends r (left m ps) → pends r (x ∷ ps) ≡ occurs r (due m (x ∷ ps)) + pends r (left m (x ∷ ps))
    go (inl h) i = rw (due_more m x ps h, left_more m x ps h, occurs, pends) (omega arith)
    go (inr h) i = rw (due_stop m x ps h, left_stop m x ps h, occurs) (omega arith)

pub newest_pends : (r p : ℕ) (ps : List Pending) → occurs r (newest p ps) ≤ pends r ps
unfolding newest occurs pends
newest_pends r p [] = omega arith
newest_pends r p (x ∷ ps) = go (eq_or_ne x.under p) (newest_pends r p ps)
  where
    go : (x.under ≡ p) ⊎ (x.under ≡ p → ⊥) → occurs r (newest p ps) ≤ pends r ps → occurs r (newest p (x ∷ ps)) ≤ pends r (x ∷ ps)
    go (inl e) i = rw (newest_same p x ps e, occurs_append r (newest p ps) (x.reg ∷ []), pends, occurs) (omega arith)
    go (inr n) i = rw (newest_other p x ps n, pends) (omega arith)

-- a registration waits under one place at most
pub newest_apart : (r p q : ℕ) (ps : List Pending) → (p ≡ q → ⊥) → occurs r (newest p ps) + occurs r (newest q ps) ≤ pends r ps
unfolding newest occurs pends
newest_apart r p q [] k = omega arith
newest_apart r p q (x ∷ ps) k = go (eq_or_ne x.under p) (eq_or_ne x.under q) (newest_apart r p q ps k)
  where
    go : (x.under ≡ p) ⊎ (x.under ≡ p → ⊥) → (x.under ≡ q) ⊎ (x.under ≡ q → ⊥) → occurs r (newest p ps) + occurs r (newest q ps) ≤ pends r ps
        → occurs r (newest p (x ∷ ps)) + occurs r (newest q (x ∷ ps)) ≤ pends r (x ∷ ps)
    go (inl e) (inl d) i = absurd (k (sym e ∙ d))
    go (inl e) (inr d) i = rw (newest_same p x ps e, newest_other q x ps d, occurs_append r (newest p ps) (x.reg ∷ []), pends, occurs) (omega arith)
    go (inr e) (inl d) i = rw (newest_other p x ps e, newest_same q x ps d, occurs_append r (newest q ps) (x.reg ∷ []), pends, occurs) (omega arith)
    go (inr e) (inr d) i = rw (newest_other p x ps e, newest_other q x ps d, pends) (omega arith)

-- queueing
queue_first : (x y : Pending) (ps : List Pending) → x.under < y.under → queue x (y ∷ ps) ≡ x ∷ (y ∷ ps)
unfolding queue
queue_first x y ps h = rw (lt-ltb x.under y.under h, queue)

queue_later : (x y : Pending) (ps : List Pending) → y.under ≤ x.under → queue x (y ∷ ps) ≡ y ∷ queue x ps
unfolding queue
queue_later x y ps h = rw (le-ltb x.under y.under h, queue)

pub queue_in : (x : Pending) (ps : List Pending) (z : Pending) → Memᴰ z (queue x ps) → (z ≡ x) ⊎ Memᴰ z ps
unfolding queue
queue_in x [] z h = Memᴰ.cases_cons h
queue_in x (y ∷ ps) z h = go (lt_or_le x.under y.under) (queue_in x ps z)
  where
    next : (z ≡ x) ⊎ Memᴰ z ps → (z ≡ x) ⊎ Memᴰ z (y ∷ ps)
    next (inl e) = inl e
    next (inr k) = inr (Memᴰ.tail k)

    more : (Memᴰ z (queue x ps) → (z ≡ x) ⊎ Memᴰ z ps) → (z ≡ y) ⊎ Memᴰ z (queue x ps) → (z ≡ x) ⊎ Memᴰ z (y ∷ ps)
    more i (inl e) = inr (Memᴰ.head e)
    more i (inr k) = next (i k)

    go : (x.under < y.under) ⊎ (y.under ≤ x.under) → (Memᴰ z (queue x ps) → (z ≡ x) ⊎ Memᴰ z ps) → (z ≡ x) ⊎ Memᴰ z (y ∷ ps)
    go (inl k) i = Memᴰ.cases_cons (rw (queue_first x y ps k) at h)
    go (inr k) i = more i (Memᴰ.cases_cons (rw (queue_later x y ps k) at h))

pub queue_pends : (r : ℕ) (x : Pending) (ps : List Pending) → pends r (queue x ps) ≡ cond {A = ℕ} (eqb r x.reg) 1 0 + pends r ps
unfolding queue pends
queue_pends r x [] = refl
queue_pends r x (y ∷ ps) = go (lt_or_le x.under y.under) (queue_pends r x ps)
  where
    go : (x.under < y.under) ⊎ (y.under ≤ x.under) → pends r (queue x ps) ≡ cond {A = ℕ} (eqb r x.reg) 1 0 + pends r ps
        → pends r (queue x (y ∷ ps)) ≡ cond {A = ℕ} (eqb r x.reg) 1 0 + pends r (y ∷ ps)
    go (inl k) i = rw (queue_first x y ps k, pends)
    go (inr k) i = rw (queue_later x y ps k, pends) (omega arith)

pub queue_newest : (x : Pending) (ps : List Pending) → Sorted ps → newest x.under (queue x ps) ≡ x.reg ∷ newest x.under ps
unfolding queue newest
queue_newest x [] s = newest_same x.under x [] refl
queue_newest x (y ∷ ps) s = go (lt_or_le x.under y.under) (queue_newest x ps s.1)
  where
    go : (x.under < y.under) ⊎ (y.under ≤ x.under) → newest x.under (queue x ps) ≡ x.reg ∷ newest x.under ps → newest x.under (queue x (y ∷ ps)) ≡ x.reg ∷ newest x.under (y ∷ ps)
    go (inl k) i =
        let e : newest x.under (y ∷ ps) ≡ [] = newest_none x.under (y ∷ ps) (sorted_from (suc x.under) y ps s k) in
        rw (queue_first x y ps k) (newest_same x.under x (y ∷ ps) refl ∙ ap (λ (l : List ℕ). l ++ (x.reg ∷ [])) e ∙ ap (λ (l : List ℕ). x.reg ∷ l) (sym e))
    go (inr k) i = rw (queue_later x y ps k) (at (eq_or_ne y.under x.under))
      where
        at : (y.under ≡ x.under) ⊎ (y.under ≡ x.under → ⊥) → newest x.under (y ∷ queue x ps) ≡ x.reg ∷ newest x.under (y ∷ ps)
        at (inl e) = newest_same x.under y (queue x ps) e ∙ ap (λ (l : List ℕ). l ++ (y.reg ∷ [])) i ∙ ap (λ (l : List ℕ). x.reg ∷ l) (sym (newest_same x.under y ps e))
        at (inr n) = newest_other x.under y (queue x ps) n ∙ i ∙ ap (λ (l : List ℕ). x.reg ∷ l) (sym (newest_other x.under y ps n))

pub queue_others : (q : ℕ) (x : Pending) (ps : List Pending) → (x.under ≡ q → ⊥) → newest q (queue x ps) ≡ newest q ps
unfolding queue newest
queue_others q x [] n = newest_other q x [] n
queue_others q x (y ∷ ps) n = go (lt_or_le x.under y.under) (queue_others q x ps n)
  where
    go : (x.under < y.under) ⊎ (y.under ≤ x.under) → newest q (queue x ps) ≡ newest q ps → newest q (queue x (y ∷ ps)) ≡ newest q (y ∷ ps)
    go (inl k) i = rw (queue_first x y ps k) (newest_other q x (y ∷ ps) n)
    go (inr k) i = rw (queue_later x y ps k) (at (eq_or_ne y.under q))
      where
        at : (y.under ≡ q) ⊎ (y.under ≡ q → ⊥) → newest q (y ∷ queue x ps) ≡ newest q (y ∷ ps)
        at (inl e) = newest_same q y (queue x ps) e ∙ ap (λ (l : List ℕ). l ++ (y.reg ∷ [])) i ∙ sym (newest_same q y ps e)
        at (inr m) = newest_other q y (queue x ps) m ∙ i ∙ sym (newest_other q y ps m)

-- one later than all that wait does not wait
pub pends_none : (r : ℕ) (ps : List Pending) → ((y : Pending) → Memᴰ y ps → y.reg < r) → pends r ps ≡ 0
unfolding pends
pends_none r [] h = refl
pends_none r (x ∷ ps) h =
    let n : eqb r x.reg ≡ false = ne_eqb r x.reg (λ e. omega (arith, h x (Memᴰ.head refl))) in
    rw n (omega (arith, pends_none r ps (λ y k. h y (Memᴰ.tail k))))
