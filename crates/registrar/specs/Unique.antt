-- The delayed registrations that are read from storage are the model's, and the stack is read in one way only. Assumes nothing.
use Rattle.std.specs.Prelude.{◌≡◌, refl, ◌⊎◌, ℕ, zero, suc, ◌+◌, ◌-◌, ◌≤◌, ◌<◌}
use Rattle.std.proofs.Common.{sym, ◌∙◌, ap, inl, inr, arith}
use mathlib.Core.List.{List, [], ◌∷◌, ◌++◌, Memᴰ}
use Rattle.rules.specs.Model.{Pending, left}
use Rattle.laws.specs.Delaying.{Sorted, left_sorted, left_above}
use Rattle.registrar.specs.Reading.{head_at, link_at, chain_from, onto, reading, waiting_in}
use Rattle.registrar.specs.Delayed.{newest, Chain, Delayed}
use Rattle.registrar.specs.Queue.{From, from_tail, eq_or_ne, left_in, newest_left, newest_none, newest_same, left_more, left_stop, sorted_from}
use Rattle.registrar.specs.Chains.{linked_unique}

onto_append : (p : ℕ) (a b : List ℕ) (ps : List Pending) → onto p (a ++ b) ps ≡ onto p b (onto p a ps)
onto_append p [] b ps = refl
onto_append p (r ∷ a) b ps = onto_append p a b (record { under = p; reg = r } ∷ ps)

reading_same : (n p : ℕ) (ch ch' : ℕ → List ℕ) → ((q : ℕ) → p ≤ q → q < p + n → ch q ≡ ch' q) → reading n p ch ≡ reading n p ch'
reading_same zero p ch ch' h = refl
reading_same (suc n) p ch ch' h = rw (h p (omega arith) (omega arith), reading_same n (suc p) ch ch' (λ q a b. h q (omega arith) (omega arith)))

-- the lowest place's chain in front of the rest
one_place : (p : ℕ) (ps : List Pending) → Sorted ps → From p ps → ps ≡ onto p (newest p ps) (left (suc p) ps)
unfolding newest left
one_place p [] s f = refl
one_place p (x ∷ ps) s f = go (eq_or_ne x.under p) (one_place p ps s.1 (from_tail p x ps f))
  where
    go : (x.under ≡ p) ⊎ (x.under ≡ p → ⊥) → ps ≡ onto p (newest p ps) (left (suc p) ps) → x ∷ ps ≡ onto p (newest p (x ∷ ps)) (left (suc p) (x ∷ ps))
    go (inl e) i =
        let y : x ≡ record { under = p; reg = x.reg } = ap (λ (u : ℕ). record { under = u; reg = x.reg }) e in
        rw (newest_same p x ps e, left_more (suc p) x ps (omega arith), onto_append p (newest p ps) (x.reg ∷ []) (left (suc p) ps))
        (ap (λ (l : List Pending). x ∷ l) i ∙ ap (λ (z : Pending). z ∷ onto p (newest p ps) (left (suc p) ps)) y)
    go (inr n) i =
        let k : suc p ≤ x.under = omega (arith, f x (Memᴰ.head refl), n) in
        rw (left_stop (suc p) x ps k, newest_none p (x ∷ ps) (sorted_from (suc p) x ps s k))

-- a sorted list is what its places' chains say
read_back : (n p : ℕ) (ps : List Pending) → Sorted ps → From p ps → ((x : Pending) → Memᴰ x ps → x.under < p + n) → ps ≡ reading n p (λ q. newest q ps)
read_back zero p [] s f b = refl
read_back zero p (x ∷ ps) s f b = absurd (omega (arith, f x (Memᴰ.head refl), b x (Memᴰ.head refl)))
read_back (suc n) p ps s f b =
    let r : left (suc p) ps ≡ reading n (suc p) (λ q. newest q (left (suc p) ps)) =
    read_back n (suc p) (left (suc p) ps) (left_sorted (suc p) ps s) (left_above (suc p) ps s) (λ x h. omega (arith, b x (left_in (suc p) ps x h))) in
    let c : reading n (suc p) (λ q. newest q (left (suc p) ps)) ≡ reading n (suc p) (λ q. newest q ps) =
    reading_same n (suc p) (λ q. newest q (left (suc p) ps)) (λ q. newest q ps) (λ q a z. newest_left (suc p) q ps a) in
    one_place p ps s f ∙ ap (onto p (newest p ps)) (r ∙ c)

-- a chain whose registrations descend from n ends within n steps
chain_read : (f : ℕ) (w : List ℕ) (v n h : ℕ) (l : List ℕ) → n ≤ f → Chain w v n h l → chain_from f w v h ≡ l
unfolding chain_from
chain_read zero w v n h [] k c = refl
chain_read zero w v n h (r ∷ l) k c = absurd (omega (arith, c.1))
chain_read (suc f) w v n h [] k c = rw c
chain_read (suc f) w v n h (r ∷ l) k c = rw c.0 (ap (λ (x : List ℕ). r ∷ x) (chain_read f w v r (link_at w v r) l (omega (arith, c.1)) c.2))

-- those read are those that wait
pub pending_read : (w : List ℕ) (v lo : ℕ) (ps : List Pending) (top : ℕ) (st : List ℕ) → Delayed w v lo ps top st → waiting_in w v lo ≡ ps
unfolding waiting_in
pending_read w v lo ps top st d =
    reading_same (v - lo) lo (λ q. chain_from v w v (head_at w q)) (λ q. newest q ps) (λ q a b. chain_read v w v v (head_at w q) (newest q ps) (omega arith) (d.chains q a (omega arith)))
    ∙ sym (read_back (v - lo) lo ps d.sorted (λ x h. (d.within x h).0) (λ x h. omega (arith, d.within x h)))

module _ (w : List ℕ) (v lo : ℕ) (ps : List Pending) (top : ℕ) (st : List ℕ) (ps' : List Pending) (st' : List ℕ) (d : Delayed w v lo ps top st) (e : Delayed w v lo ps' top st') where
  pub stack_unique : st ≡ st'
  stack_unique = linked_unique w v top st st' d.stack e.stack

  pub pending_unique : ps ≡ ps'
  pending_unique = sym (pending_read w v lo ps top st d) ∙ pending_read w v lo ps' top st' e
