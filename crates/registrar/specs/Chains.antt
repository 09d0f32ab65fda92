-- Laws of chains and of the stack in storage: which stores leave them, turning a chain round onto the stack, splicing it as it is, and
-- that each is read in one way only. Assumes nothing.
use Rattle.std.specs.Prelude.{◌≡◌, refl, ◌⊎◌, List, [], ◌∷◌, ◌++◌, ℕ, suc, ◌+◌, ◌*◌, ◌≤◌, ◌<◌, length, set}
use Rattle.std.proofs.Common.{sym, ◌∙◌, subst, inl, inr, suc-ne-zero, arith, length-set, get_or-set_same, get_or-set_other, drop-set-lt, eq-eqb}
use Rattle.std.proofs.Math.Nat.{suc_inj}
use Rattle.std.proofs.lemmas.List.{take-set-le}
use Rattle.rules.specs.Model.{push}
use Rattle.registrar.specs.Reading.{head_at, link_at}
use Rattle.registrar.specs.Delayed.{with_link, Chain, Linked, relinked, top_of, last_of, spliced, head_of, occurs, LinksOnly}

-- r is one of a list
abbrev pub In : ℕ → List ℕ → Type 0
In r [] = ⊥
In r (x ∷ l) = (x ≡ r) ⊎ In r l

pub in_occurs : (r : ℕ) (l : List ℕ) → In r l → 1 ≤ occurs r l
unfolding occurs
in_occurs r [] h = elim h [ ]
in_occurs r (x ∷ l) (inl e) = rw (eq-eqb r x (sym e)) (omega arith)
in_occurs r (x ∷ l) (inr h) = omega (arith, in_occurs r l h)

-- only the cells of the links matter
pub chain_same : (w w' : List ℕ) (v n h : ℕ) (l : List ℕ) → ((r : ℕ) → In r l → link_at w' v r ≡ link_at w v r) → Chain w v n h l → Chain w' v n h l
chain_same w w' v n h [] same c = c
chain_same w w' v n h (r ∷ l) same c =
    (c.0, c.1, subst (λ (k : ℕ). Chain w' v r k l) (sym (same r (inl refl))) (chain_same w w' v r (link_at w v r) l (λ q m. same q (inr m)) c.2))

pub linked_same : (w w' : List ℕ) (v h : ℕ) (l : List ℕ) → ((r : ℕ) → In r l → link_at w' v r ≡ link_at w v r) → Linked w v h l → Linked w' v h l
linked_same w w' v h [] same c = c
linked_same w w' v h (r ∷ l) same c =
    (c.0, c.1, subst (λ (k : ℕ). Linked w' v k l) (sym (same r (inl refl))) (linked_same w w' v (link_at w v r) l (λ q m. same q (inr m)) c.2))

-- a store at a place other than their links leaves them
pub chain_frame : (w : List ℕ) (v n i x h : ℕ) (l : List ℕ) → ((r : ℕ) → In r l → v + r ≡ i → ⊥) → Chain w v n h l → Chain (set w i x) v n h l
chain_frame w v n i x h l out c = chain_same w (set w i x) v n h l (λ r m. get_or-set_other w i (v + r) x 0 (out r m)) c

pub linked_frame : (w : List ℕ) (v i x h : ℕ) (l : List ℕ) → ((r : ℕ) → In r l → v + r ≡ i → ⊥) → Linked w v h l → Linked (set w i x) v h l
linked_frame w v i x h l out c = linked_same w (set w i x) v h l (λ r m. get_or-set_other w i (v + r) x 0 (out r m)) c

pub chain_le : (w : List ℕ) (v n h : ℕ) (l : List ℕ) → Chain w v n h l → h ≤ n
chain_le w v n h [] c = omega (arith, c)
chain_le w v n h (r ∷ l) c = omega (arith, c.0, c.1)

-- all of a chain are below its bound
pub chain_below : (w : List ℕ) (v n h : ℕ) (l : List ℕ) → Chain w v n h l → (r : ℕ) → In r l → r < n
chain_below w v n h [] c r m = elim m [ ]
chain_below w v n h (q ∷ l) c r (inl e) = omega (arith, c.1)
chain_below w v n h (q ∷ l) c r (inr m) = omega (arith, c.1, chain_below w v q (link_at w v q) l c.2 r m)

-- another bound for a chain whose newest is below it
pub chain_bound : (w : List ℕ) (v n m h : ℕ) (l : List ℕ) → ((r : ℕ) → In r l → r < m) → Chain w v n h l → Chain w v m h l
chain_bound w v n m h [] k c = c
chain_bound w v n m h (r ∷ l) k c = (c.0, k r (inl refl), c.2)

-- read in one way only
pub chain_unique : (w : List ℕ) (v n m h : ℕ) (l l' : List ℕ) → Chain w v n h l → Chain w v m h l' → l ≡ l'
chain_unique w v n m h [] [] c d = refl
chain_unique w v n m h [] (r ∷ l') c d = absurd (suc-ne-zero r (sym d.0 ∙ c))
chain_unique w v n m h (r ∷ l) [] c d = absurd (suc-ne-zero r (sym c.0 ∙ d))
chain_unique w v n m h (r ∷ l) (r' ∷ l') c d =
    let e : r ≡ r' = suc_inj (sym c.0 ∙ d.0) in
    let t : l ≡ l' = chain_unique w v r r' (link_at w v r) l l' c.2 (rw e d.2) in
    cc

pub linked_unique : (w : List ℕ) (v h : ℕ) (l l' : List ℕ) → Linked w v h l → Linked w v h l' → l ≡ l'
linked_unique w v h [] [] c d = refl
linked_unique w v h [] (r ∷ l') c d = absurd (suc-ne-zero r (sym d.0 ∙ c))
linked_unique w v h (r ∷ l) [] c d = absurd (suc-ne-zero r (sym c.0 ∙ d))
linked_unique w v h (r ∷ l) (r' ∷ l') c d =
    let e : r ≡ r' = suc_inj (sym c.0 ∙ d.0) in
    let t : l ≡ l' = linked_unique w v (link_at w v r) l l' c.2 (rw e d.2) in
    cc

-- only links have changed: kept by a store to a link, and transitive
pub links_set : (w : List ℕ) (v r x : ℕ) → r < v → LinksOnly w v (with_link w v r x)
links_set w v r x h = record { heads = take-set-le v w (v + r) x (omega arith); aside = record { rest = drop-set-lt (2 * v) w (v + r) x (omega arith) } }

pub links_refl : (w : List ℕ) (v : ℕ) → LinksOnly w v w
links_refl w v = record { heads = refl; aside = record { rest = refl } }

pub links_trans : (a b c : List ℕ) (v : ℕ) → LinksOnly a v b → LinksOnly b v c → LinksOnly a v c
links_trans a b c v f g = record { heads = g.heads ∙ f.heads; aside = record { rest = g.aside.rest ∙ f.aside.rest } }

-- ---- turning a chain round

-- what is turned shares no registration with l: a chain through l stays
pub chain_turn : (m w : List ℕ) (v n h t : ℕ) (l : List ℕ) → ((r : ℕ) → In r l → In r m → ⊥) → Chain w v n h l → Chain (relinked w v t m) v n h l
chain_turn [] w v n h t l out c = c
chain_turn (q ∷ m) w v n h t l out c =
    chain_turn m (with_link w v q t) v n h (suc q) l (λ r a b. out r a (inr b)) (chain_frame w v n (v + q) t h l (λ r a e. out r a (inl (omega arith))) c)

-- heads stay
pub head_turn : (m w : List ℕ) (v t p : ℕ) → p < v → head_at (relinked w v t m) p ≡ head_at w p
head_turn [] w v t p h = refl
head_turn (q ∷ m) w v t p h = head_turn m (with_link w v q t) v (suc q) p h ∙ get_or-set_other w (v + q) p t 0 (λ e. omega arith)

pub length_turn : (m w : List ℕ) (v t : ℕ) → length (relinked w v t m) ≡ length w
length_turn [] w v t = refl
length_turn (q ∷ m) w v t = length_turn m (with_link w v q t) v (suc q) ∙ length-set w (v + q) t

pub links_turn : (m w : List ℕ) (v t : ℕ) → ((r : ℕ) → In r m → r < v) → LinksOnly w v (relinked w v t m)
links_turn [] w v t k = links_refl w v
links_turn (q ∷ m) w v t k =
    links_trans w (with_link w v q t) (relinked (with_link w v q t) v (suc q) m) v (links_set w v q t (k q (inl refl))) (links_turn m (with_link w v q t) v (suc q) (λ r h. k r (inr h)))

pub relinked_append : (a b w : List ℕ) (v t : ℕ) → relinked w v t (a ++ b) ≡ relinked (relinked w v t a) v (top_of t a) b
relinked_append [] b w v t = refl
relinked_append (q ∷ a) b w v t = relinked_append a b (with_link w v q t) v (suc q)

pub top_of_append : (a b : List ℕ) (t : ℕ) → top_of t (a ++ b) ≡ top_of (top_of t a) b
top_of_append [] b t = refl
top_of_append (q ∷ a) b t = top_of_append a b (suc q)

-- the stack then: l pushed one by one
pub linked_turn : (l w : List ℕ) (v t : ℕ) (s : List ℕ) → v + v ≤ length w → ((r : ℕ) → In r l → r < v) → ((r : ℕ) → occurs r l + occurs r s ≤ 1) → Linked w v t s
    → Linked (relinked w v t l) v (top_of t l) (push l s)
unfolding push occurs
linked_turn [] w v t s long k f c = c
linked_turn (r ∷ l) w v t s long k f c =
    linked_turn l (with_link w v r t) v (suc r) (r ∷ s) (rw (length-set w (v + r) t) long) (λ q h. k q (inr h)) (λ q. omega (arith, f q))
    (refl, k r (inl refl), rw (get_or-set_same w (v + r) t 0 (omega (arith, k r (inl refl)))) (linked_frame w v (v + r) t t s (λ q m e. fresh q m (omega arith)) c))
  where
    fresh : (q : ℕ) → In q s → q ≡ r → ⊥
    fresh q m e =
        let a : 1 ≤ occurs r s = subst (λ (x : ℕ). 1 ≤ occurs x s) e (in_occurs q s m) in
        let b : 1 ≤ occurs r (r ∷ l) = in_occurs r (r ∷ l) (inl refl) in
        omega (arith, f r, a, b)

-- ---- splicing a chain

pub last_in : (r : ℕ) (l : List ℕ) → In (last_of r l) (r ∷ l)
last_in r [] = inl refl
last_in r (q ∷ l) = inr (last_in q l)

last_le : (w : List ℕ) (v n h r : ℕ) (l : List ℕ) → Chain w v n h (r ∷ l) → last_of r l ≤ r
last_le w v n h r [] c = omega arith
last_le w v n h r (q ∷ l) c = omega (arith, last_le w v r (link_at w v r) q l c.2, c.2.1)

linked_splice : (w : List ℕ) (v n h t r : ℕ) (l s : List ℕ) → n ≤ v → v + v ≤ length w → Chain w v n h (r ∷ l) → Linked w v t s → ((q : ℕ) → In q (r ∷ l) → In q s → ⊥)
    → Linked (with_link w v (last_of r l) t) v h ((r ∷ l) ++ s)
linked_splice w v n h t r [] s nv long c k apart = (
  c.0,
  omega (arith, c.1),
  rw (get_or-set_same w (v + r) t 0 (omega (arith, c.1))) (linked_frame w v (v + r) t t s (λ q m e. apart r (inl refl) (subst (λ (x : ℕ). In x s) (omega arith) m)) k),
)
linked_splice w v n h t r (q ∷ l) s nv long c k apart = (
  c.0,
  omega (arith, c.1),
  rw (get_or-set_other w (v + last_of q l) (v + r) t 0 (λ e. omega (arith, last_le w v r (link_at w v r) q l c.2, c.2.1)))
      (linked_splice w v r (link_at w v r) t q l s (omega (arith, c.1)) long c.2 k (λ x m y. apart x (inr m) y)),
)

-- the stack then: the chain as it was, and the old stack under it
pub splice_linked : (w : List ℕ) (v h t : ℕ) (l s : List ℕ) → v + v ≤ length w → Chain w v v h l → Linked w v t s → ((q : ℕ) → In q l → In q s → ⊥)
    → Linked (spliced w v t l) v (head_of t l) (l ++ s)
splice_linked w v h t [] s long c k apart = k
splice_linked w v h t (r ∷ l) s long c k apart = subst (λ (x : ℕ). Linked (with_link w v (last_of r l) t) v x ((r ∷ l) ++ s)) c.0 (linked_splice w v v h t r l s (omega arith) long c k apart)

pub chain_splice : (m w : List ℕ) (v n h t : ℕ) (l : List ℕ) → ((r : ℕ) → In r l → In r m → ⊥) → Chain w v n h l → Chain (spliced w v t m) v n h l
chain_splice [] w v n h t l out c = c
chain_splice (q ∷ m) w v n h t l out c = chain_frame w v n (v + last_of q m) t h l (λ r a e. out r a (subst (λ (x : ℕ). In x (q ∷ m)) (omega arith) (last_in q m))) c

pub head_splice : (m w : List ℕ) (v t p : ℕ) → p < v → head_at (spliced w v t m) p ≡ head_at w p
head_splice [] w v t p h = refl
head_splice (q ∷ m) w v t p h = get_or-set_other w (v + last_of q m) p t 0 (λ e. omega arith)

pub length_splice : (m w : List ℕ) (v t : ℕ) → length (spliced w v t m) ≡ length w
length_splice [] w v t = refl
length_splice (q ∷ m) w v t = length-set w (v + last_of q m) t

pub links_splice : (m w : List ℕ) (v t : ℕ) → ((r : ℕ) → In r m → r < v) → LinksOnly w v (spliced w v t m)
links_splice [] w v t k = links_refl w v
links_splice (q ∷ m) w v t k = links_set w v (last_of q m) t (k (last_of q m) (last_in q m))
