-- What `decode` makes of a list of numbers, call by call: the call at the front, and then the rest. Assumes nothing.
use Rattle.std.specs.Prelude.{◌≡◌, refl, List, [], ◌∷◌, ◌++◌, true, false, ◌⊎◌, ℕ, zero, suc, ◌≤◌, ◌<◌, leb, eqb, length, take, drop}
use Rattle.std.proofs.Common.{ap, inl, inr, arith, length-drop}
use Rattle.std.proofs.Math.Option.{Option, some, none}
use Rattle.rules.specs.Calls.{Call, flush, final}
use Rattle.rules.specs.Encoding.{Front, Counted, counted, set_front, add_outs, add_front, lane_front, front, before_all, and_then, unless_empty, decode_from, decode}
use Rattle.laws.specs.ModelBase.{bool_cases}

pub counted_shorter : (l : List ℕ) (c : Counted) → counted l ≡ some c → length c.rest < length l
unfolding counted
counted_shorter [] c e = let z : ◌≡◌ {A = ℕ} 0 1 = cc in absurd (omega arith)
counted_shorter (n ∷ l) c e = go (bool_cases (leb n (length l)))
  where
    go : (leb n (length l) ≡ true) ⊎ (leb n (length l) ≡ false) → length c.rest < length (n ∷ l)
    go (inl b) =
        let e' : some (record { items = take n l; rest = drop n l }) ≡ some c = rw (b, counted) at e in
        let d : drop n l ≡ c.rest = cc in
        omega (arith, length-drop n l, ap length d)
    go (inr b) =
        let e' : none ≡ some c = rw (b, counted) at e in
        let z : ◌≡◌ {A = ℕ} 0 1 = cc in
        absurd (omega arith)

set_shorter : (l : List ℕ) (f : Front) → set_front l ≡ some f → length f.rest < length l
unfolding set_front
set_shorter [] f e = let z : ◌≡◌ {A = ℕ} 0 1 = cc in absurd (omega arith)
set_shorter (x ∷ l) f e = let d : l ≡ f.rest = cc in omega (arith, ap length d)

outs_shorter : (lane : ℕ) (ins : List ℕ) (o : Option Counted) (f : Front) → add_outs lane ins o ≡ some f → (c : Counted) × (o ≡ some c) × (f.rest ≡ c.rest)
unfolding add_outs
outs_shorter lane ins none f e = let z : ◌≡◌ {A = ℕ} 0 1 = cc in absurd (omega arith)
outs_shorter lane ins (some c) f e = (c, refl, cc)

add_shorter : (lane : ℕ) (l : List ℕ) (f : Front) → add_front lane (counted l) ≡ some f → length f.rest < length l
unfolding add_front
add_shorter lane l f e = go (counted l) refl
  where
    go : (o : Option Counted) → counted l ≡ o → length f.rest < length l
    go none h = let e' : none ≡ some f = rw (h, add_front) at e in let z : ◌≡◌ {A = ℕ} 0 1 = cc in absurd (omega arith)
    go (some c) h =
        let e' : add_outs lane c.items (counted c.rest) ≡ some f = rw (h, add_front) at e in
        let s = outs_shorter lane c.items (counted c.rest) f e' in
        omega (arith, counted_shorter l c h, counted_shorter c.rest s.0 s.1, ap length s.2)

lane_shorter : (l : List ℕ) (f : Front) → lane_front l ≡ some f → length f.rest < length l
unfolding lane_front
lane_shorter [] f e = let z : ◌≡◌ {A = ℕ} 0 1 = cc in absurd (omega arith)
lane_shorter (lane ∷ l) f e = omega (arith, add_shorter lane l f e)

-- the numbers that follow a call are fewer
pub front_shorter : (l : List ℕ) (f : Front) → front l ≡ some f → length f.rest < length l
unfolding front
front_shorter [] f e = let z : ◌≡◌ {A = ℕ} 0 1 = cc in absurd (omega arith)
front_shorter (tag ∷ l) f e = go (bool_cases (eqb tag 1)) (bool_cases (eqb tag 2)) (bool_cases (eqb tag 3)) (bool_cases (eqb tag 4)) (bool_cases (eqb tag 5))
  where
    go : (eqb tag 1 ≡ true) ⊎ (eqb tag 1 ≡ false) → (eqb tag 2 ≡ true) ⊎ (eqb tag 2 ≡ false) → (eqb tag 3 ≡ true) ⊎ (eqb tag 3 ≡ false) → (eqb tag 4 ≡ true) ⊎ (eqb tag 4 ≡ false)
        → (eqb tag 5 ≡ true) ⊎ (eqb tag 5 ≡ false) → length f.rest < length (tag ∷ l)
    go (inl a) b c d i = let x = set_shorter l f (rw (a, front) at e) in omega arith
    go (inr a) (inl b) c d i = let x = add_shorter 0 l f (rw (a, b, front) at e) in omega arith
    go (inr a) (inr b) (inl c) d i =
        let e' : some (record { call = flush; rest = l }) ≡ some f = rw (a, b, c, front) at e in
        let y : l ≡ f.rest = cc in
        omega (arith, ap length y)
    go (inr a) (inr b) (inr c) (inl d) i =
        let e' : some (record { call = final; rest = l }) ≡ some f = rw (a, b, c, d, front) at e in
        let y : l ≡ f.rest = cc in
        omega (arith, ap length y)
    go (inr a) (inr b) (inr c) (inr d) (inl i) = let x = lane_shorter l f (rw (a, b, c, d, i, front) at e) in omega arith
    go (inr a) (inr b) (inr c) (inr d) (inr i) =
        let e' : none ≡ some f = rw (a, b, c, d, i, front) at e in
        let z : ◌≡◌ {A = ℕ} 0 1 = cc in
        absurd (omega arith)

-- a bound on the calls that is large enough does not matter
decode_fuel : (f g : ℕ) (l : List ℕ) → length l ≤ f → length l ≤ g → decode_from f l ≡ decode_from g l
unfolding decode_from unless_empty and_then
decode_fuel zero zero l a b = refl
decode_fuel zero (suc g) [] a b = refl
decode_fuel zero (suc g) (x ∷ l) a b = absurd (omega arith)
decode_fuel (suc f) zero [] a b = refl
decode_fuel (suc f) zero (x ∷ l) a b = absurd (omega arith)
decode_fuel (suc f) (suc g) [] a b = refl
decode_fuel (suc f) (suc g) (x ∷ l) a b = go (front (x ∷ l)) refl (λ r h. decode_fuel f g r (omega arith) (omega arith))
  where
    go : (o : Option Front) → front (x ∷ l) ≡ o → ((r : List ℕ) → length r < length (x ∷ l) → decode_from f r ≡ decode_from g r)
        → and_then (front (x ∷ l)) (λ r. decode_from f r) ≡ and_then (front (x ∷ l)) (λ r. decode_from g r)
    go none h r = rw (h, and_then)
    go (some c) h r = rw (h, and_then) (ap (before_all c.call) (r c.rest (front_shorter (x ∷ l) c h)))

pub decode_none : (l : List ℕ) → 0 < length l → front l ≡ none → decode l ≡ none
unfolding decode decode_from unless_empty and_then
decode_none [] h e = absurd (omega arith)
decode_none (x ∷ l) h e = rw (e, and_then)

pub decode_some : (l : List ℕ) (f : Front) → front l ≡ some f → decode l ≡ before_all f.call (decode f.rest)
unfolding front decode decode_from unless_empty and_then
decode_some [] f e = let z : ◌≡◌ {A = ℕ} 0 1 = cc in absurd (omega arith)
decode_some (x ∷ l) f e =
    rw (e, and_then) (ap (before_all f.call) (decode_fuel (length l) (length f.rest) f.rest (omega (arith, front_shorter (x ∷ l) f e)) (omega arith)))

-- the calls cs, and then those that are still to be read
unfoldable pub prefix : List Call → Option (List Call) → Option (List Call)
prefix [] o = o
prefix (c ∷ cs) o = before_all c (prefix cs o)

pub prefix_more : (cs : List Call) (c : Call) (o : Option (List Call)) → prefix cs (before_all c o) ≡ prefix (cs ++ (c ∷ [])) o
unfolding prefix
prefix_more [] c o = refl
prefix_more (d ∷ cs) c o = ap (before_all d) (prefix_more cs c o)

pub prefix_none : (cs : List Call) → prefix cs none ≡ none
unfolding prefix before_all
prefix_none [] = refl
prefix_none (d ∷ cs) = ap (before_all d) (prefix_none cs)

pub prefix_some : (cs ds : List Call) → prefix cs (some ds) ≡ some (cs ++ ds)
unfolding prefix before_all
prefix_some [] ds = refl
prefix_some (c ∷ cs) ds = ap (before_all c) (prefix_some cs ds)
