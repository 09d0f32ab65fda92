-- Laws for the loops of this crate, each by what remains to be done: turning one chain round, turning the chains of several places, and
-- the walk to a chain's oldest. Assumes nothing.
use Rattle.std.specs.Prelude.{◌≡◌, refl, List, [], ◌∷◌, ◌++◌, ℕ, suc, ◌+◌, ◌-◌, ◌≤◌, ◌<◌, length}
use Rattle.std.proofs.Common.{sym, ◌∙◌, ap, subst, suc-ne-zero, arith, length-set}
use Rattle.rules.specs.Checks.{waiting_needed}
use Rattle.registrar.specs.Reading.{head_at, link_at}
use Rattle.registrar.specs.Delayed.{with_link, Chain, Chained, relinked, top_of, last_of, Turns, Oldest}
use Rattle.registrar.specs.Queue.{down}
use Rattle.registrar.specs.Chains.{In, chain_frame, chain_le, chain_below, chain_unique, chain_turn, head_turn, length_turn, relinked_append, top_of_append}

-- the chain l at link h is what is left of the chain l₀ to be turned round
pub record Turning (w₀ : List ℕ) (v from onto : ℕ) (w : List ℕ) (h top : ℕ) : Type 0 where
  pub l₀ : List ℕ
  pub chain₀ : Chain w₀ v v from l₀
  pub n : ℕ
  pub l : List ℕ
  pub few : n ≤ v
  pub chain : Chain w v n h l
  pub tops : top_of top l ≡ top_of onto l₀
  pub links : relinked w v top l ≡ relinked w₀ v onto l₀
  pub long : waiting_needed v ≤ length w

-- in a turn the link is that of a registration below v
pub turn_at : (w₀ : List ℕ) (v from onto : ℕ) (w : List ℕ) (h top : ℕ) → Turning w₀ v from onto w h top → h ≤ v
turn_at w₀ v from onto w h top t = omega (arith, chain_le w v t.n h t.l t.chain, t.few)

pub turn_more : (w₀ : List ℕ) (v from onto : ℕ) (w : List ℕ) (h top : ℕ) → Turning w₀ v from onto w h top → (h ≡ 0 → ⊥)
    → Turning w₀ v from onto (with_link w v (h - 1) top) (link_at w v (h - 1)) h × (link_at w v (h - 1) < h)
turn_more w₀ v from onto w h top t nz = go t.l t.chain t.tops t.links
  where
    go : (l : List ℕ) → Chain w v t.n h l → top_of top l ≡ top_of onto t.l₀ → relinked w v top l ≡ relinked w₀ v onto t.l₀
        → Turning w₀ v from onto (with_link w v (h - 1) top) (link_at w v (h - 1)) h × (link_at w v (h - 1) < h)
    go [] c tops links = absurd (nz c)
    go (r ∷ l) c tops links =
        let e : h - 1 ≡ r = omega (arith, c.0) in
        rw (e, c.0) (
          record {
            l₀ = t.l₀;
            chain₀ = t.chain₀;
            n = r;
            l = l;
            few = omega (arith, c.1, t.few);
            chain = chain_frame w v r (v + r) top (link_at w v r) l (λ q m p. omega (arith, chain_below w v r (link_at w v r) l c.2 q m)) c.2;
            tops = tops;
            links = links;
            long = simp length-set t.long;
          },
          omega (arith, chain_le w v r (link_at w v r) l c.2),
        )

pub turn_end : (w₀ : List ℕ) (v from onto : ℕ) (w : List ℕ) (h top : ℕ) → Turning w₀ v from onto w h top → h ≡ 0 → Turns w₀ v from onto top w
turn_end w₀ v from onto w h top t z = record { turned = λ l c. rw (chain_unique w₀ v v v from l t.l₀ c t.chain₀) (go t.l t.chain t.tops t.links) }
  where
    go : (k : List ℕ) → Chain w v t.n h k → top_of top k ≡ top_of onto t.l₀ → relinked w v top k ≡ relinked w₀ v onto t.l₀
        → (top ≡ top_of onto t.l₀) × (w ≡ relinked w₀ v onto t.l₀)
    go [] d tops links = (tops, links)
    go (r ∷ k) d tops links = absurd (suc-ne-zero r (sym d.0 ∙ z))

-- ---- the chains of the places from lo to hi

-- each place from lo to hi has its chain, and no registration is in two
pub record ChainsAt (w : List ℕ) (v lo hi : ℕ) (ch : ℕ → List ℕ) : Type 0 where
  pub long : waiting_needed v ≤ length w
  pub high : hi ≤ v
  pub at : (p : ℕ) → lo ≤ p → p < hi → Chain w v v (head_at w p) (ch p)
  pub apart : (p q r : ℕ) → p < hi → q < hi → In r (ch p) → In r (ch q) → p ≡ q

-- the last place's chain is taken off
places_less : (w : List ℕ) (v lo p t : ℕ) (ch : ℕ → List ℕ) → ChainsAt w v lo (p + 1) ch → ChainsAt (relinked w v t (ch p)) v lo p ch
places_less w v lo p t ch s =
    record {
      long = rw (length_turn (ch p) w v t) s.long;
      high = omega (arith, s.high);
      at = λ q l h. rw (head_turn (ch p) w v t q (omega (arith, s.high))) (chain_turn (ch p) w v v (head_at w q) t (ch q) (λ r a b. apartly q h r a b) (s.at q l (omega arith)));
      apart = λ a b r x y. s.apart a b r (omega arith) (omega arith);
    }
  where
    apartly : (q : ℕ) → q < p → (r : ℕ) → In r (ch q) → In r (ch p) → ⊥
    apartly q h r a b = let e : q ≡ p = s.apart q p r (omega arith) (omega arith) a b in omega arith

-- what is left to do, and what it comes to
pub record Going (w₀ : List ℕ) (v lo hi onto : ℕ) (ch : ℕ → List ℕ) (w : List ℕ) (p top : ℕ) : Type 0 where
  pub low : lo ≤ p
  pub left : ChainsAt w v lo p ch
  pub tops : top_of top (down ch lo (p - lo)) ≡ top_of onto (down ch lo (hi - lo))
  pub links : relinked w v top (down ch lo (p - lo)) ≡ relinked w₀ v onto (down ch lo (hi - lo))

going_more : (w₀ : List ℕ) (v lo hi onto : ℕ) (ch : ℕ → List ℕ) (w : List ℕ) (p top : ℕ) (w' : List ℕ) (top' : ℕ) → Going w₀ v lo hi onto ch w (p + 1) top → lo ≤ p
    → w' ≡ relinked w v top (ch p) → top' ≡ top_of top (ch p) → Going w₀ v lo hi onto ch w' p top'
going_more w₀ v lo hi onto ch w p top w' top' g l ew et =
    let e : p + 1 - lo ≡ suc (p - lo) = omega arith in
    let f : lo + (p - lo) ≡ p = omega arith in
    let d : down ch lo (p + 1 - lo) ≡ ch p ++ down ch lo (p - lo) = ap (down ch lo) e ∙ ap (λ (x : ℕ). ch x ++ down ch lo (p - lo)) f in
    record {
      low = l;
      left = rw ew (places_less w v lo p top ch g.left);
      tops = rw et (sym (top_of_append (ch p) (down ch lo (p - lo)) top) ∙ sym (ap (top_of top) d) ∙ g.tops);
      links = rw (ew, et) (sym (relinked_append (ch p) (down ch lo (p - lo)) w v top) ∙ sym (ap (relinked w v top) d) ∙ g.links);
    }

pub going_end : (w₀ : List ℕ) (v lo hi onto : ℕ) (ch : ℕ → List ℕ) (w : List ℕ) (p top : ℕ) → Going w₀ v lo hi onto ch w p top → p ≤ lo
    → (top ≡ top_of onto (down ch lo (hi - lo))) × (w ≡ relinked w₀ v onto (down ch lo (hi - lo)))
going_end w₀ v lo hi onto ch w p top g l =
    let z : down ch lo (p - lo) ≡ [] = ap (down ch lo) {x = p - lo} {y = 0} (omega arith) in
    (sym (ap (top_of top) z) ∙ g.tops, sym (ap (relinked w v top) z) ∙ g.links)

-- a turn of the loop, at p - 1
module _ (w₀ : List ℕ) (v lo hi onto : ℕ) (ch : ℕ → List ℕ) (w : List ℕ) (p top : ℕ) (g : Going w₀ v lo hi onto ch w p top) (lt : lo < p) where
  at_more : Going w₀ v lo hi onto ch w (p - 1 + 1) top
  at_more = let e : p ≡ p - 1 + 1 = omega arith in subst (λ (x : ℕ). Going w₀ v lo hi onto ch w x top) e g

  pub going_next : (w' : List ℕ) (top' : ℕ) → w' ≡ relinked w v top (ch (p - 1)) → top' ≡ top_of top (ch (p - 1)) → Going w₀ v lo hi onto ch w' (p - 1) top'
  going_next w' top' ew et = going_more w₀ v lo hi onto ch w (p - 1) top w' top' at_more (omega arith) ew et

  pub going_chain : Chain w v v (head_at w (p - 1)) (ch (p - 1))
  going_chain = at_more.left.at (p - 1) (omega arith) (omega arith)

  pub going_chained : Chained w v (head_at w (p - 1))
  going_chained = record { l = ch (p - 1); chain = going_chain; long = at_more.left.long }

-- ---- the walk to the oldest

last_list : List ℕ → ℕ
last_list [] = 0
last_list (r ∷ l) = last_of r l

-- r is on the way, and l, from its link `next` on, is left
pub record Seeking (w : List ℕ) (v from r next : ℕ) : Type 0 where
  pub q₀ : ℕ
  pub l₀ : List ℕ
  pub chain₀ : Chain w v v from (q₀ ∷ l₀)
  pub l : List ℕ
  pub chain : Chain w v r next l
  pub low : r < v
  pub last : last_of r l ≡ last_of q₀ l₀
  pub long : waiting_needed v ≤ length w

pub seek_start : (w : List ℕ) (v from : ℕ) → Chained w v from → 0 < from → Seeking w v from (from - 1) (link_at w v (from - 1))
seek_start w v from c nz = go c.l c.chain
  where
    go : (l : List ℕ) → Chain w v v from l → Seeking w v from (from - 1) (link_at w v (from - 1))
    go [] d = absurd (omega (arith, d))
    go (r ∷ l) d = let e : from - 1 ≡ r = omega (arith, d.0) in rw e (record { q₀ = r; l₀ = l; chain₀ = d; l = l; chain = d.2; low = d.1; last = refl; long = c.long })

pub seek_more : (w : List ℕ) (v from r next : ℕ) → Seeking w v from r next → (next ≡ 0 → ⊥)
    → Seeking w v from (next - 1) (link_at w v (next - 1)) × (link_at w v (next - 1) < next) × (next - 1 < v)
seek_more w v from r next s nz = go s.l s.chain s.last
  where
    go : (l : List ℕ) → Chain w v r next l → last_of r l ≡ last_of s.q₀ s.l₀
        → Seeking w v from (next - 1) (link_at w v (next - 1)) × (link_at w v (next - 1) < next) × (next - 1 < v)
    go [] c e = absurd (nz c)
    go (q ∷ l) c e =
        let d : next - 1 ≡ q = omega (arith, c.0) in
        rw d (
          record { q₀ = s.q₀; l₀ = s.l₀; chain₀ = s.chain₀; l = l; chain = c.2; low = omega (arith, c.1, s.low); last = e; long = s.long },
          omega (arith, c.0, chain_le w v q (link_at w v q) l c.2),
          omega (arith, c.1, s.low),
        )

pub seek_end : (w : List ℕ) (v from r next : ℕ) → Seeking w v from r next → next ≡ 0 → Oldest w v from r
unfolding last_list
seek_end w v from r next s z = record { found = λ q l c. go s.l s.chain s.last ∙ ap last_list (chain_unique w v v v from (s.q₀ ∷ s.l₀) (q ∷ l) s.chain₀ c) }
  where
    go : (k : List ℕ) → Chain w v r next k → last_of r k ≡ last_of s.q₀ s.l₀ → r ≡ last_of s.q₀ s.l₀
    go [] d e = e
    go (q ∷ k) d e = absurd (suc-ne-zero q (sym d.0 ∙ z))

pub turn_start : (w : List ℕ) (v h top : ℕ) → Chained w v h → Turning w v h top w h top
turn_start w v h top c = record { l₀ = c.l; chain₀ = c.chain; n = v; l = c.l; few = omega arith; chain = c.chain; tops = refl; links = refl; long = c.long }

pub going_start : (w : List ℕ) (v lo hi onto : ℕ) (ch : ℕ → List ℕ) → lo ≤ hi → ChainsAt w v lo hi ch → Going w v lo hi onto ch w hi onto
going_start w v lo hi onto ch l s = record { low = l; left = s; tops = refl; links = refl }

module _ (w₀ : List ℕ) (v lo hi onto : ℕ) (ch : ℕ → List ℕ) (w : List ℕ) (p top : ℕ) (g : Going w₀ v lo hi onto ch w p top) (lt : lo < p) where
  pub going_in : p ≤ v
  going_in = g.left.high

  pub going_long : waiting_needed v ≤ length w
  going_long = g.left.long
