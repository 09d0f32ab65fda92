-- How the waiting storage holds the delayed registrations (document 01: those that wait) and the stack of those that came off, and what
-- the functions promise. Definitions only. Assumes nothing.
use Rattle.std.specs.Prelude.{◌≡◌, true, false, cond, ℕ, suc, ◌+◌, ◌*◌, ◌≤◌, ◌<◌, length, set, take, drop, eqb}
use mathlib.Core.List.{List, [], ◌∷◌, ◌++◌, Memᴰ}
use Rattle.rules.specs.Model.{Pending, due, left, queue, push}
use Rattle.rules.specs.Checks.{waiting_needed}
use Rattle.laws.specs.Delaying.{Sorted}
use Rattle.registrar.specs.Reading.{head_at, link_at}

-- the storage with another head link of place p, and with another link of registration r
abbrev pub with_head : List ℕ → ℕ → ℕ → List ℕ
with_head w p h = set w p h

abbrev pub with_link : List ℕ → ℕ → ℕ → ℕ → List ℕ
with_link w v r h = set w (v + r) h

-- the registrations under place p, newest first
unfoldable pub newest : ℕ → List Pending → List ℕ
newest p [] = []
newest p (x ∷ ps) = elim (eqb x.under p) [ true ↦ newest p ps ++ (x.reg ∷ []) | false ↦ newest p ps ]

-- how often r stands in a list, and how often it waits
unfoldable pub occurs : ℕ → List ℕ → ℕ
occurs r [] = 0
occurs r (x ∷ l) = cond {A = ℕ} (eqb r x) 1 0 + occurs r l

unfoldable pub pends : ℕ → List Pending → ℕ
pends r [] = 0
pends r (x ∷ ps) = cond {A = ℕ} (eqb r x.reg) 1 0 + pends r ps

-- from link h the links run through l, each below n and below the one before
abbrev pub Chain : List ℕ → ℕ → ℕ → ℕ → List ℕ → Type 0
Chain w v n h [] = h ≡ 0
Chain w v n h (r ∷ l) = (h ≡ suc r) × (r < n) × Chain w v r (link_at w v r) l

-- from link h the links run through l, in any order
abbrev pub Linked : List ℕ → ℕ → ℕ → List ℕ → Type 0
Linked w v h [] = h ≡ 0
Linked w v h (r ∷ l) = (h ≡ suc r) × (r < v) × Linked w v (link_at w v r) l

-- storage holds the delayed registrations ps, by the chains of the places from lo on, and the stack st from link `top` on. The heads of
-- places below lo are stale
pub record Delayed (w : List ℕ) (v lo : ℕ) (ps : List Pending) (top : ℕ) (st : List ℕ) : Type 0 where
  pub long : waiting_needed v ≤ length w
  pub chains : (p : ℕ) → lo ≤ p → p < v → Chain w v v (head_at w p) (newest p ps)
  pub stack : Linked w v top st
  pub sorted : Sorted ps
  pub within : (x : Pending) → Memᴰ x ps → (lo ≤ x.under) × (x.under < v)
  pub apart : (r : ℕ) → pends r ps + occurs r st ≤ 1

-- r is none of those that wait, and later than each of them
pub record Later (r : ℕ) (ps : List Pending) (st : List ℕ) : Type 0 where
  pub above : (x : Pending) → Memᴰ x ps → x.reg < r
  pub unstacked : occurs r st ≡ 0

-- what is neither head nor link is as it was
pub record Aside (w : List ℕ) (v : ℕ) (w' : List ℕ) : Type 0 where
  pub rest : drop (2 * v) w' ≡ drop (2 * v) w

-- only the registrations' links have changed
pub record LinksOnly (w : List ℕ) (v : ℕ) (w' : List ℕ) : Type 0 where
  pub heads : take v w' ≡ take v w
  pub aside : Aside w v w'

-- `delay`: r, later than all that wait, waits under p too; heads and links alone have changed
pub record Joins (w : List ℕ) (v p r : ℕ) (w' : List ℕ) : Type 0 where
  pub delayed : (lo : ℕ) (ps : List Pending) (top : ℕ) (st : List ℕ) → Delayed w v lo ps top st → Later r ps st → lo ≤ p
      → Delayed w' v lo (queue (record { under = p; reg = r }) ps) top st
  pub aside : Aside w v w'

-- `stack`: r is on top
pub record Stacks (w : List ℕ) (v r top t : ℕ) (w' : List ℕ) : Type 0 where
  pub delayed : (lo : ℕ) (ps : List Pending) (st : List ℕ) → Delayed w v lo ps top st → pends r ps + occurs r st ≡ 0 → Delayed w' v lo ps t (r ∷ st)
  pub top_is : t ≡ r + 1
  pub kept : LinksOnly w v w'

-- there is a chain at link h
pub record Chained (w : List ℕ) (v h : ℕ) : Type 0 where
  pub l : List ℕ
  pub chain : Chain w v v h l
  pub long : waiting_needed v ≤ length w

-- the links of l turned round onto `top`, and the link of the last of l
abbrev pub relinked : List ℕ → ℕ → ℕ → List ℕ → List ℕ
relinked w v top [] = w
relinked w v top (r ∷ l) = relinked (with_link w v r top) v (suc r) l

abbrev pub top_of : ℕ → List ℕ → ℕ
top_of top [] = top
top_of top (r ∷ l) = top_of (suc r) l

-- `turn_onto`: the chain is turned round
pub record Turns (w : List ℕ) (v h onto t : ℕ) (w' : List ℕ) : Type 0 where
  pub turned : (l : List ℕ) → Chain w v v h l → (t ≡ top_of onto l) × (w' ≡ relinked w v onto l)

-- the oldest of r ∷ l
abbrev pub last_of : ℕ → List ℕ → ℕ
last_of r [] = r
last_of r (q ∷ l) = last_of q l

-- `oldest`
pub record Oldest (w : List ℕ) (v h r : ℕ) : Type 0 where
  pub found : (q : ℕ) (l : List ℕ) → Chain w v v h (q ∷ l) → r ≡ last_of q l

-- the oldest's link leads to `top`, and the link of the newest
abbrev pub spliced : List ℕ → ℕ → ℕ → List ℕ → List ℕ
spliced w v top [] = w
spliced w v top (r ∷ l) = with_link w v (last_of r l) top

abbrev pub head_of : ℕ → List ℕ → ℕ
head_of top [] = top
head_of top (r ∷ l) = suc r

-- `splice`: the chain stands on the stack as it was
pub record Splices (w : List ℕ) (v h onto t : ℕ) (w' : List ℕ) : Type 0 where
  pub placed : (l : List ℕ) → Chain w v v h l → (t ≡ head_of onto l) × (w' ≡ spliced w v onto l)

-- what advancing from lo to hi asks
pub record Advancing (w : List ℕ) (v lo hi top : ℕ) : Type 0 where
  pub ps : List Pending
  pub st : List ℕ
  pub delayed : Delayed w v lo ps top st
  pub order : lo ≤ hi
  pub high : hi ≤ v

-- `advance_set`: those below hi stand on the stack, the lowest place's oldest on top
pub record AdvancesSet (w : List ℕ) (v lo hi t : ℕ) (w' : List ℕ) : Type 0 where
  pub delayed : (ps : List Pending) → Delayed w v lo ps 0 [] → Delayed w' v hi (left hi ps) t (due hi ps)
  pub kept : LinksOnly w v w'

-- `advance_placed`: those below hi are pushed on the stack one by one
pub record AdvancesPlaced (w : List ℕ) (v lo hi top t : ℕ) (w' : List ℕ) : Type 0 where
  pub delayed : (ps : List Pending) (st : List ℕ) → Delayed w v lo ps top st → Delayed w' v hi (left hi ps) t (push (due hi ps) st)
  pub kept : LinksOnly w v w'
