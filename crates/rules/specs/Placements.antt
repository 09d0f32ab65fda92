-- Document 01, "Placements worked through": the bold ones, G1 to G5 and W1 to W6, as one list, computed from the definitions.
use Rattle.std.specs.Prelude.{◌≡◌, refl, List, [], ◌∷◌, map, ℕ, zero, suc, length, take, replicate}
use Rattle.std.proofs.Math.Option.{Option, some, none}
use Rattle.rules.specs.Guide.{Loc, Item, Entry, parallelism, parallelism_by, last_parallelism, annotate, released, fresh, release, flush, seek, found, begin, choose, Placed}
use Rattle.rules.specs.Guide.{put, settle, apply, place}

item : Item
item = record { value = 0; added = 0; accepted = 0; lane = 0 }

start : Placed
start = record { guide = fresh; loc = record { span = 0; pos = 0 } }

-- the placements made one after another; a step is `after`, absent or a location
steps : ℕ → List (Option Loc) → Placed → Placed
steps P [] p = p
steps P (a ∷ as') p = steps P as' (place P a item p.guide)

-- n placements, each after the one before
chain : ℕ → ℕ → Placed → Placed
chain P zero p = p
chain P (suc n) p = chain P n (place P (some p.loc) item p.guide)

at : ℕ → ℕ → Option Loc
at s q = some (record { span = s; pos = q })

-- the last placing's location, span 0's number (how many spans were released), the order's length
shown : Placed → List ℕ
shown p = p.loc.span ∷ p.loc.pos ∷ p.guide.first ∷ length p.guide.order ∷ []

parallelisms : List Entry → List ℕ
parallelisms es = map (λ e. e.parallelism) es

span : ℕ → List Item
span n = replicate n item

-- the parallelisms of a released span of a entries, the next having b
pair : ℕ → ℕ → ℕ → List ℕ
pair P a b = parallelisms (released P 1 (span a ∷ span b ∷ []))

-- a placement worked through: what the definitions give, and what the paper says
pub record Example : Type 0 where
  pub got : List ℕ
  pub want : List ℕ

pub bold : List Example
bold =
    -- G1: (1,0), one empty span released
    record { got = shown (steps 1 (none ∷ []) start); want = 1 ∷ 0 ∷ 1 ∷ 0 ∷ [] }
    -- G2: (2,0)
    ∷ record { got = shown (steps 3 (none ∷ at 1 0 ∷ []) start); want = 2 ∷ 0 ∷ 0 ∷ 0 ∷ [] }
    -- G3: (3,0)
    ∷ record { got = shown (steps 3 (none ∷ none ∷ at 1 1 ∷ []) start); want = 3 ∷ 0 ∷ 0 ∷ 0 ∷ [] }
    -- G4: the last is (2,1)
    ∷ record { got = shown (steps 3 (none ∷ none ∷ at 1 0 ∷ at 1 1 ∷ []) start); want = 2 ∷ 1 ∷ 0 ∷ 0 ∷ [] }
    -- G5: the 31st at (31,0), the 32nd at (33,0); entry 0 has parallelism 1
    ∷ record { got = shown (chain 2 30 (steps 2 (none ∷ []) start)); want = 31 ∷ 0 ∷ 0 ∷ 0 ∷ [] }
    ∷ record { got = shown (chain 2 31 (steps 2 (none ∷ []) start)); want = 33 ∷ 0 ∷ 2 ∷ 1 ∷ [] }
    ∷ record { got = take 1 (parallelisms (flush 2 (chain 2 31 (steps 2 (none ∷ []) start)).guide).order); want = 1 ∷ [] }
    -- W1 to W6, P=4: (5,2), (5,0), (3,4), (3,1), (4,4), and span 31 with 3
    ∷ record { got = pair 4 5 2; want = 4 ∷ 4 ∷ 4 ∷ 3 ∷ 2 ∷ [] }
    ∷ record { got = pair 4 5 0; want = 4 ∷ 3 ∷ 2 ∷ 1 ∷ 1 ∷ [] }
    ∷ record { got = pair 4 3 4; want = 3 ∷ 3 ∷ 3 ∷ [] }
    ∷ record { got = pair 4 3 1; want = 3 ∷ 3 ∷ 2 ∷ [] }
    ∷ record { got = pair 4 4 4; want = 4 ∷ 4 ∷ 4 ∷ 4 ∷ [] }
    ∷ record { got = parallelisms (released 4 1 (span 3 ∷ [])); want = 3 ∷ 2 ∷ 1 ∷ [] }
    ∷ []

-- of each the two are the same
pub placements : map (λ x. x.got) bold ≡ map (λ x. x.want) bold
unfolding bold steps chain at shown parallelisms span pair start item parallelism parallelism_by last_parallelism annotate released fresh release flush seek found begin choose put settle apply place
placements = refl
