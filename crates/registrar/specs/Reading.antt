-- Who waits, read from the waiting storage: each place has a head link, each registration a link; a link is 0 for none, else the
-- registration plus 1. Of the quarters of v numbers, the first holds the heads, the second the links. Definitions; that those read are
-- the model's is in Unique. Assumes nothing.
use Rattle.std.specs.Prelude.{List, [], ◌∷◌, ℕ, zero, suc, ◌+◌, ◌-◌, get_or}
use Rattle.rules.specs.Model.{Pending}

-- place p's head link, and registration r's link
abbrev pub head_at : List ℕ → ℕ → ℕ
head_at w p = get_or w p 0

abbrev pub link_at : List ℕ → ℕ → ℕ → ℕ
link_at w v r = get_or w (v + r) 0

-- the registrations from link h on, at most f of them: the newest first
unfoldable pub chain_from : ℕ → List ℕ → ℕ → ℕ → List ℕ
chain_from zero w v h = []
chain_from (suc f) w v zero = []
chain_from (suc f) w v (suc r) = r ∷ chain_from f w v (link_at w v r)

-- a chain of place p put in front of others, the oldest first
abbrev pub onto : ℕ → List ℕ → List Pending → List Pending
onto p [] ps = ps
onto p (r ∷ l) ps = onto p l (record { under = p; reg = r } ∷ ps)

-- the chains of n places from p on, one after the other
abbrev pub reading : ℕ → ℕ → (ℕ → List ℕ) → List Pending
reading zero p ch = []
reading (suc n) p ch = onto p (ch p) (reading n (suc p) ch)

-- who waits: of each of the v places from lo on, the first untracked one, those in its chain. Nobody waits under a place below lo
unfoldable pub waiting_in : List ℕ → ℕ → ℕ → List Pending
waiting_in w v lo = reading (v - lo) lo (λ p. chain_from v w v (head_at w p))
