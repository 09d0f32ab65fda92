-- The parts of the waiting storage do not meet: what registrar changes leaves lists and flags, a flag or a cell that is stored leaves the
-- other parts, and none of it what lies beyond the needed length. Whoever stores several parts goes by these laws. Assumes nothing.
use Rattle.std.specs.Prelude.{◌≡◌, refl, List, [], ◌∷◌, Bool, ℕ, ◌≤◌, ◌<◌, length, get_or}
use Rattle.std.proofs.Common.{◌∙◌, arith}
use Rattle.std.proofs.Math.Seq.{get_or-set_other}
use Rattle.rules.specs.Model.{Reg, Pending}
use Rattle.rules.specs.Checks.{waiting_needed}
use Rattle.lists.specs.Part.{Below}
use Rattle.pool.specs.Lists.{Lists, cell_at, with_cell}
use Rattle.pool.specs.ListLaws.{lists_same, cell_length}
use Rattle.taken.specs.Flag.{flag_at, with_flag, flag_length}
use Rattle.taken.specs.Flags.{Flags, claimed}
use Rattle.taken.specs.FlagLaws.{flags_kept}
use Rattle.registrar.specs.Delayed.{Delayed, Aside}
use Rattle.registrar.specs.Keeps.{delayed_same, aside_at}

-- w and w' agree from the needed length on
abbrev pub SameBeyond : ℕ → List ℕ → List ℕ → Type 0
SameBeyond v w w' = (i : ℕ) → waiting_needed v ≤ i → get_or w' i 0 ≡ get_or w i 0

-- heads and links alone have changed
module _ {w : List ℕ} {v : ℕ} {w' : List ℕ} (a : Aside w v w') where
  pub beyond_aside : SameBeyond v w w'
  beyond_aside i h = aside_at w v w' a i (omega arith)

  module _ (long : length w' ≡ length w) where
    pub lists_aside : {adds : List Reg} {used : ℕ} {pool : List ℕ} → Lists v adds used w pool → Lists v adds used w' pool
    unfolding cell_at
    lists_aside {adds} {used} {pool} l = lists_same v adds used w pool l w' long (λ r h. aside_at w v w' a _ (omega arith))

    pub flags_aside : {t : ℕ → Bool} → Flags v t w → Flags v t w'
    unfolding flag_at
    flags_aside {t} f = flags_kept v t w w' long (λ x h. aside_at w v w' a _ (omega arith)) f

-- the flag of a place is stored
module _ (w : List ℕ) {v x : ℕ} (n : ℕ) (h : x < v) where
  pub beyond_flag : SameBeyond v w (with_flag w v x n)
  unfolding with_flag
  beyond_flag i k = get_or-set_other w _ i n 0 (λ e. omega arith)

  pub lists_flag : {adds : List Reg} {used : ℕ} {pool : List ℕ} → Lists v adds used w pool → Lists v adds used (with_flag w v x n) pool
  unfolding with_flag cell_at
  lists_flag {adds} {used} {pool} l = lists_same v adds used w pool l (with_flag w v x n) (flag_length w v x n) (λ r k. get_or-set_other w _ _ n 0 (λ e. omega arith))

  pub delayed_flag : {lo : ℕ} {ps : List Pending} {top : ℕ} {st : List ℕ} → Delayed w v lo ps top st → Delayed (with_flag w v x n) v lo ps top st
  unfolding with_flag
  delayed_flag {lo} {ps} {top} {st} d =
      delayed_same w v lo ps top st d (with_flag w v x n) (flag_length w v x n) (λ p k. get_or-set_other w _ p n 0 (λ e. omega arith)) (λ r k. get_or-set_other w _ _ n 0 (λ e. omega arith))

-- the flags of a list of places are stored
pub beyond_claimed : (w : List ℕ) (v : ℕ) (xs : List ℕ) → Below v xs → SameBeyond v w (claimed w v xs)
unfolding claimed Below
beyond_claimed w v [] b i k = refl
beyond_claimed w v (x ∷ xs) b i k = beyond_claimed (with_flag w v x 1) v xs b.1 i k ∙ beyond_flag w 1 b.0 i k

pub lists_claimed : {w : List ℕ} {v : ℕ} {adds : List Reg} {used : ℕ} {pool : List ℕ} (xs : List ℕ) → Below v xs → Lists v adds used w pool → Lists v adds used (claimed w v xs) pool
unfolding claimed Below
lists_claimed [] b l = l
lists_claimed {w = w} {v = v} (x ∷ xs) b l = lists_claimed {w = with_flag w v x 1} {v = v} xs b.1 (lists_flag w 1 b.0 l)

pub delayed_claimed : {w : List ℕ} {v lo : ℕ} {ps : List Pending} {top : ℕ} {st : List ℕ} (xs : List ℕ) → Below v xs → Delayed w v lo ps top st → Delayed (claimed w v xs) v lo ps top st
unfolding claimed Below
delayed_claimed [] b d = d
delayed_claimed {w = w} {v = v} (x ∷ xs) b d = delayed_claimed {w = with_flag w v x 1} {v = v} xs b.1 (delayed_flag w 1 b.0 d)

-- the cell of a registration is stored
module _ (w : List ℕ) {v r : ℕ} (start inputs lane : ℕ) (h : r < v) where
  pub beyond_cell : SameBeyond v w (with_cell w v r start inputs lane)
  unfolding with_cell
  beyond_cell i k = get_or-set_other w _ i _ 0 (λ e. omega arith)

  pub flags_cell : {t : ℕ → Bool} → Flags v t w → Flags v t (with_cell w v r start inputs lane)
  unfolding with_cell flag_at
  flags_cell {t} f = flags_kept v t w (with_cell w v r start inputs lane) (cell_length w v r start inputs lane) (λ x k. get_or-set_other w _ _ _ 0 (λ e. omega arith)) f

  pub delayed_cell : {lo : ℕ} {ps : List Pending} {top : ℕ} {st : List ℕ} → Delayed w v lo ps top st → Delayed (with_cell w v r start inputs lane) v lo ps top st
  unfolding with_cell
  delayed_cell {lo} {ps} {top} {st} d =
      delayed_same w v lo ps top st d (with_cell w v r start inputs lane) (cell_length w v r start inputs lane)
      (λ p k. get_or-set_other w _ p _ 0 (λ e. omega arith)) (λ q k. get_or-set_other w _ _ _ 0 (λ e. omega arith))
