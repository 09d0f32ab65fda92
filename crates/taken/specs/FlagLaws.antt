-- What the flags say: a test of flags is the test of taken places, and claiming places makes them taken. Assumes nothing.
use Rattle.std.specs.Prelude.{◌≡◌, refl, List, [], ◌∷◌, ◌++◌, Bool, true, false, cond, ◌||◌, ℕ, ◌≤◌, ◌<◌, eqb, length}
use Rattle.std.proofs.Common.{sym, ap, ◌∙◌, ⊎_elim, arith, eq-eqb, ne_eqb}
use Rattle.std.proofs.Math.Bool.{or-false}
use Rattle.std.specs.List.{list_any}
use Rattle.rules.specs.Model.{Reg, Model, member, with_add, with_set, initial}
use Rattle.rules.specs.Checks.{any, taken, written_by, waiting_needed}
use Rattle.laws.specs.Apart.{written_append}
use Rattle.laws.specs.GuideInv.{eq_or_ne}
use Rattle.lists.specs.Part.{Below}
use Rattle.taken.specs.Flag.{flag_at, with_flag, flag_length, flag_same, flag_other}
use Rattle.taken.specs.Flags.{taken_at, Flags, claimed, Plain, Flagged}

-- a place's flag says whether it is taken
pub flag_is : (N : ℕ) (t : ℕ → Bool) (w : List ℕ) → Flags N t w → (x : ℕ) → x < N → taken_at w N x ≡ t x
unfolding taken_at
flag_is N t w f x h = ap (λ (n : ℕ). eqb n 1) (f.at x h) ∙ tests (t x)
  where
    tests : (c : Bool) → eqb (cond {A = ℕ} c 1 0) 1 ≡ c
    tests true = refl
    tests false = refl

-- one of a list passes a test: the rules' word and std's
pub any_is : (t : ℕ → Bool) (xs : List ℕ) → any t xs ≡ list_any t xs
unfolding any
any_is t [] = refl
any_is t (x ∷ xs) = ap (λ (c : Bool). t x || c) (any_is t xs)

-- the same for one of a list
pub flags_any : (N : ℕ) (t : ℕ → Bool) (w : List ℕ) → Flags N t w → (xs : List ℕ) → Below N xs → any (taken_at w N) xs ≡ any t xs
unfolding any Below
flags_any N t w f [] b = refl
flags_any N t w f (x ∷ xs) b = rw (flag_is N t w f x b.0, flags_any N t w f xs b.1)

pub plain_of : (N : ℕ) (t : ℕ → Bool) (w : List ℕ) → Flags N t w → Plain w N
plain_of N t w f = record { long = f.long; plain = λ x h. rw (f.at x h) (small (t x)) }
  where
    small : (c : Bool) → cond {A = ℕ} c 1 0 ≤ 1
    small true = omega arith
    small false = omega arith

pub flagged_of : (N : ℕ) (t : ℕ → Bool) (w : List ℕ) → Flags N t w → (xs : List ℕ) → Below N xs → Flagged w N xs
flagged_of N t w f xs b = record { flags = plain_of N t w f; below = b }

-- another test that says the same
pub flags_same : (N : ℕ) (t u : ℕ → Bool) (w : List ℕ) → ((x : ℕ) → x < N → u x ≡ t x) → Flags N t w → Flags N u w
flags_same N t u w e f = record { long = f.long; at = λ x h. f.at x h ∙ ap (λ (c : Bool). cond {A = ℕ} c 1 0) (sym (e x h)) }

-- only the flags matter
pub flags_kept : (N : ℕ) (t : ℕ → Bool) (w w' : List ℕ) → length w' ≡ length w → ((x : ℕ) → x < N → flag_at w' N x ≡ flag_at w N x) → Flags N t w → Flags N t w'
flags_kept N t w w' e same f = record { long = omega (arith, f.long); at = λ x h. same x h ∙ f.at x h }

-- opening: no place is taken
pub flags_open : (N : ℕ) (w : List ℕ) → waiting_needed N ≤ length w → ((x : ℕ) → x < N → flag_at w N x ≡ 0) → Flags N (taken initial) w
unfolding taken initial member written_by
flags_open N w long z = record { long = long; at = z }

-- one place claimed
flags_one : (N : ℕ) (t : ℕ → Bool) (w : List ℕ) (y : ℕ) → y < N → Flags N t w → Flags N (λ x. eqb x y || t x) (with_flag w N y 1)
flags_one N t w y h f = record { long = omega (arith, f.long, flag_length w N y 1); at = λ x k. ⊎_elim (λ e. here x e) (λ n. other x k n) (eq_or_ne x y) }
  where
    here : (x : ℕ) → x ≡ y → flag_at (with_flag w N y 1) N x ≡ cond {A = ℕ} (eqb x y || t x) 1 0
    here x e = rw (eq-eqb x y e) (rw e (flag_same w N y 1 h f.long))

    other : (x : ℕ) → x < N → (x ≡ y → ⊥) → flag_at (with_flag w N y 1) N x ≡ cond {A = ℕ} (eqb x y || t x) 1 0
    other x k n = rw (ne_eqb x y n, flag_other w N y 1 x n) (f.at x k)

pub flags_set : (N x : ℕ) (k : Model) (w : List ℕ) → x < N → Flags N (taken k) w → Flags N (taken (with_set x k)) (with_flag w N x 1)
unfolding taken with_set member
flags_set N x k w h f =
    flags_same N (λ y. eqb y x || taken k y) (taken (with_set x k)) (with_flag w N x 1) (λ y l. three (eqb y x) (member y k.sets) (written_by y k.adds)) (flags_one N (taken k) w x h f)
  where
    three : (a b c : Bool) → ((a || b) || c) ≡ (a || (b || c))
    three true b c = refl
    three false b c = refl

-- a list of them
pub flags_claimed : (N : ℕ) (xs : List ℕ) (t : ℕ → Bool) (w : List ℕ) → Below N xs → Flags N t w → Flags N (λ x. t x || member x xs) (claimed w N xs)
unfolding claimed member Below
flags_claimed N [] t w b f = flags_same N t (λ x. t x || false) w (λ x h. or-false (t x)) f
flags_claimed N (y ∷ xs) t w b f =
    flags_same N (λ x. (eqb x y || t x) || member x xs) (λ x. t x || (eqb x y || member x xs)) (claimed (with_flag w N y 1) N xs) (λ x h. three (t x) (eqb x y) (member x xs))
    (flags_claimed N xs (λ x. eqb x y || t x) (with_flag w N y 1) b.1 (flags_one N t w y b.0 f))
  where
    three : (a b c : Bool) → (a || (b || c)) ≡ ((b || a) || c)
    three true true c = refl
    three true false c = refl
    three false true c = refl
    three false false c = refl

pub flags_add : (N : ℕ) (a : Reg) (k : Model) (w : List ℕ) → Below N a.outs → Flags N (taken k) w → Flags N (taken (with_add a k)) (claimed w N a.outs)
unfolding taken with_add written_by
flags_add N a k w b f = flags_same N (λ x. taken k x || member x a.outs) (taken (with_add a k)) (claimed w N a.outs) (λ x h. one x) (flags_claimed N a.outs (taken k) w b f)
  where
    three : (a b c : Bool) → (a || (b || (c || false))) ≡ ((a || b) || c)
    three true b c = refl
    three false true c = refl
    three false false c = or-false c

    one : (x : ℕ) → (member x k.sets || written_by x (k.adds ++ (a ∷ []))) ≡ ((member x k.sets || written_by x k.adds) || member x a.outs)
    one x = ap (λ (c : Bool). member x k.sets || c) (written_append x k.adds (a ∷ [])) ∙ three (member x k.sets) (written_by x k.adds) (member x a.outs)

pub claimed_length : (w : List ℕ) (v : ℕ) (xs : List ℕ) → length (claimed w v xs) ≡ length w
unfolding claimed
claimed_length w v [] = refl
claimed_length w v (x ∷ xs) = claimed_length (with_flag w v x 1) v xs ∙ flag_length w v x 1
