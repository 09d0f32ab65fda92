-- A place is set once or written by one registration: sets and the outputs of accepted adds never meet, nor do the outputs of two.
-- Checks 6 and 8 keep it so.
use Rattle.std.specs.Prelude.{◌≡◌, ◌⊎◌, ◌≢◌, Bool, true, false, ◌||◌, ℕ, zero, suc, ◌≤◌, ◌<◌, length, get_or}
use Rattle.std.proofs.Math.Path.{refl}
use Rattle.std.proofs.Common.{sym, ◌∙◌, inl, inr, arith}
use mathlib.Core.List.Memᴰ
use mathlib.Core.List.{List, [], ◌∷◌, ◌++◌}
use Rattle.std.proofs.Math.Bool.{or-true}
use Rattle.std.proofs.lemmas.Bool.{false≢true}
use Rattle.rules.specs.Model.{with_record, Reg, Model, member, reg_of, place_one, keep, rest, with_set, with_add, with_flush, initial}
use Rattle.rules.specs.Checks.{written_by, taken}
use Rattle.laws.specs.ModelBase.{In, bool_cases, in_member}
use Rattle.laws.specs.Accepted.{set_passed, add_passed}
use Rattle.laws.specs.History.{lt_or_le}
use Rattle.laws.specs.GuideInv.{eq_or_ne}
use Rattle.laws.specs.CallInv.{reg_of_old, reg_of_new, reg_of_beyond}
use Rattle.laws.specs.Kept.{Kept}

pub written_append : (x : ℕ) (as' bs : List Reg) → written_by x (as' ++ bs) ≡ (written_by x as' || written_by x bs)
unfolding written_by
written_append x [] bs = refl
written_append x (a ∷ as') bs = go (member x a.outs) (written_append x as' bs)
  where
    go : (c : Bool) → written_by x (as' ++ bs) ≡ (written_by x as' || written_by x bs) → (c || written_by x (as' ++ bs)) ≡ ((c || written_by x as') || written_by x bs)
    go true e = refl
    go false e = e

written_in : (i : ℕ) (l : List Reg) (r : ℕ) (d : Reg) → d.outs ≡ [] → In i (get_or l r d).outs → written_by i l ≡ true
unfolding written_by
written_in i [] r d h y = absurd (Memᴰ.not-nil (rw h at y))
written_in i (a ∷ l) zero d h y = rw (in_member i a.outs y)
written_in i (a ∷ l) (suc r) d h y = rw (written_in i l r d h y, or-true)

reg_written : (i : ℕ) (k : Model) (r : ℕ) → In i (reg_of k r).outs → written_by i k.adds ≡ true
unfolding reg_of
reg_written i k r y = written_in i k.adds r _ refl y

taken_not : (k : Model) (i : ℕ) → taken k i ≡ false → (member i k.sets ≡ false) × (written_by i k.adds ≡ false)
unfolding taken
taken_not k i h = go (bool_cases (member i k.sets))
  where
    go : (member i k.sets ≡ true) ⊎ (member i k.sets ≡ false) → (member i k.sets ≡ false) × (written_by i k.adds ≡ false)
    go (inl e) = absurd (false≢true (sym (rw e at h)))
    go (inr e) = (e, rw e at h)

free_set : (k : Model) (i : ℕ) → taken k i ≡ false → In i k.sets → ⊥
free_set k i h y = false≢true (sym (taken_not k i h).0 ∙ in_member i k.sets y)

pub free_out : (k : Model) (i r : ℕ) → taken k i ≡ false → In i (reg_of k r).outs → ⊥
free_out k i r h y = false≢true (sym (taken_not k i h).1 ∙ reg_written i k r y)

-- sets and outputs apart, and the outputs of two registrations apart
pub record Apart (k : Model) (st : List ℕ) : Type 0 where
  pub sets_apart : (i r : ℕ) → In i k.sets → In i (reg_of k r).outs → ⊥
  pub outs_apart : (i r t : ℕ) → In i (reg_of k r).outs → In i (reg_of k t).outs → r ≡ t

-- an output of a registration after one more is accepted: it was one before, or it is of the new one
out_cases : (a : Reg) (k : Model) (r i : ℕ) → In i (reg_of (with_add a k) r).outs → In i (reg_of k r).outs ⊎ ((r ≡ length k.adds) × In i a.outs)
out_cases a k r i y = go (lt_or_le r (length k.adds)) (eq_or_ne r (length k.adds))
  where
    go : (r < length k.adds) ⊎ (length k.adds ≤ r) → (r ≡ length k.adds) ⊎ (r ≢ length k.adds) → In i (reg_of k r).outs ⊎ ((r ≡ length k.adds) × In i a.outs)
    go (inl h) e = inl (rw (reg_of_old a k r h) at y)
    go (inr h) (inl e) = inr (e, rw (e, reg_of_new a k) at y)
    go (inr h) (inr e) = absurd (Memᴰ.not-nil (rw (reg_of_beyond a k r (omega arith)) at y))

with_add_apart : (a : Reg) (k : Model) (st st' : List ℕ) → ((i : ℕ) → In i a.outs → taken k i ≡ false) → Apart k st → Apart (with_add a k) st'
unfolding with_add
with_add_apart a k st st' f p =
    record {
      sets_apart = λ i r y z. one i r y (out_cases a k r i z);
      outs_apart = λ i r t y z. two i r t (out_cases a k r i y) (out_cases a k t i z);
    }
  where
    one : (i r : ℕ) → In i k.sets → In i (reg_of k r).outs ⊎ ((r ≡ length k.adds) × In i a.outs) → ⊥
    one i r y (inl z) = p.sets_apart i r y z
    one i r y (inr z) = free_set k i (f i z.1) y

    two : (i r t : ℕ) → In i (reg_of k r).outs ⊎ ((r ≡ length k.adds) × In i a.outs) → In i (reg_of k t).outs ⊎ ((t ≡ length k.adds) × In i a.outs) → r ≡ t
    two i r t (inl y) (inl z) = p.outs_apart i r t y z
    two i r t (inl y) (inr z) = absurd (free_out k i r (f i z.1) y)
    two i r t (inr y) (inl z) = absurd (free_out k i t (f i y.1) z)
    two i r t (inr y) (inr z) = y.0 ∙ sym z.0

same_apart : (k j : Model) (st st' : List ℕ) → j.sets ≡ k.sets → j.adds ≡ k.adds → Apart k st → Apart j st'
unfolding reg_of
same_apart k j st st' e f p =
    record { sets_apart = λ i r y z. p.sets_apart i r (rw e at y) (rw f at z); outs_apart = λ i r t y z. p.outs_apart i r t (rw f at y) (rw f at z) }

pub apart_initial : Apart initial []
unfolding initial reg_of
apart_initial = record { sets_apart = λ i r y z. Memᴰ.not-nil y; outs_apart = λ i r t y z. absurd (Memᴰ.not-nil y) }

with_set_apart : (x : ℕ) (k : Model) (st st' : List ℕ) → taken k x ≡ false → Apart k st → Apart (with_set x k) st'
unfolding with_set reg_of
with_set_apart x k st st' f p =
    record { sets_apart = λ i r y z. go i r z (Memᴰ.cases_cons y); outs_apart = p.outs_apart }
  where
    go : (i r : ℕ) → In i (reg_of k r).outs → (i ≡ x) ⊎ In i k.sets → ⊥
    go i r z (inl e) = free_out k x r f (rw e at z)
    go i r z (inr e) = p.sets_apart i r e z

module _ (P N W : ℕ) (hP : 1 ≤ P) where
  -- every part of every call keeps it
  pub apart_kept : Kept P N W Apart
  unfolding rest keep with_set place_one with_flush with_record
  apart_kept =
      record {
        placing = λ c r st k l v p. same_apart k (rest N (place_one P c r k)) (r ∷ st) _ refl refl p;
        setting = λ x k v a p. same_apart (with_set x k) (rest N (with_set x k)) [] _ refl refl (with_set_apart x k [] [] (set_passed N W x k a).free p);
        adding = λ lane ins outs k v a e p. with_add_apart _ k [] _ (add_passed N W lane ins outs k a).free p;
        delaying = λ lane ins outs k v a e p. same_apart (with_add _ k) _ [] [] refl refl (with_add_apart _ k [] [] (add_passed N W lane ins outs k a).free p);
        flushing = λ k v a p. same_apart k _ [] [] refl refl p;
        closing = λ k v a p. same_apart k _ [] [] refl refl p;
        recording = λ d k v n p. same_apart k _ [] [] refl refl p;
      }
