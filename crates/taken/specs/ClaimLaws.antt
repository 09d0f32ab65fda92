-- Laws of flagging new places in one walk, and of taking the flags back. Assumes nothing.
use Rattle.std.specs.Prelude.{◌≡◌, ◌⊎◌, List, [], ◌∷◌, ◌++◌, Bool, false, ◌||◌, eqb, length, get_or, take}
use Rattle.std.proofs.Math.Path.{refl, sym, ap}
use Rattle.std.proofs.Common.{◌∙◌, inl, inr, true≢false, arith, le-leb}
use Rattle.std.proofs.Math.Bool.{true, cond, or-true}
use Rattle.std.proofs.lemmas.Bool.{false≢true}
use Prim.Native.Nat.{ℕ, zero, suc, ◌+◌, ◌-◌, ◌≤◌, ◌<◌}
use Rattle.std.proofs.Math.Dec.{leb}
use Rattle.std.proofs.Math.Seq.{take_all}
use Rattle.rules.specs.Model.{member}
use Rattle.rules.specs.Checks.{any, repeats, waiting_needed}
use Rattle.laws.specs.ModelBase.{bool_cases}
use Rattle.laws.specs.Accepted.{or_false}
use Rattle.lists.specs.Part.{Below}
use Rattle.lists.specs.Arguments.{below_any, below_append}
use Rattle.lists.specs.Scan.{any_at, any_append, any_one}
use Rattle.taken.specs.Flag.{flag_at, with_flag, flag_twice, flag_own}
use Rattle.taken.specs.Flags.{taken_at, Flags, claimed, Plain, Claiming, unclaimable, Claims}
use Rattle.taken.specs.Repeats.{take_next, take_last, repeats_snoc, repeats_met, repeats_last}
use Rattle.taken.specs.FlagLaws.{flags_claimed, claimed_length}

claimed_snoc : (w : List ℕ) (v : ℕ) (xs : List ℕ) (x : ℕ) → claimed w v (xs ++ (x ∷ [])) ≡ with_flag (claimed w v xs) v x 1
unfolding claimed
claimed_snoc w v [] x = refl
claimed_snoc w v (y ∷ xs) x = claimed_snoc (with_flag w v y 1) v xs x

any_snoc : (t : ℕ → Bool) (xs : List ℕ) (x : ℕ) → any t (xs ++ (x ∷ [])) ≡ (any t xs || t x)
any_snoc t xs x = any_append t xs (x ∷ []) ∙ rw (any_one t x)

below_snoc : (v : ℕ) (xs : List ℕ) (x : ℕ) → Below v xs → x < v → Below v (xs ++ (x ∷ []))
unfolding Below
below_snoc v [] x b h = (h, tt)
below_snoc v (y ∷ xs) x b h = (b.0, below_snoc v xs x b.1 h)

pub claim_start : (w : List ℕ) (v : ℕ) (xs : List ℕ) → Claiming w v xs 0 w
unfolding repeats any claimed Below
claim_start w v xs = record { most = omega arith; below = tt; once = refl; free = refl; is = refl }

pub claim_length : {w : List ℕ} {v : ℕ} {xs : List ℕ} {i : ℕ} {w' : List ℕ} → Claiming w v xs i w' → length w' ≡ length w
claim_length {w} {v} {xs} {i} g = ap length g.is ∙ claimed_length w v (take i xs)

pub unclaim_end : {w : List ℕ} {v : ℕ} {xs : List ℕ} {i : ℕ} {w' : List ℕ} → Claiming w v xs i w' → i ≤ 0 → w' ≡ w
unfolding claimed
unclaim_end {w} {v} {xs} {i} g z = let e : i ≡ 0 = omega arith in g.is ∙ ap (λ (n : ℕ). claimed w v (take n xs)) e

module _ {w : List ℕ} {v : ℕ} (f : Plain w v) where
  own : Flags v (taken_at w v) w
  unfolding taken_at
  own = record { long = f.long; at = λ y z. one (flag_at w v y) (f.plain y z) }
    where
      one : (n : ℕ) → n ≤ 1 → n ≡ cond {A = ℕ} (eqb n 1) 1 0
      one zero z = refl
      one (suc zero) z = refl
      one (suc (suc n)) z = absurd (omega arith)

  -- the flag of a place once some, which are below v, are claimed
  flag : (xs : List ℕ) (x : ℕ) → Below v xs → x < v → flag_at (claimed w v xs) v x ≡ cond {A = ℕ} (taken_at w v x || member x xs) 1 0
  flag xs x b h = (flags_claimed v xs (taken_at w v) w b own).at x h

  module _ {xs : List ℕ} {i : ℕ} {w' : List ℕ} (g : Claiming w v xs i w') where
    -- the place reached is v or more
    pub claim_outside : i < length xs → v ≤ get_or xs i 0 → unclaimable w v xs ≡ true
    unfolding unclaimable
    claim_outside h b = rw (any_at (λ x. leb v x) xs i h (le-leb v (get_or xs i 0) b))

    found : get_or xs i 0 < v → flag_at w' v (get_or xs i 0) ≡ cond {A = ℕ} (taken_at w v (get_or xs i 0) || member (get_or xs i 0) (take i xs)) 1 0
    found b = ap (λ (l : List ℕ). flag_at l v (get_or xs i 0)) g.is ∙ flag (take i xs) (get_or xs i 0) g.below b

    -- its flag is up: it is taken or stands twice
    pub claim_met : i < length xs → get_or xs i 0 < v → (flag_at w' v (get_or xs i 0) ≡ 0 → ⊥) → unclaimable w v xs ≡ true
    unfolding unclaimable
    claim_met h b n = rw (go (bool_cases (taken_at w v (get_or xs i 0))) (bool_cases (member (get_or xs i 0) (take i xs))), or-true)
      where
        go : (taken_at w v (get_or xs i 0) ≡ true) ⊎ (taken_at w v (get_or xs i 0) ≡ false) → (member (get_or xs i 0) (take i xs) ≡ true) ⊎ (member (get_or xs i 0) (take i xs) ≡ false)
            → (repeats xs || any (taken_at w v) xs) ≡ true
        go (inl t) m = rw (any_at (taken_at w v) xs i h t, or-true)
        go (inr t) (inl m) = rw (repeats_met xs i h m)
        go (inr t) (inr m) = absurd (n (found b ∙ rw (t, m)))

    pub claim_next : i < length xs → get_or xs i 0 < v → flag_at w' v (get_or xs i 0) ≡ 0 → Claiming w v xs (i + 1) (with_flag w' v (get_or xs i 0) 1)
    claim_next h b z =
        record {
          most = omega arith;
          below = rw (take_next xs i h) (below_snoc v (take i xs) (get_or xs i 0) g.below b);
          once = ap repeats (take_next xs i h) ∙ repeats_snoc (take i xs) (get_or xs i 0) ∙ rw (g.once, new.1);
          free = ap (any (taken_at w v)) (take_next xs i h) ∙ any_snoc (taken_at w v) (take i xs) (get_or xs i 0) ∙ rw (g.free, new.0);
          is = ap (λ (l : List ℕ). with_flag l v (get_or xs i 0) 1) g.is ∙ sym (ap (claimed w v) (take_next xs i h) ∙ claimed_snoc w v (take i xs) (get_or xs i 0));
        }
      where
        low : (b : Bool) → cond {A = ℕ} b 1 0 ≡ 0 → b ≡ false
        low true e = absurd (omega arith)
        low false e = refl

        new : (taken_at w v (get_or xs i 0) ≡ false) × (member (get_or xs i 0) (take i xs) ≡ false)
        new = or_false _ _ (low _ (sym (found b) ∙ z))

    pub claim_end : length xs ≤ i → Claims w v xs true w'
    unfolding unclaimable
    claim_end h =
        let e = take_all i xs h in
        record {
          answer = rw (below_any v xs (rw e at g.below), sym (ap repeats e) ∙ g.once, sym (ap (any (taken_at w v)) e) ∙ g.free);
          claims = λ q. g.is ∙ ap (claimed w v) e;
          same = λ q. absurd (true≢false q);
        }

    module _ (some : 0 < i) where
      last_below : Below v (take (i - 1) xs) × (get_or xs (i - 1) 0 < v)
      unfolding Below
      last_below = let b = below_append v (take (i - 1) xs) (get_or xs (i - 1) 0 ∷ []) (rw (take_last xs i some g.most) at g.below) in (b.0, b.1.0)

      pub unclaim_in : (i - 1 < length xs) × (get_or xs (i - 1) 0 < v) × (waiting_needed v ≤ length w')
      unclaim_in =
          let k : i - 1 < length xs = omega (arith, g.most) in
          (k, last_below.1, omega (arith, f.long, claim_length g))

      pub unclaim_next : Claiming w v xs (i - 1) (with_flag w' v (get_or xs (i - 1) 0) 0)
      unclaim_next = record { most = omega (arith, g.most); below = last_below.0; once = single.0; free = clear.0; is = back }
        where
          single : (repeats (take (i - 1) xs) ≡ false) × (member (get_or xs (i - 1) 0) (take (i - 1) xs) ≡ false)
          single = repeats_last xs i some g.most g.once

          clear : (any (taken_at w v) (take (i - 1) xs) ≡ false) × (taken_at w v (get_or xs (i - 1) 0) ≡ false)
          clear = or_false _ _ (sym (ap (any (taken_at w v)) (take_last xs i some g.most) ∙ any_snoc (taken_at w v) (take (i - 1) xs) (get_or xs (i - 1) 0)) ∙ g.free)

          low : flag_at (claimed w v (take (i - 1) xs)) v (get_or xs (i - 1) 0) ≡ 0
          low = flag (take (i - 1) xs) (get_or xs (i - 1) 0) last_below.0 last_below.1 ∙ rw (clear.1, single.1)

          back : with_flag w' v (get_or xs (i - 1) 0) 0 ≡ claimed w v (take (i - 1) xs)
          back =
              ap (λ (l : List ℕ). with_flag l v (get_or xs (i - 1) 0) 0) (g.is ∙ ap (claimed w v) (take_last xs i some g.most) ∙ claimed_snoc w v (take (i - 1) xs) (get_or xs (i - 1) 0))
              ∙ flag_twice (claimed w v (take (i - 1) xs)) v (get_or xs (i - 1) 0) 1 0
              ∙ ap (with_flag (claimed w v (take (i - 1) xs)) v (get_or xs (i - 1) 0)) (sym low)
              ∙ flag_own (claimed w v (take (i - 1) xs)) v (get_or xs (i - 1) 0)

-- taken back: one of them cannot be claimed, and storage is as it was
pub claim_refused : {w : List ℕ} {v : ℕ} {xs w' : List ℕ} → unclaimable w v xs ≡ true → w' ≡ w → Claims w v xs false w'
claim_refused e s = record { answer = rw e; claims = λ q. absurd (false≢true q); same = λ q. s }

module _ {w : List ℕ} {v : ℕ} (f : Plain w v) where
  module _ {xs : List ℕ} {i : ℕ} {w' : List ℕ} (g : Claiming w v xs i w') where
    -- a place below v has its flag in storage
    pub claim_in : get_or xs i 0 < v → (get_or xs i 0 < v) × (waiting_needed v ≤ length w')
    claim_in b = (b, omega (arith, f.long, claim_length g))
