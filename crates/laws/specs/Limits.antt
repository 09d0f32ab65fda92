-- What the checks keep bounded: the counts of registrations, list numbers and plain flushes (`Limits`), the lanes of registrations, and the
-- places that lists and sets name (`Inside`).
use Rattle.std.specs.Prelude.{◌≡◌, refl, ◌⊎◌, ◌≢◌, ℕ, ◌+◌, ◌≤◌, ◌<◌, false, length}
use Rattle.std.proofs.Common.{sym, ap, ◌∙◌, inl, inr, arith}
use mathlib.Core.List.Memᴰ
use mathlib.Core.List.{List, [], ◌∷◌, ◌++◌}
use Rattle.std.proofs.Math.ListN.{length-append, get_or-eq_default}
use Rattle.rules.specs.Limits.{most_lane, most_in_a_list, most_flushes}
use Rattle.rules.specs.Model.{with_record, Reg, Model, reg_of, place_one, keep, rest, with_set, with_add, with_flush, initial}
use Rattle.rules.specs.Checks.{repeats, pooled}
use Rattle.laws.specs.ModelBase.{In}
use Rattle.laws.specs.History.{lt_or_le}
use Rattle.laws.specs.GuideInv.{eq_or_ne}
use Rattle.laws.specs.CallInv.{reg_of_old, reg_of_new}
use Rattle.laws.specs.Accepted.{AddPassed, set_passed, add_passed, flush_passed}
use Rattle.laws.specs.Kept.{Kept}

-- every one of a list is below N
abbrev pub AllBelow : ℕ → List ℕ → Type 0
AllBelow N l = (i : ℕ) → In i l → i < N

-- the counts
pub record Limits (N W : ℕ) (k : Model) (st : List ℕ) : Type 0 where
  pub many : length k.adds ≤ N
  pub pool : pooled k.adds ≤ W
  pub few : k.flushes ≤ most_flushes
  pub rows : length k.recorded.written ≤ length k.adds

-- an accepted registration's lane and lists
pub record Bounded (N : ℕ) (a : Reg) : Type 0 where
  pub lane_few : a.lane ≤ most_lane
  pub ins_few : length a.ins ≤ most_in_a_list
  pub outs_few : length a.outs ≤ most_in_a_list
  pub ins_below : AllBelow N a.ins
  pub outs_below : AllBelow N a.outs
  pub outs_once : repeats a.outs ≡ false

-- the lanes and the places
pub record Inside (N : ℕ) (k : Model) (st : List ℕ) : Type 0 where
  pub lists : (r : ℕ) → Bounded N (reg_of k r)
  pub sets_below : AllBelow N k.sets

pub pooled_append : (l : List Reg) (a : Reg) → pooled (l ++ (a ∷ [])) ≡ pooled l + length a.ins + length a.outs
unfolding pooled
pooled_append [] a = omega arith
pooled_append (x ∷ l) a = omega (arith, pooled_append l a)

-- after one more is accepted a registration is what it was, or it is the new one
pub reg_cases : (a : Reg) (k : Model) (r : ℕ) → (reg_of (with_add a k) r ≡ reg_of k r) ⊎ (reg_of (with_add a k) r ≡ a)
unfolding reg_of with_add
reg_cases a k r = go (lt_or_le r (length k.adds)) (eq_or_ne r (length k.adds))
  where
    go : (r < length k.adds) ⊎ (length k.adds ≤ r) → (r ≡ length k.adds) ⊎ (r ≢ length k.adds) → (reg_of (with_add a k) r ≡ reg_of k r) ⊎ (reg_of (with_add a k) r ≡ a)
    go (inl h) e = inl (reg_of_old a k r h)
    go (inr h) (inl e) = inr (ap (reg_of (with_add a k)) e ∙ reg_of_new a k)
    go (inr h) (inr e) = inl (get_or-eq_default (k.adds ++ (a ∷ [])) _ {n = r} (simp length-append (omega arith)) ∙ sym (get_or-eq_default k.adds _ {n = r} h))

module _ (P N W : ℕ) where
  limits_adding : (lane : ℕ) (ins outs : List ℕ) (k : Model) (st : List ℕ) → length k.adds < N → pooled k.adds + length ins + length outs ≤ W → Limits N W k []
      → Limits N W (with_add (record { lane = lane; ins = ins; outs = outs }) k) st
  unfolding with_add
  limits_adding lane ins outs k st h p l =
      record {
        many = simp length-append (omega arith);
        pool = rw (pooled_append k.adds (record { lane = lane; ins = ins; outs = outs })) p;
        few = l.few;
        rows = simp length-append (omega (arith, l.rows));
      }

  -- every part of every call keeps the counts
  pub limits_kept : Kept P N W (Limits N W)
  unfolding rest keep with_set place_one with_flush with_record
  limits_kept =
      record {
        placing = λ c r st k h v l. record { many = l.many; pool = l.pool; few = l.few; rows = l.rows };
        setting = λ x k v a l. record { many = l.many; pool = l.pool; few = l.few; rows = l.rows };
        adding = λ lane ins outs k v a e l. let p = add_passed N W lane ins outs k a in limits_adding lane ins outs k _ p.more p.room l;
        delaying = λ lane ins outs k v a e l. let p = add_passed N W lane ins outs k a in let m = limits_adding lane ins outs k [] p.more p.room l in
            record { many = m.many; pool = m.pool; few = m.few; rows = m.rows };
        flushing = λ k v a l. record { many = l.many; pool = l.pool; few = omega (arith, (flush_passed N W k a).few); rows = l.rows };
        closing = λ k v a l. record { many = l.many; pool = l.pool; few = l.few; rows = l.rows };
        recording = λ d k v n l. record { many = l.many; pool = l.pool; few = l.few; rows = omega (arith, n.many) };
      }

  inside_adding : (lane : ℕ) (ins outs : List ℕ) (k : Model) (st : List ℕ) → Bounded N (record { lane = lane; ins = ins; outs = outs }) →
      Inside N k [] → Inside N (with_add (record { lane = lane; ins = ins; outs = outs }) k) st
  unfolding with_add
  inside_adding lane ins outs k st g l = record { lists = λ r. go r (reg_cases _ k r); sets_below = l.sets_below }
    where
      go : (r : ℕ) → (reg_of (with_add (record { lane = lane; ins = ins; outs = outs }) k) r ≡ reg_of k r)
          ⊎ (reg_of (with_add (record { lane = lane; ins = ins; outs = outs }) k) r ≡ record { lane = lane; ins = ins; outs = outs })
          → Bounded N (reg_of (with_add (record { lane = lane; ins = ins; outs = outs }) k) r)
      go r (inl e) = rw e (l.lists r)
      go r (inr e) = rw e g

  -- what the checks say of an accepted add's lane and lists
  passed_bounded : (lane : ℕ) (ins outs : List ℕ) (k : Model) → AddPassed N W lane ins outs k → Bounded N (record { lane = lane; ins = ins; outs = outs })
  passed_bounded lane ins outs k p = record { lane_few = p.lane_few; ins_few = p.ins_few; outs_few = p.outs_few; ins_below = p.ins_inside; outs_below = p.outs_inside; outs_once = p.once }

  set_below : (x : ℕ) (k : Model) → x < N → AllBelow N k.sets → AllBelow N (x ∷ k.sets)
  set_below x k h b i y = go (Memᴰ.cases_cons y)
    where
      go : (i ≡ x) ⊎ In i k.sets → i < N
      go (inl e) = omega arith
      go (inr e) = b i e

  -- and the places
  pub inside_kept : Kept P N W (Inside N)
  unfolding rest keep with_set place_one with_flush with_record reg_of
  inside_kept =
      record {
        placing = λ c r st k h v l. record { lists = l.lists; sets_below = l.sets_below };
        setting = λ x k v a l. record { lists = l.lists; sets_below = set_below x k (set_passed N W x k a).inside l.sets_below };
        adding = λ lane ins outs k v a e l. inside_adding lane ins outs k _ (passed_bounded lane ins outs k (add_passed N W lane ins outs k a)) l;
        delaying = λ lane ins outs k v a e l. let m = inside_adding lane ins outs k
            [] (passed_bounded lane ins outs k (add_passed N W lane ins outs k a)) l in record
            { lists = m.lists; sets_below = m.sets_below };
        flushing = λ k v a l. record { lists = l.lists; sets_below = l.sets_below };
        closing = λ k v a l. record { lists = l.lists; sets_below = l.sets_below };
        recording = λ d k v n l. record { lists = l.lists; sets_below = l.sets_below };
      }

pub limits_initial : (N W : ℕ) → Limits N W initial []
unfolding initial pooled
limits_initial N W = record { many = omega arith; pool = omega arith; few = omega arith; rows = omega arith }

pub inside_initial : (N : ℕ) → Inside N initial []
unfolding initial reg_of repeats
inside_initial N =
    record {
      lists = λ r. record {
        lane_few = omega arith;
        ins_few = omega arith;
        outs_few = omega arith;
        ins_below = λ i h. absurd (Memᴰ.not-nil h);
        outs_below = λ i h. absurd (Memᴰ.not-nil h);
        outs_once = refl;
      };
      sets_below = λ i h. absurd (Memᴰ.not-nil h);
    }
