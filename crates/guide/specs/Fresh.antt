-- A fresh guide over storage whose first P + 1 counts are 0 stands for the fresh guide of `rules`. Assumes nothing.
use Rattle.std.specs.Prelude.{◌≡◌, refl, List, ℕ, zero, suc, ◌+◌, ◌≤◌, ◌<◌, length, take, replicate}
use Rattle.std.proofs.Common.{arith}
use Rattle.std.proofs.Math.ListN.{get_or-replicate}
use Rattle.rules.specs.Limits.{most_parallelism, most_places}
use Rattle.rules.specs.Checks.{spans_needed}
use Rattle.rules.specs.Guide.{fresh, tally, tallied}
use Rattle.rules.specs.Summary.{sum}
use Rattle.entries.specs.Entries.{fits}
use Rattle.buffer.specs.declared.Guide.{Guide}
use Rattle.buffer.specs.View.{spans_of, order_of, view, Away, Distinct, Most, upto, Laid}
use Rattle.buffer.specs.Rows.{upto_length}
use Rattle.placing.specs.Stands.{Stands}

away_upto : (x n m : ℕ) → x < n → Away x (upto n m)
unfolding Away upto
away_upto x n zero h = tt
away_upto x n (suc m) h = ((λ e. omega arith), away_upto x (suc n) m (omega arith))

distinct_upto : (n m : ℕ) → Distinct (upto n m)
unfolding Distinct upto
distinct_upto n zero = tt
distinct_upto n (suc m) = (away_upto n (suc n) m (omega arith), distinct_upto (suc n) m)

most_upto : (k n m : ℕ) → n + m ≤ suc k → Most k (upto n m)
unfolding Most upto
most_upto k n zero h = tt
most_upto k n (suc m) h = (omega arith, most_upto k (suc n) m (omega arith))

most_zeros : (k m : ℕ) → Most k (replicate m 0)
unfolding Most
most_zeros k zero = tt
most_zeros k (suc m) = (omega arith, most_zeros k m)

-- numbers 0 to 31, all lengths 0, row i for span i, nothing held and nothing written
unfoldable pub first_guide : ℕ → ℕ → Guide
first_guide p v = record { held = 0; window = record { ids = upto 0 32; lens = replicate 32 0; rows = upto 0 32 }; p = p; v = v; written = 0 }

module _ (p v : ℕ) (s o t : List ℕ) (hp : 1 ≤ p) (hq : p ≤ most_parallelism) (hv : v ≤ most_places) (ls : fits s (spans_needed p)) (lo : fits o v) (lt : p < length t)
    (zt : take (p + 1) t ≡ replicate (p + 1) 0) where
  laid : Laid (first_guide p v) s
  unfolding first_guide upto sum
  laid =
      record {
        one = hp;
        few = hq;
        rows_many = upto_length 0 32;
        lens_many = refl;
        distinct = distinct_upto 0 32;
        below = most_upto 31 0 32 (omega arith);
        short = most_zeros (p + 1) 32;
        numbered = refl;
        held_is = refl;
        long = ls;
        unassigned = λ i j hi hj. absurd (omega (arith, get_or-replicate {A = ℕ} 32 i 0 0 hi));
      }

  pub fresh_stands : Stands (first_guide p v) s o t
  unfolding first_guide order_of tally tallied
  fresh_stands = record { laid = laid; small = hv; order_long = lo; tally_long = lt; tally_is = zt }

pub fresh_view : (p v : ℕ) (s o : List ℕ) → view (first_guide p v) s o ≡ fresh
unfolding first_guide view fresh spans_of order_of upto
fresh_view p v s o = refl
