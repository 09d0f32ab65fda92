-- What a step of the guide leaves alone in its storage. `GuideFrame` is reflexive and transitive, so that a caller composes it over any number
-- of steps. Assumes nothing.
use Rattle.std.specs.Prelude.{◌≡◌, refl, List, ℕ, ◌≤◌, ◌<◌, length, get_or}
use Rattle.std.proofs.Common.{◌∙◌, arith}
use Rattle.rules.specs.Checks.{spans_needed}
use Rattle.entries.specs.Entries.{extent}

-- with P = p, and n entries in the order before and n' after: lengths stay; spans beyond their 32 · (p + 1) entries are untouched; so are
-- the order's first n entries and all not yet appended, and the tally beyond its p + 1 counts
pub record GuideFrame (p n n' : ℕ) (s o t s' o' t' : List ℕ) : Type 0 where
  pub spans_length : length s' ≡ length s
  pub order_length : length o' ≡ length o
  pub tally_length : length t' ≡ length t
  pub spans_beyond : (j : ℕ) → extent (spans_needed p) ≤ j → get_or s' j 0 ≡ get_or s j 0
  pub grows : n ≤ n'
  pub order_kept : (j : ℕ) → j < extent n → get_or o' j 0 ≡ get_or o j 0
  pub order_beyond : (j : ℕ) → extent n' ≤ j → get_or o' j 0 ≡ get_or o j 0
  pub tally_beyond : (x : ℕ) → p < x → get_or t' x 0 ≡ get_or t x 0

pub frame_refl : (p n : ℕ) (s o t : List ℕ) → GuideFrame p n n s o t s o t
frame_refl p n s o t =
    record {
      spans_length = refl;
      order_length = refl;
      tally_length = refl;
      spans_beyond = λ j h. refl;
      grows = omega arith;
      order_kept = λ j h. refl;
      order_beyond = λ j h. refl;
      tally_beyond = λ x h. refl;
    }

pub frame_trans : {p n n' n'' : ℕ} {s o t s' o' t' s'' o'' t'' : List ℕ} → GuideFrame p n n' s o t s' o' t' → GuideFrame p n' n'' s' o' t' s'' o'' t'' → GuideFrame p n n'' s o t s'' o'' t''
frame_trans f g =
    record {
      spans_length = g.spans_length ∙ f.spans_length;
      order_length = g.order_length ∙ f.order_length;
      tally_length = g.tally_length ∙ f.tally_length;
      spans_beyond = λ j h. g.spans_beyond j h ∙ f.spans_beyond j h;
      grows = omega (arith, f.grows, g.grows);
      order_kept = λ j h. g.order_kept j (omega (arith, f.grows)) ∙ f.order_kept j h;
      order_beyond = λ j h. g.order_beyond j h ∙ f.order_beyond j (omega (arith, g.grows));
      tally_beyond = λ x h. g.tally_beyond x h ∙ f.tally_beyond x h;
    }
