-- The parts of what a session just opened stands for, each from the slices that were cleared for it: guide, rows and places. The waiting
-- storage has no part in them, so that sessions without one open by the same laws. Assumes nothing.
use Rattle.std.specs.Prelude.{◌≡◌, refl, List, ℕ, zero, suc, ◌+◌, ◌≤◌, ◌<◌, length, get_or, take, replicate}
use Rattle.std.proofs.Common.{sym, ◌∙◌, arith, length-take, get_or-take, ext_get_or}
use Rattle.std.proofs.lemmas.List.{length-replicate, get_or-replicate}
use Rattle.rules.specs.Guide.{fresh}
use Rattle.rules.specs.Limits.{most_parallelism, most_places}
use Rattle.rules.specs.Checks.{spans_needed}
use Rattle.rules.specs.Model.{initial, watermark as watermark_of, run_from, tracked, member, marked}
use Rattle.rules.specs.Record.{row_of}
use Rattle.tracking.specs.Places.{places_open}
use Rattle.guide.specs.Fresh.{first_guide, fresh_stands, fresh_view}
use Rattle.entries.specs.Entries.{fits}
use Rattle.records.specs.Filling.{row_extent, rows_fit}
use Rattle.records.specs.Filled.{blank_rows}
use Rattle.zeros.specs.Zeros.{Cleared}
use Rattle.session.specs.Storage.{Storage, Beyond, beyond_drop}
use Rattle.session.specs.Rep.{Guided, Rowed, Tracked}

tally_zeros : (P : ℕ) (t : List ℕ) → P < length t → ((i : ℕ) → i < P + 1 → get_or t i 0 ≡ 0) → take (P + 1) t ≡ replicate (P + 1) 0
tally_zeros P t h z =
    ext_get_or 0 (take (P + 1) t) (replicate (P + 1) 0) (len ∙ sym (length-replicate (P + 1) 0))
    (λ i q. let k : i < P + 1 = omega (arith, len) in get_or-take (P + 1) t i 0 k ∙ z i k ∙ sym (get_or-replicate (P + 1) i 0 0 k))
  where
    len : length (take (P + 1) t) ≡ P + 1
    len = simp length-take (omega arith)

-- t being the tally before
pub fresh_guided : (P N : ℕ) (t : List ℕ) (τ : Storage) → 1 ≤ P → P ≤ most_parallelism → 1 ≤ N → N ≤ most_places
    → fits τ.spans (spans_needed P) → fits τ.order N → P < length t → Cleared 0 (P + 1) t τ.tally → Guided P N initial (first_guide P N) τ
unfolding initial first_guide fresh
fresh_guided P N t τ one few places small spans order h c =
    record {
      p_is = refl;
      v_is = refl;
      places = places;
      stands = fresh_stands P N τ.spans τ.order τ.tally one (omega arith) small spans order long (tally_zeros P τ.tally long (λ i k. c.zero i (omega arith) k));
      view_is = fresh_view P N τ.spans τ.order;
    }
  where
    long : P < length τ.tally
    long = omega (arith, c.long)

-- rs being the rows before
pub fresh_rowed : (N : ℕ) (rs : List ℕ) (τ : Storage) → rows_fit rs N → Cleared 0 (row_extent N) rs τ.rows → Rowed N initial τ
unfolding initial fresh row_of
fresh_rowed N rs τ h c = record { long = omega (arith, c.long); rows = blank_rows N τ.rows (λ j k. c.zero j (omega arith) k) }

zero_run : (N : ℕ) → watermark_of N initial ≡ 0
unfolding watermark_of run_from initial tracked member marked
zero_run zero = refl
zero_run (suc N) = refl

-- m and l being marks and locations before
pub fresh_tracked : (N : ℕ) (m l : List ℕ) (τ : Storage) → N ≤ length m → N ≤ length l → Cleared 0 N m τ.marks → Cleared 0 N l τ.locations → Tracked N initial 0 τ
unfolding initial
fresh_tracked N m l τ h k c d =
    record {
      places =
          places_open N τ.marks τ.locations (omega (arith, c.long)) (omega (arith, d.long))
          (λ x i. c.zero x (omega arith) i) (λ x i. d.zero x (omega arith) i);
      watermark_is = sym (zero_run N);
    }

-- a slice cleared up to n is as it was beyond
pub cleared_beyond : (n : ℕ) (a b : List ℕ) → Cleared 0 n a b → Beyond n a b
cleared_beyond n a b c = beyond_drop n n a b (omega arith) c.long c.beyond
