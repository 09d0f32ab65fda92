-- A row's written stored: the rows stand for the model whose record was changed in the same place. Assumes nothing.
use Rattle.std.specs.Prelude.{◌≡◌, refl, List, [], ◌∷◌, ◌++◌, ◌≢◌, ℕ, zero, suc, ◌≤◌, ◌<◌, length, get_or}
use Rattle.std.proofs.Common.{sym, ap, ◌∙◌, subst, arith}
use Rattle.std.proofs.lemmas.List.{get_or_at}
use Rattle.rules.specs.Model.{Model, with_record, note_add}
use Rattle.rules.specs.Record.{row_of}
use Rattle.records.specs.Filling.{row_extent, with_written}
use Rattle.records.specs.Filled.{written_frame, written_stored}
use Rattle.session.specs.Storage.{Storage, with_rows, Frame, frame_refl}
use Rattle.session.specs.Rep.{Rowed}

-- the record changes in the row of r alone
rowed_noted : (N r n : ℕ) (k j : Model) (σ : Storage) → r < N → j.guide ≡ k.guide → get_or j.recorded.written r 0 ≡ n
    → ((q : ℕ) → q ≢ r → get_or j.recorded.written q 0 ≡ get_or k.recorded.written q 0)
    → Rowed N k σ → Rowed N j (with_rows σ (with_written σ.rows r n))
unfolding row_of
rowed_noted N r n k j σ h g e o R =
    record {
      long = omega (arith, (written_frame N σ.rows r n h).long, R.long);
      rows = written_stored N σ.rows r n h k.recorded.written j.recorded.written j.guide.order R.long e o (rw g R.rows);
    }

appended_other : (ws : List ℕ) (n q : ℕ) → q ≢ length ws → get_or (ws ++ (n ∷ [])) q 0 ≡ get_or ws q 0
appended_other [] n zero h = absurd (h refl)
appended_other [] n (suc q) h = refl
appended_other (w ∷ ws) n zero h = refl
appended_other (w ∷ ws) n (suc q) h = appended_other ws n q (λ e. h (ap suc e))

-- the end of add: the new row's written
pub rowed_added : (N r n : ℕ) (k : Model) (σ : Storage) → length k.recorded.written ≡ r → r < N → n ≡ length k.guide.order
    → Rowed N k σ → Rowed N (note_add k) (with_rows σ (with_written σ.rows r n))
unfolding note_add with_record
rowed_added N r n k σ e h en R =
    rowed_noted N r n k (note_add k) σ h refl
    (subst (λ (x : ℕ). get_or (k.recorded.written ++ (length k.guide.order ∷ [])) x 0 ≡ n) e
    (get_or_at k.recorded.written (length k.guide.order) [] 0 (length k.recorded.written) refl ∙ sym en))
    (λ q m. appended_other k.recorded.written (length k.guide.order) q (λ x. m (x ∙ e)))
    R

frame_rows : (P N n : ℕ) (σ : Storage) (rs : List ℕ) → length rs ≡ length σ.rows → ((j : ℕ) → row_extent N ≤ j → get_or rs j 0 ≡ get_or σ.rows j 0) → Frame P N n n σ (with_rows σ rs)
frame_rows P N n σ rs l h =
    let f = frame_refl P N n σ in
    record {
      grows = f.grows;
      spans = f.spans;
      order = f.order;
      before = f.before;
      tally = f.tally;
      rows = record { long = l; same = h };
      marks = f.marks;
      locations = f.locations;
      waiting = f.waiting;
      pool = refl;
    }

pub frame_noted : (P N n r m : ℕ) (σ : Storage) → r < N → Frame P N n n σ (with_rows σ (with_written σ.rows r m))
frame_noted P N n r m σ h = let f = written_frame N σ.rows r m h in frame_rows P N n σ (with_written σ.rows r m) f.long f.beyond
