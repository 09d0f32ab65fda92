-- Laws of the listing of a session: its order and rows are ready, and what is written is the model's listing. Assumes nothing.
use mathlib.Core.List.{List, []}
use Rattle.std.specs.Prelude.{◌≡◌}
use Rattle.std.proofs.Math.Path.{sym, ap, subst}
use Rattle.std.proofs.Common.{◌∙◌, arith}
use Prim.Native.Nat.{ℕ, zero, suc, ◌+◌, ◌≤◌, ◌<◌}
use Rattle.std.proofs.Math.ListN.{get_or}
use Rattle.rules.specs.Guide.{Entry}
use Rattle.rules.specs.Limits.{most_places}
use Rattle.rules.specs.Listing.{listing}
use Rattle.rules.specs.Model.{Model}
use Rattle.rules.specs.Record.{row_of}
use Rattle.laws.specs.Placeable.{Fits, fits_of}
use Rattle.laws.specs.Order.{nth, no_written}
use Rattle.entries.specs.Entries.{entry_at, entry_of, item_of}
use Rattle.records.specs.Filled.{written_of}
use Rattle.buffer.specs.View.{order_of}
use Rattle.session.specs.Storage.{storage}
use Rattle.jobturn.specs.declared.EndFigures.{EndFigures}
use Rattle.session.specs.Shows.{Shows}
use Rattle.session.specs.Showing.{shows}
use Rattle.writer.specs.Wrote.{Wrote}
use Rattle.listing.specs.Listed.{entries_from, listed, Ready}
use Rattle.listing.specs.Model.{listing_is}
use Rattle.report.specs.Report.{Shown}

-- entry j of n from index i on
entry_is : (o : List ℕ) (i n j : ℕ) → j < n → get_or (entries_from o i n) j no_written ≡ entry_of (entry_at o (i + j))
entry_is o i zero j h = absurd (omega arith)
entry_is o i (suc n) zero h = let e : i ≡ i + 0 = omega arith in ap (λ (k : ℕ). entry_of (entry_at o k)) e
entry_is o i (suc n) (suc j) h = let e : suc i + j ≡ i + suc j = omega arith in entry_is o (suc i) n j (omega arith) ∙ ap (λ (k : ℕ). entry_of (entry_at o k)) e

module _ {P N W : ℕ} {k : Model} {o rs : List ℕ} {f : EndFigures} (x : Shown P N W k o rs f) where
  small : N ≤ most_places
  small = omega (arith, x.stands.rep.core.guided.v_is, x.stands.rep.core.guided.stands.small)

  fits : Fits P N k
  fits =
      let g = x.stands.rep.core.guided in
      let one : 1 ≤ P = omega (arith, g.p_is, g.stands.laid.one) in
      fits_of P N W one k [] x.stands.between.sound small

  found : Shows P N k x.session (storage x.spans o x.tally rs x.marks x.locations x.waiting x.pool)
  found = shows P N k x.session (storage x.spans o x.tally rs x.marks x.locations x.waiting x.pool) x.stands.rep

  order_is : entries_from o 0 f.written ≡ k.guide.order
  unfolding order_of
  order_is = ap (entries_from o 0) (x.figures.written_is ∙ sym found.written) ∙ found.order

  pub within : f.written ≤ N
  within = omega (arith, x.figures.written_is, fits.room, fits.many)

  known : (j : ℕ) → j < f.written → (entry_at o j).added < N
  unfolding entry_of item_of
  known j h =
      let e : nth k j ≡ entry_of (entry_at o j) = ap (λ (l : List Entry). get_or l j no_written) (sym order_is) ∙ entry_is o 0 f.written j h ∙ ap (λ (i : ℕ). entry_of (entry_at o i)) (omega arith) in
      let q : (nth k j).item.added ≡ (entry_at o j).added = ap (λ (y : Entry). y.item.added) e in
      omega (arith, q, fits.order_known j (omega (arith, x.figures.written_is)), fits.many)

  pub ready : Ready o rs f.written
  ready =
      let g = x.stands.rep.core in
      record {
        entries = omega (arith, within, g.guided.stands.order_long, g.guided.v_is);
        few = omega (arith, within, small);
        row = λ i h. omega (arith, known i h, g.rowed.long);
      }

  pub reported : {entry exit : List ℕ} {r : ℕ} → Wrote entry exit 0 r (listed o rs f.written f.parallelism f.places f.median) → Wrote entry exit 0 r (listing P k)
  unfolding row_of
  reported {entry} {exit} {r} w =
      let n : ℕ = f.written in
      let told = x.figures in
      let is : listed o rs n f.parallelism f.places f.median ≡ listing P k =
      ap (λ (y : ℕ). listed o rs n y f.places f.median) told.parallelism_is ∙ ap (λ (y : ℕ). listed o rs n P y f.median) told.places_is
      ∙ ap (listed o rs n P k.recorded.places) told.median_is
      ∙ listing_is P N n k o rs order_is (written_of N rs k.recorded.written k.guide.order x.stands.rep.core.rowed.rows) known
      in
      subst (λ (y : List ℕ). Wrote entry exit 0 r y) is w
