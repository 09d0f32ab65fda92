-- A session and storage that stand for a model show it: first the guide with its window and order, then the rest. Assumes nothing.
use Rattle.std.specs.Prelude.{◌≡◌, refl, ℕ, ◌+◌, ◌<◌, length}
use Rattle.std.proofs.Math.Path.{sym, ap}
use Rattle.std.proofs.Common.{◌∙◌, arith}
use mathlib.Core.List.{List, [], ◌∷◌, map}
use Rattle.std.proofs.Math.ListN.{get_or}
use Rattle.rules.specs.Guide.{Item, Guide as GuideModel, held}
use Rattle.rules.specs.Summary.{sum}
use Rattle.rules.specs.Model.{Model, reg_of}
use Rattle.rules.specs.Checks.{pooled}
use Rattle.rules.specs.Record.{location_of}
use Rattle.entries.specs.Entries.{entry_at}
use Rattle.buffer.specs.declared.Guide.{Guide}
use Rattle.buffer.specs.View.{row_start, view, order_of, spans_of, upto}
use Rattle.buffer.specs.Rows.{spans_lengths, spans_at}
use Rattle.buffer.specs.Order.{order_count}
use Rattle.registrar.specs.Unique.{pending_read}
use Rattle.pool.specs.ListLaws.{Parts, parts_of}
use Rattle.session.specs.declared.Session.{Session}
use Rattle.session.specs.Storage.{Storage}
use Rattle.session.specs.Rep.{Guided, Rep}
use Rattle.session.specs.Parts.{tally_is}
use Rattle.session.specs.Shows.{span_in, lists_in, Shows}

held_sum : (ss : List (List Item)) → sum (map length ss) ≡ held ss
unfolding sum held
held_sum [] = refl
held_sum (s ∷ ss) = ap (λ n. length s + n) (held_sum ss)

module _ {P N : ℕ} {k : Model} {g : Guide} {σ : Storage} (G : Guided P N k g σ) where
  pub order_shown : order_of σ.order g.written ≡ k.guide.order
  unfolding view
  order_shown = ap (λ (b : GuideModel). b.order) G.view_is

  pub written_shown : g.written ≡ length k.guide.order
  written_shown = sym (order_count σ.order g.written) ∙ ap length order_shown

  pub numbers_shown : g.window.ids ≡ upto k.guide.first 32
  unfolding view
  numbers_shown = G.stands.laid.numbered ∙ ap (λ (b : GuideModel). upto b.first 32) G.view_is

  spans_are : spans_of P σ.spans g.window.rows g.window.lens ≡ k.guide.spans
  unfolding view
  spans_are = rw (← G.p_is) (ap (λ (b : GuideModel). b.spans) G.view_is)

  same_many : length g.window.rows ≡ length g.window.lens
  same_many = G.stands.laid.rows_many ∙ sym G.stands.laid.lens_many

  pub lengths_shown : g.window.lens ≡ map length k.guide.spans
  lengths_shown = sym (spans_lengths P σ.spans g.window.rows g.window.lens same_many) ∙ ap (λ (x : List (List Item)). map length x) spans_are

  pub held_shown : g.held ≡ held k.guide.spans
  held_shown = G.stands.laid.held_is ∙ ap sum lengths_shown ∙ held_sum k.guide.spans

  pub spans_shown : (i : ℕ) → i < 32 → span_in P g.window σ.spans i ≡ get_or k.guide.spans i []
  unfolding span_in
  spans_shown i h =
      sym (spans_at P σ.spans g.window.rows g.window.lens i same_many) ∙ ap (λ (x : List (List Item)). get_or x i []) spans_are

  pub unassigned_shown : (i j : ℕ) → i < 32 → j < get_or g.window.lens i 0 → (entry_at σ.spans (row_start (get_or g.window.rows i 0) P + j)).parallelism ≡ 0
  unassigned_shown = rw (← G.p_is) G.stands.laid.unassigned

module _ (P N : ℕ) (k : Model) (s : Session) (σ : Storage) (R : Rep P N k s σ) where
  lists_are : (r : ℕ) → r < length k.adds → lists_in σ.waiting σ.pool N s.added s.used r ≡ reg_of k r
  unfolding lists_in
  lists_are r h = rw (R.counted.added_is, R.counted.used_is) (whole (parts_of N k (pooled k.adds) σ.waiting σ.pool R.core.stored.lists r h))
    where
      whole : Parts σ.waiting N r (length k.adds) (pooled k.adds) σ.pool (reg_of k r) → lists_in σ.waiting σ.pool N (length k.adds) (pooled k.adds) r ≡ reg_of k r
      whole p = rw (p.lane_is, p.ins_are, p.outs_are)

  pub shows : Shows P N k s σ
  unfolding location_of
  shows =
      let G = R.core.guided in
      record {
        parallelism = G.p_is;
        many = G.v_is;
        written = written_shown G;
        order = order_shown G;
        tally = tally_is G;
        rows = R.core.rowed.rows;
        marks = R.core.tracked.places.at;
        locations = R.core.tracked.places.place_of;
        numbers = numbers_shown G;
        lengths = lengths_shown G;
        held = held_shown G;
        spans = spans_shown G;
        unassigned = unassigned_shown G;
        watermark = R.core.tracked.watermark_is;
        waiting = pending_read σ.waiting N s.watermark k.pending 0 [] R.delayed;
        delayed = omega (arith, R.delayed_is);
        accepted = R.counted.added_is;
        lists = lists_are;
        flushes = R.counted.flushes_is;
        closed = R.counted.closed_is;
        registrations = R.counted.registrations_is;
        places = R.counted.places_is;
      }
