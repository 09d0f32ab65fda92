-- The storage as a function takes it, in eight slices: the lists that they hold, and that the same slices are there again after it.
-- Assumes nothing.
use Rattle.std.specs.Prelude.{◌≡◌, refl}
use Rattle.std.proofs.Common.{◌∙◌}
use Rattle.session.specs.declared.Storage.{Storage as EightSlices}
use Rattle.session.specs.Storage.{Storage, storage}

abbrev pub contents : EightSlices → Storage
contents s = storage s.spans.now s.order.now s.tally.now s.rows.now s.marks.now s.locations.now s.waiting.now s.pool.now

-- waiting storage and pool are as they were
abbrev pub SameLists : Storage → Storage → Type 0
SameLists σ τ = (τ.waiting ≡ σ.waiting) × (τ.pool ≡ σ.pool)

pub record SameSlices (a b : EightSlices) : Type 0 where
  pub spans : b.spans.ghost_name ≡ a.spans.ghost_name
  pub order : b.order.ghost_name ≡ a.order.ghost_name
  pub tally : b.tally.ghost_name ≡ a.tally.ghost_name
  pub rows : b.rows.ghost_name ≡ a.rows.ghost_name
  pub marks : b.marks.ghost_name ≡ a.marks.ghost_name
  pub locations : b.locations.ghost_name ≡ a.locations.ghost_name
  pub waiting : b.waiting.ghost_name ≡ a.waiting.ghost_name
  pub pool : b.pool.ghost_name ≡ a.pool.ghost_name

pub same_refl : (a : EightSlices) → SameSlices a a
same_refl a = record { spans = refl; order = refl; tally = refl; rows = refl; marks = refl; locations = refl; waiting = refl; pool = refl }

pub same_trans : {a b c : EightSlices} → SameSlices a b → SameSlices b c → SameSlices a c
same_trans x y =
    record {
      spans = y.spans ∙ x.spans;
      order = y.order ∙ x.order;
      tally = y.tally ∙ x.tally;
      rows = y.rows ∙ x.rows;
      marks = y.marks ∙ x.marks;
      locations = y.locations ∙ x.locations;
      waiting = y.waiting ∙ x.waiting;
      pool = y.pool ∙ x.pool;
    }
