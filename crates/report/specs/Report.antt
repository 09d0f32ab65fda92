-- What writing the listing of a session promises: it is document 01's listing of the model for which the session stands. Assumes nothing.
use Rattle.std.specs.Prelude.{List, ℕ, ◌+◌, ◌*◌, ◌≤◌}
use Rattle.rules.specs.Model.{Model}
use Rattle.rules.specs.Listing.{listing}
use Rattle.session.specs.declared.Session.{Session}
use Rattle.session.specs.Storage.{storage}
use Rattle.jobturn.specs.Turned.{StandsFor, FiguresOf}
use Rattle.jobturn.specs.declared.EndFigures.{EndFigures}
use Rattle.writer.specs.Wrote.{Wrote}
use Rattle.listing.specs.Listed.{head_bytes, line_bytes}

-- order and rows are those of a session that stands for the model k, and f has P and the model's numbers
pub record Shown (P N W : ℕ) (k : Model) (order rows : List ℕ) (f : EndFigures) : Type 0 where
  pub session : Session
  pub spans : List ℕ
  pub tally : List ℕ
  pub marks : List ℕ
  pub locations : List ℕ
  pub waiting : List ℕ
  pub pool : List ℕ
  pub stands : StandsFor P N W session (storage spans order tally rows marks locations waiting pool) k
  pub figures : FiguresOf P k f

-- there is such a session, and room for the listing
pub record MayReport (order rows : List ℕ) (room : ℕ) (f : EndFigures) : Type 0 where
  pub P : ℕ
  pub N : ℕ
  pub W : ℕ
  pub model : Model
  pub shown : Shown P N W model order rows f
  pub enough : head_bytes + line_bytes * N ≤ room

abbrev pub Reports : List ℕ → List ℕ → List ℕ → List ℕ → EndFigures → ℕ → Type 0
Reports order rows entry exit f r =
    (P N W : ℕ) (k : Model) → Shown P N W k order rows f → Wrote entry exit 0 r (listing P k)
