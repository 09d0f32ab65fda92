-- The guide's three slices in contracts: what `Stands`, `view` and `Done` say of lists, said of the references that a function takes, so
-- that a contract names each slice once. Assumes nothing.
use Rattle.std.specs.Prelude.{List, ℕ}
use denote.Triple.Both.{Both}
use Rattle.std.specs.Borrow.{MutBor}
use Rattle.rules.specs.Guide.{Guide as GuideModel}
use Rattle.buffer.specs.declared.Guide.{Guide}
use Rattle.buffer.specs.View.{view}
use Rattle.placing.specs.Stands.{Stands}
use Rattle.placing.specs.Done.{Done}

-- a slice as it is given to a function; a slice before and after it
abbrev pub Slice : Type 0
Slice = MutBor (List ℕ)

abbrev pub Borrowed : Type 0
Borrowed = Both Slice Slice

-- g and the slices as they are given are in order; the model that they stand for
abbrev pub Standing : Guide → Slice → Slice → Slice → Type 0
Standing g spans order tally = Stands g spans.now order.now tally.now

abbrev pub shown : Guide → Slice → Slice → GuideModel
shown g spans order = view g spans.now order.now

-- r and the slices after stand for what the step makes of the model that g and the slices before stand for
abbrev pub Becomes : Guide → Guide → Borrowed → Borrowed → Borrowed → (GuideModel → GuideModel) → Type 0
Becomes g r spans order tally step =
    Done g r spans.entry.now order.entry.now tally.entry.now spans.exit.now order.exit.now tally.exit.now
    (step (shown g spans.entry order.entry))
