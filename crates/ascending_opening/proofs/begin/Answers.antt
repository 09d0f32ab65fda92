-- The fresh session over the four slices that are written, with any others and so with the storage's own. Assumes nothing.
use Rattle.ascending_opening.proofs.begin.Goals as goal

pub returns-clause-begins : goal.returns-clause-begins
returns-clause-begins c = record { opens = c.begin_over.ensures.opens _ _ }

pub returns-clause-with_any : goal.returns-clause-with_any
returns-clause-with_any c = c.begin_over.ensures
