-- `session::settle` meets its contract. Midway the session stands for a model from which the rest of the cascade leads to the goal; the
-- measure is the count of registrations that are not yet placed.
use mathlib.Core.Path.{◌≡◌}
use Rattle.session.specs.Slices.{contents, SameSlices}
use Rattle.session.specs.Settle.{Midway}
use Rattle.session.proofs.settle.Given as goal

abbrev pub invariant-loop-t : goal.invariant-loop-t
invariant-loop-t l =
    Midway l.c l.initial.z (contents l.initial.storage) l.initial.t l.z (contents l.storage) l.t
    × ((contents l.storage).pool ≡ (contents l.initial.storage).pool) × SameSlices l.initial.storage l.storage

abbrev pub decreases-loop-t : goal.decreases-loop-t
decreases-loop-t l = l.z.delayed
