-- `session::settle_over` meets its contract. Midway the session stands for a model from which the rest of the cascade leads to the goal; the
-- measure is the count of registrations that are not yet placed.
use Rattle.session.specs.Storage.{storage}
use Rattle.session.specs.Settle.{Midway}
use Rattle.session.proofs.settle_over.Given as goal

abbrev pub invariant-loop-t : goal.invariant-loop-t
invariant-loop-t l =
    Midway l.c l.initial.z
    (storage l.initial.spans l.initial.order l.initial.tally l.initial.rows l.initial.marks l.initial.locations l.initial.waiting l.pool)
    l.initial.t l.z (storage l.spans l.order l.tally l.rows l.marks l.locations l.waiting l.pool) l.t

abbrev pub decreases-loop-t : goal.decreases-loop-t
decreases-loop-t l = l.z.delayed
