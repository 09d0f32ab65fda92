-- The storage in arrays that a job is run on, as the theorems tell it. Assumes nothing.
use Rattle.session.specs.Storage.{Storage, storage}
use Rattle.job.specs.declared.Arrays.{Arrays as JobArrays}

abbrev pub arrays_of : JobArrays → Storage
arrays_of a = storage a.spans a.order a.tally a.rows a.marks a.locations a.waiting a.pool
