-- The reading in the host's numbers, which fit by the theorem about every job's needs. Assumes nothing.
use native.Mathlib.Omega.{arith}
use Rattle.jobneeds.specs.Laws.{needs_few, numbers_are, result_fits, refusal_is}
use Rattle.jobneeds.proofs.job_needs.Goals as goal

pub most_spans-requires : goal.most_spans-requires
most_spans-requires c = needs_few c.args.job.now c.read_needs.ensures c.in-Ok.is

pub overflow_mul-result : goal.overflow_mul-result
overflow_mul-result c = omega (arith, result_fits c.args.job.now c.read_needs.ensures c.in-Err.is)

pub overflow_add-result : goal.overflow_add-result
overflow_add-result c = omega (arith, result_fits c.args.job.now c.read_needs.ensures c.in-Err.is, c.from.ensures)

pub returns-in-Ok : goal.returns-in-Ok
returns-in-Ok c =
    let told = numbers_are c.args.job.now c.read_needs.ensures c.in-Ok.is c.args.needs.now c.most_spans.ensures in
    record { result = told.0; written = told.1 }

pub returns-in-Err : goal.returns-in-Err
returns-in-Err c =
    let told = refusal_is c.args.job.now c.read_needs.ensures c.in-Err.is c.args.needs.now in
    record { result = rw c.from.ensures told.0; written = told.1 }
