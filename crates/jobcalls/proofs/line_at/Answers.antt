-- The line ends at the byte found, or nothing ends it. Assumes nothing.
use native.Mathlib.Omega.{arith}
use Rattle.jobcalls.specs.Laws.{line_missing, line_end, line_found}
use native.Mathlib.Nat.{le_of_lt}
use lib.ListN.{length-take, length-drop}
use Rattle.jobcalls.proofs.line_at.Goals as goal

pub returns-then-end-job : goal.returns-then-end-job
returns-then-end-job c = let a = c.args in
    line_missing a.job.now a.into.now a.at a.off c.line_end-end.result c.requires.0 c.requires.1 c.line_end-end.ensures c.if-end-job.true

pub slice_bounds-read_line-end : goal.slice_bounds-read_line-end
slice_bounds-read_line-end c = let a = c.args in
    le_of_lt (line_end a.job.now a.into.now a.at a.off c.line_end-end.result c.requires.0 c.requires.1 c.line_end-end.ensures c.if-end-job.false)

pub read_line-requires : goal.read_line-requires
read_line-requires c = let a = c.args in
    let e = line_end a.job.now a.into.now a.at a.off c.line_end-end.result c.requires.0 c.requires.1 c.line_end-end.ensures c.if-end-job.false in
    simp (length-take, length-drop) (omega (arith, e, c.requires.1, c.line_end-end.ensures))

pub overflow_add-result : goal.overflow_add-result
overflow_add-result c = let a = c.args in
    omega (arith, line_end a.job.now a.into.now a.at a.off c.line_end-end.result c.requires.0 c.requires.1 c.line_end-end.ensures c.if-end-job.false, c.well_formed.0.0)

pub returns : goal.returns
returns c = let a = c.args in
    line_found a.job.now a.into.now a.at a.off c.line_end-end.result c.requires.0 c.requires.1 c.line_end-end.ensures
    c.read_line.new.into c.read_line.result c.if-end-job.false c.read_line.ensures
