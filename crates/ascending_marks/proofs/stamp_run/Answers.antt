-- Two parts filled. Assumes nothing.
use Rattle.std.proofs.Common.{◌+◌, ◌-◌, arith}
use Rattle.ascending_marks.specs.Runs.{run_filled}
use Rattle.ascending_marks.proofs.stamp_run.Goals as goal

pub returns : goal.returns
returns c = record {
  marks_are = run_filled c.args.marks.now c.args.from c.args.n _ c.requires.0 (c.args.from + c.args.n - c.args.from) _ (omega arith) (c.fill.ensures.after (λ y e. e));
  locations_are = run_filled c.args.locations.now c.args.from c.args.n c.args.loc c.requires.1 (c.args.from + c.args.n - c.args.from) _ (omega arith) (c.fill-2.ensures.after (λ y e. e));
}
