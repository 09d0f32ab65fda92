-- A line that starts with the key is no shorter. Assumes nothing.
use Rattle.std.proofs.Common.{sym, ◌∙◌}
use Rattle.jobline.specs.Keys.{key_some}
use Rattle.jobline.proofs.after.Goals as goal

pub slice_bounds-result-count : goal.slice_bounds-result-count
slice_bounds-result-count c = (key_some c.args.key.now c.args.s.now (sym c.starts.ensures ∙ c.if-starts.true)).1

pub slice_bounds-result-start : goal.slice_bounds-result-start
slice_bounds-result-start c = (key_some c.args.key.now c.args.s.now (sym c.starts.ensures ∙ c.if-starts.true)).1
