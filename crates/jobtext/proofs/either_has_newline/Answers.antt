-- Assumes nothing.
use Rattle.jobtext.specs.Text.{low_bytes}
use Rattle.jobtext.specs.Words.{either_marked}
use Rattle.jobtext.proofs.either_has_newline.Goals as goal

pub returns : goal.returns
returns c = let a = c.args in
    either_marked c.newlines.result c.newlines-2.result (low_bytes 8 a.v) (low_bytes 8 a.w) c.newlines.ensures c.newlines-2.ensures
