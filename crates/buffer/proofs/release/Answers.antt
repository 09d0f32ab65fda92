-- `buffer::release` meets its contract: the append of span 0's row, then the rotation. Assumes nothing.
use Rattle.buffer.specs.Moves.{released_guide, released_order}
use Rattle.buffer.proofs.release.Goals as goal

pub returns : goal.returns
unfolding released_guide released_order
returns c = record { rotated = rw c.rotate.ensures; appended = rw c.row_start-start.ensures at c.append_row.ensures }
