-- The line with the number, then the line with the line's. Assumes nothing.
use Rattle.std.proofs.Common.{rules, arith}
use Rattle.rules.specs.Listing.{word_status, word_line, rejection}
use Rattle.writer.specs.Lines.{line_few}
use Rattle.writer.specs.Written.{written_then, wrote_into}
use Rattle.listing.proofs.put_rejection.Goals as goal

pub line-requires : goal.line-requires
line-requires c = omega (arith, line_few word_status c.args.code c.ranges.code.fits, c.requires)

pub line-requires-2 : goal.line-requires-2
line-requires-2 c =
    omega (arith, line_few word_status c.args.code c.ranges.code.fits, line_few word_line c.args.line c.ranges.line.fits, c.line.ensures.wrote.next, c.line.ensures.size, c.requires)

pub returns : goal.returns
unfolding rejection
returns c = wrote_into (written_then c.line.ensures c.line-2.ensures) (search rules)
