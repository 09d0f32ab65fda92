-- The five lines of the head, then those of the entries. Assumes nothing.
use Rattle.std.proofs.Common.{rules, arith}
use Rattle.rules.specs.Listing.{word_status, word_entries, word_places, word_floor, word_median}
use Rattle.writer.specs.Lines.{line_few, line_few32}
use Rattle.writer.specs.Written.{written_then, wrote_into}
use Rattle.listing.specs.Lines.{listed_is}
use Rattle.listing.proofs.put_listing.Goals as goal

pub line-requires : goal.line-requires
line-requires c = omega (
  arith,
  line_few word_status 0 (omega arith),
  c.requires.1,
)

pub line-requires-2 : goal.line-requires-2
line-requires-2 c = omega (
  arith,
  line_few word_status 0 (omega arith),
  line_few word_entries c.args.n c.ranges.n.fits,
  c.line.ensures.wrote.next,
  c.line.ensures.size,
  c.requires.1,
)

pub line-requires-3 : goal.line-requires-3
line-requires-3 c = omega (
  arith,
  line_few word_status 0 (omega arith),
  line_few word_entries c.args.n c.ranges.n.fits,
  line_few32 word_places c.args.places c.ranges.places.fits,
  c.line.ensures.wrote.next,
  c.line-2.ensures.wrote.next,
  c.line.ensures.size,
  c.line-2.ensures.size,
  c.requires.1,
)

pub line-requires-4 : goal.line-requires-4
line-requires-4 c = omega (
  arith,
  line_few word_status 0 (omega arith),
  line_few word_entries c.args.n c.ranges.n.fits,
  line_few32 word_places c.args.places c.ranges.places.fits,
  line_few32 word_floor c.floor-low.result (omega (arith, c.floor-low.type_inv)),
  c.line.ensures.wrote.next,
  c.line-2.ensures.wrote.next,
  c.line-3.ensures.wrote.next,
  c.line.ensures.size,
  c.line-2.ensures.size,
  c.line-3.ensures.size,
  c.requires.1,
)

pub line-requires-5 : goal.line-requires-5
line-requires-5 c = omega (
  arith,
  line_few word_status 0 (omega arith),
  line_few word_entries c.args.n c.ranges.n.fits,
  line_few32 word_places c.args.places c.ranges.places.fits,
  line_few32 word_floor c.floor-low.result (omega (arith, c.floor-low.type_inv)),
  line_few32 word_median c.args.median c.ranges.median.fits,
  c.line.ensures.wrote.next,
  c.line-2.ensures.wrote.next,
  c.line-3.ensures.wrote.next,
  c.line-4.ensures.wrote.next,
  c.line.ensures.size,
  c.line-2.ensures.size,
  c.line-3.ensures.size,
  c.line-4.ensures.size,
  c.requires.1,
)

pub put_entries-requires : goal.put_entries-requires
put_entries-requires c = (
  c.requires.0,
  omega (
    arith,
    line_few word_status 0 (omega arith),
    line_few word_entries c.args.n c.ranges.n.fits,
    line_few32 word_places c.args.places c.ranges.places.fits,
    line_few32 word_floor c.floor-low.result (omega (arith, c.floor-low.type_inv)),
    line_few32 word_median c.args.median c.ranges.median.fits,
    c.line.ensures.wrote.next,
    c.line-2.ensures.wrote.next,
    c.line-3.ensures.wrote.next,
    c.line-4.ensures.wrote.next,
    c.line-5.ensures.wrote.next,
    c.line.ensures.size,
    c.line-2.ensures.size,
    c.line-3.ensures.size,
    c.line-4.ensures.size,
    c.line-5.ensures.size,
    c.requires.1,
  ),
)

pub returns : goal.returns
returns c =
    let w = written_then c.line.ensures (written_then c.line-2.ensures (written_then c.line-3.ensures (written_then c.line-4.ensures (written_then c.line-5.ensures c.put_entries.ensures)))) in
    rw (← listed_is c.args.order.now c.args.rows.now c.args.n c.args.p c.args.places c.floor-low.result c.args.median c.floor-low.ensures) (wrote_into w (search rules))
