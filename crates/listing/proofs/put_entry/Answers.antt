-- Six words with their numbers, the last as a line; 32 bits have at most 10 digits. Assumes nothing.
use Rattle.std.proofs.Common.{arith}
use Rattle.rules.specs.Listing.{entry_line, line, word_order, word_added, word_accepted, word_parallelism, word_written, word_lane}
use Rattle.entries.specs.Entries.{entry_of, item_of}
use Rattle.writer.specs.Lines.{field_few, line_few32}
use Rattle.writer.specs.Written.{written_then}
use Rattle.listing.proofs.put_entry.Goals as goal

pub field-requires : goal.field-requires
field-requires c = omega (
  arith,
  field_few word_order c.args.index c.requires.0,
  c.requires.1,
)

pub field-requires-2 : goal.field-requires-2
field-requires-2 c = omega (
  arith,
  field_few word_order c.args.index c.requires.0,
  field_few word_added c.args.e.added (omega arith),
  c.field.ensures.wrote.next,
  c.field.ensures.size,
  c.requires.1,
)

pub field-requires-3 : goal.field-requires-3
field-requires-3 c = omega (
  arith,
  field_few word_order c.args.index c.requires.0,
  field_few word_added c.args.e.added (omega arith),
  field_few word_accepted c.args.e.accepted (omega arith),
  c.field.ensures.wrote.next,
  c.field-2.ensures.wrote.next,
  c.field.ensures.size,
  c.field-2.ensures.size,
  c.requires.1,
)

pub field-requires-4 : goal.field-requires-4
field-requires-4 c = omega (
  arith,
  field_few word_order c.args.index c.requires.0,
  field_few word_added c.args.e.added (omega arith),
  field_few word_accepted c.args.e.accepted (omega arith),
  field_few word_parallelism c.args.e.parallelism (omega arith),
  c.field.ensures.wrote.next,
  c.field-2.ensures.wrote.next,
  c.field-3.ensures.wrote.next,
  c.field.ensures.size,
  c.field-2.ensures.size,
  c.field-3.ensures.size,
  c.requires.1,
)

pub field-requires-5 : goal.field-requires-5
field-requires-5 c = omega (
  arith,
  field_few word_order c.args.index c.requires.0,
  field_few word_added c.args.e.added (omega arith),
  field_few word_accepted c.args.e.accepted (omega arith),
  field_few word_parallelism c.args.e.parallelism (omega arith),
  field_few word_written c.args.written (omega arith),
  c.field.ensures.wrote.next,
  c.field-2.ensures.wrote.next,
  c.field-3.ensures.wrote.next,
  c.field-4.ensures.wrote.next,
  c.field.ensures.size,
  c.field-2.ensures.size,
  c.field-3.ensures.size,
  c.field-4.ensures.size,
  c.requires.1,
)

pub line-requires : goal.line-requires
line-requires c = omega (
  arith,
  field_few word_order c.args.index c.requires.0,
  field_few word_added c.args.e.added (omega arith),
  field_few word_accepted c.args.e.accepted (omega arith),
  field_few word_parallelism c.args.e.parallelism (omega arith),
  field_few word_written c.args.written (omega arith),
  line_few32 word_lane c.args.e.lane (omega arith),
  c.field.ensures.wrote.next,
  c.field-2.ensures.wrote.next,
  c.field-3.ensures.wrote.next,
  c.field-4.ensures.wrote.next,
  c.field-5.ensures.wrote.next,
  c.field.ensures.size,
  c.field-2.ensures.size,
  c.field-3.ensures.size,
  c.field-4.ensures.size,
  c.field-5.ensures.size,
  c.requires.1,
)

pub returns : goal.returns
unfolding entry_line entry_of item_of line
returns c = (
  written_then c.field.ensures (written_then c.field-2.ensures (written_then c.field-3.ensures (written_then c.field-4.ensures (written_then c.field-5.ensures c.line.ensures)))),
  omega (
    arith,
    field_few word_order c.args.index c.requires.0,
    field_few word_added c.args.e.added (omega arith),
    field_few word_accepted c.args.e.accepted (omega arith),
    field_few word_parallelism c.args.e.parallelism (omega arith),
    field_few word_written c.args.written (omega arith),
    line_few32 word_lane c.args.e.lane (omega arith),
    c.field.ensures.wrote.next,
    c.field-2.ensures.wrote.next,
    c.field-3.ensures.wrote.next,
    c.field-4.ensures.wrote.next,
    c.field-5.ensures.wrote.next,
    c.line.ensures.wrote.next,
  ),
)
