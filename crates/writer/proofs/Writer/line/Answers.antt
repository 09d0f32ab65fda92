-- The word with its number, then byte 10. Assumes nothing.
use Rattle.writer.specs.Written.{fits_field, fits_end, written_line}
use Rattle.writer.proofs.Writer.line.Goals as goal

pub field-requires : goal.field-requires
field-requires c = fits_field c.args.self.now c.args.word.now c.args.n c.requires

pub byte-requires : goal.byte-requires
byte-requires c = fits_end c.args.word.now c.args.n c.requires c.field.ensures

pub returns : goal.returns
returns c = written_line c.args.word.now c.args.n c.field.ensures c.byte.ensures
