-- The word, then its number. Assumes nothing.
use Rattle.writer.specs.Written.{fits_word, fits_number, written_field}
use Rattle.writer.proofs.Writer.field.Goals as goal

pub word-requires : goal.word-requires
word-requires c = fits_word c.args.self.now c.args.word.now c.args.n c.requires

pub decimal-requires : goal.decimal-requires
decimal-requires c = fits_number c.args.n c.requires c.word.ensures

pub returns : goal.returns
returns c = written_field c.args.n c.word.ensures c.decimal.ensures
