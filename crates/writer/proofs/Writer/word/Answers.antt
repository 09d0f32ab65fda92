-- What was copied is the word. Assumes nothing.
use Rattle.std.proofs.Common.{refl, ap, ◌∙◌, length, arith, ◌+◌, ◌-◌}
use Rattle.std.proofs.lemmas.Slice.{put_mid-paste}
use Rattle.std.proofs.lemmas.List.Edits.{length-paste}
use Rattle.writer.specs.Wrote.{wrote_copy}
use Rattle.writer.proofs.Writer.word.Goals as goal

pub returns : goal.returns
returns c =
    let w = c.args.self.now in
    let word = c.args.word.now in
    let e = put_mid-paste w.at (w.at + length word - w.at) w.out.now c.copy_from_slice.new.self word (length word) c.copy_from_slice.ensures.after (omega arith) refl in
    record {
      wrote = wrote_copy w.out.now word _ w.at c.requires e;
      size = ap length e ∙ length-paste w.out.now w.at word (length word) c.requires (omega arith);
      same = refl;
    }
