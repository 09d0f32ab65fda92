-- Two numbers, then the counts, then the sums. Assumes nothing.
use mathlib.Core.Path.{refl}
use lib.ListN.{length}
use Rattle.std.proofs.lemmas.Slice.{put_mid-paste}
use Rattle.summary.specs.Layout.{summary_numbers}
use Rattle.summary.specs.Writing.{written}
use Rattle.summary.proofs.write.Goals as goal

pub returns : goal.returns
unfolding summary_numbers
returns c = let w = c.requires.0 in
    written _ _ c.args.s.low c.args.s.thousands c.args.to.now _ _ w.low w.thousands c.requires.1
    (put_mid-paste 2 128 _ _ c.args.s.low (length c.args.s.low) c.copy_from_slice.ensures.after w.low refl)
    (put_mid-paste 130 65 _ _ c.args.s.thousands (length c.args.s.thousands) c.copy_from_slice-2.ensures.after w.thousands refl)
