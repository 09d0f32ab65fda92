-- `alone_list::note` meets its contract: two puts, one after the other. Assumes nothing.
use Rattle.alone_list.specs.Blocks.{block_is}
use Rattle.alone_list.specs.Put.{put_part, put_then, put_as}
use Rattle.alone_list.specs.Told.{reply_of}
use mathlib.Core.List.{◌∷◌, []}
use lib.ListN.{get_or}
use native.Mathlib.Omega.{arith}
use Rattle.alone_list.proofs.note.Goals as goal

pub returns : goal.returns
returns c = let a = c.args in
    let l = c.put_lens in
    let t = c.told-number in
    let x = a.a.alone in
    put_as (block_is x (reply_of a.a.reply) t.result.0 t.result.1 t.result.2 t.ensures)
    (put_then a.at
    (t.result.0 ∷ (t.result.1 ∷ (t.result.2 ∷ (x.guide.written ∷ (get_or x.guide.window.ids 0 0 ∷ [])))))
    x.guide.window.lens a.answers.now _ l.new.answers (put_part a.at _ _ a.answers.now _ c.copy_from_slice.ensures.after (omega arith) (omega (arith, c.requires))) l.ensures)
