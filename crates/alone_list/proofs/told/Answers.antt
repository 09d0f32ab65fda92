-- `alone_list::told` meets its contract: one law for each case of a reply. Assumes nothing.
use mathlib.Core.Path.{◌≡◌, ◌∙◌, ap}
use Rattle.std.specs.Prelude.{Ok, Some, None}
use Rattle.alone_list.specs.Blocks.{head_at, head_released, head_rejected}
use Rattle.alone_list.proofs.told.Goals as goal

pub returns-in-Ok-Some : goal.returns-in-Ok-Some
returns-in-Ok-Some c = let h : c.args.reply ≡ Ok (Some c.in-Ok-Some.at) = c.in-Ok-Some.is ∙ ap Ok (rw c.in-Ok-Some.is at c.in-Ok-Some.field-0-is) in rw h (head_at _ _)

pub returns-in-Ok-None : goal.returns-in-Ok-None
returns-in-Ok-None c = let h : c.args.reply ≡ Ok None = c.in-Ok-None.is ∙ ap Ok (rw c.in-Ok-None.is at c.in-Ok-None.field-0-is) in rw h head_released

pub returns-in-Err : goal.returns-in-Err
returns-in-Err c = rw (c.in-Err.is, c.into.ensures) (head_rejected _)
