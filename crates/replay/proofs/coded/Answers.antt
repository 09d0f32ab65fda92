-- `replay::coded` meets its contract.
use mathlib.Core.Path.{sym}
use Prim.Native.Nat.{◌*◌}
use Rattle.rules.specs.Limits.{reply_radix}
use Rattle.laws.specs.Accepted.{accepted_is, refused_is}
use Rattle.replay.proofs.coded.Goals as goal

pub returns-then-number-eq0 : goal.returns-then-number-eq0
returns-then-number-eq0 c = let a = c.args in sym (accepted_is a.number a.number (reply_radix * a.count) c.if-number-eq0.true)

pub returns : goal.returns
returns c = let a = c.args in sym (refused_is a.number a.number (reply_radix * a.count) c.if-number-eq0.false)
