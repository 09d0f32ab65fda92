-- `placing::open_spans` meets its contract: one release, or two. Assumes nothing.
use mathlib.Core.Path.{◌≡◌}
use Prim.Native.Nat.{◌≤◌}
use native.Mathlib.Omega.{arith}
use Rattle.laws.specs.History.{len}
use Rattle.buffer.specs.View.{view}
use Rattle.placing.specs.Done.{free_one, free_two, done_next, len_view}
use Rattle.placing.proofs.open_spans.Goals as goal

pub release_one-h-requires : goal.release_one-h-requires
release_one-h-requires c = record { standing = c.requires.standing; free = free_one c.args.g c.requires.free_two }

pub release_one-h-requires-then-n-eq2 : goal.release_one-h-requires-then-n-eq2
release_one-h-requires-then-n-eq2 c = let r = c.release_one-h in
    let a = c.args in
    record { standing = r.ensures.becomes.stands; free = free_two a.g r.result a.spans.now c.requires.standing.laid r.ensures.rotated r.ensures.becomes.same_v c.requires.free_two }

pub returns-then-n-eq2 : goal.returns-then-n-eq2
returns-then-n-eq2 c = let z = c.release_one-h-then-n-eq2 in
    let r = c.release_one-h in
    let a = c.args in
    let k = c.requires.standing.laid in
    let two : a.n ≡ 2 = c.if-n-eq2.true in
    let last : len (view a.g a.spans.now a.order.now).spans 31 ≤ a.g.p =
    rw (len_view a.g a.spans.now a.order.now k 31) c.requires.free_two.last in
    rw two
    (done_next a.g r.result z.result a.spans.now a.order.now r.new.order z.new.order a.tally.now r.new.tally
    z.new.tally 1 k (omega arith) last r.ensures.becomes z.ensures.becomes)
