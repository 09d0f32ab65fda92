-- `alone_list::run` meets its contract. The invariant says what is still to be run, and that the answers so far are right. Assumes nothing.
use Prim.Native.Nat.{ℕ, ◌/◌, ◌<◌}
use lib.ListN.{length, get_or}
use mathlib.Core.List.{List, []}
use mathlib.Core.Path.{◌≡◌, ap, ◌∙◌}
use native.Mathlib.Omega.{arith}
use Rattle.alone.specs.Held.{model}
use Rattle.alone_list.specs.Requests.{request_size, request_at}
use Rattle.alone_list.specs.Forms.{chunk_at, chunk_request}
use Rattle.alone_list.specs.Running.{run_turn, run_ends}
use Rattle.alone_list.proofs.run.Goals as goal

pub loop-k-preserved : goal.loop-k-preserved
loop-k-preserved c = let a = c.args in
    let l = c.loop-k in
    let s = c.serve-a in
    let w = c.note in
    let n = length a.requests.now / request_size in
    let h : l.k < n = omega (arith, c.loop-k-test.true, c.as_chunks.ensures.front_len) in
    let e : request_at (get_or c.as_chunks.result.0.now l.k []) 0 ≡ request_at a.requests.now l.k =
    ap (λ (x : List (List ℕ)). request_at (get_or x l.k []) 0) c.as_chunks.ensures.front ∙ ap (λ (x : List ℕ). request_at x 0) (chunk_at n l.k a.requests.now [] h)
    ∙ chunk_request a.requests.now l.k
    in
    run_turn a.x.guide.p a.x.guide.v a.x.guide.written (model a.x a.spans.now a.order.now)
    a.spans.now a.order.now a.tally.now a.requests.now a.answers.now n l.k l.y
    s.result.alone l.spans l.order l.tally s.new.spans s.new.order s.new.tally l.answers
    w.new.answers _ h l.invariant (rw (← e) s.ensures) w.ensures

pub returns : goal.returns
returns c = let a = c.args in
    let l = c.loop-k in
    run_ends a.x.guide.p a.x.guide.v a.x.guide.written (model a.x a.spans.now a.order.now) a.spans.now
    a.order.now a.tally.now a.requests.now a.answers.now (length a.requests.now / request_size) l.k l.y l.spans l.order l.tally
    l.answers (omega (arith, c.loop-k-test.false, c.as_chunks.ensures.front_len)) l.invariant
