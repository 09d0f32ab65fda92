-- `alone::push` meets its contract: what an accepted push has passed is what the guide's core asks. Assumes nothing.
use Rattle.entries.specs.Entries.{item_of}
use Rattle.std.proofs.lemmas.Result.{err_from_is_err_and}
use Rattle.rules.specs.Answer.{number_of_pos}
use Rattle.window.specs.Location.{has, span_of, pos_of}
use Rattle.alone.specs.Pushing.{ready, low_last, few_pushes, near, push_refused, push_served}
use native.Mathlib.Omega.{arith}
use mathlib.Core.Path.{refl, sym}
use Rattle.alone.proofs.push.Goals as goal

pub returns-in_err-check_push : goal.returns-in_err-check_push
returns-in_err-check_push c = let a = c.args in
    let p = err_from_is_err_and c.from_residual.result c.from_residual.ensures.1 in
    rw (p.1, p.2)
    (push_refused a.x a.spans.now a.order.now a.tally.now c.requires (has a.after) (span_of a.after) (pos_of a.after) a.value a.added a.accepted _ c.in_err-check_push.ensures (number_of_pos _))

pub push-r-requires : goal.push-r-requires
push-r-requires c = let a = c.args in
    let sp = a.spans.now in
    let o = a.order.now in
    let t = a.tally.now in
    let z = sym c.in_ok-check_push.ensures in
    record {
      standing = c.requires.stands;
      ready = ready a.x sp o t c.requires (low_last a.x sp o t c.requires (has a.after) (span_of a.after) (pos_of a.after) z);
      near = near a.x sp o t c.requires (has a.after) (span_of a.after) (pos_of a.after) z;
    }

pub overflow_add-alone : goal.overflow_add-alone
overflow_add-alone c = let a = c.args in
    let z = sym c.in_ok-check_push.ensures in
    omega (arith, few_pushes a.x a.spans.now a.order.now a.tally.now c.requires (has a.after) (span_of a.after) (pos_of a.after) z, c.requires.stands.small)

pub returns : goal.returns
unfolding item_of
returns c = let f = c.push-r in
    let a = c.args in
    let z = sym c.in_ok-check_push.ensures in
    push_served a.x a.spans.now a.order.now a.tally.now c.requires (has a.after) (span_of a.after) (pos_of a.after) a.value a.added a.accepted _
    f.new.spans f.new.order f.new.tally f.result.at.span f.result.at.pos z refl f.ensures
