-- The first i places were new and are flagged. A flag that is up is that of a taken place or of one met before. Assumes nothing.
use mathlib.Core.Path.{sym, ◌∙◌}
use native.Mathlib.Omega.{arith}
use Rattle.taken.specs.ClaimLaws.{claim_start, claim_outside, claim_met, claim_refused, claim_next, claim_end}
use Rattle.taken.proofs.claim_new.Goals as goal
use Rattle.taken.proofs.claim_new.Goals.{then-place-v-via-then-place-v, then-place-v-via-else-place-v+then-flag-ne0}

pub loop-i-init : goal.loop-i-init
loop-i-init c = let a = c.args in claim_start a.waiting.now a.v a.outs.now

pub returns-then-place-v : goal.returns-then-place-v
returns-then-place-v c = let p = c.requires in
    let g = c.loop-i.invariant in
    let back = c.unclaim.ensures.back c.args.waiting.now p g in
    elim c.then-place-v.branch [
      | then-place-v-via-then-place-v w ↦ claim_refused (claim_outside p g (omega arith) w.if-place-v.true) back
      | then-place-v-via-else-place-v+then-flag-ne0 w ↦ claim_refused (claim_met p g (omega arith) (omega (arith, w.if-place-v.false)) (λ z. w.if-flag-ne0.true (w.flag.ensures ∙ z))) back
    ]

pub loop-i-preserved : goal.loop-i-preserved
loop-i-preserved c = rw c.set_flag.ensures
    (claim_next c.requires c.loop-i.invariant (omega arith) (omega arith) (sym c.flag.ensures ∙ c.if-flag-ne0.false))

pub returns : goal.returns
returns c = claim_end c.requires c.loop-i.invariant c.loop-i-test.false
