-- `choice::choose` meets its contract: each return is one way out of `chosen_by`, and the signed difference, where it is not negative, is the
-- distance. Assumes nothing.
use mathlib.Core.Path.{refl, sym, ◌∙◌}
use Prim.Native.Nat.{◌<◌, ◌^◌}
use native.Mathlib.Omega.{arith}
use Rattle.choice.proofs.Difference.{was_less, reach}
use Rattle.choice.specs.Chosen.{by_none, by_old, by_two, by_far, by_near}
use Rattle.choice.proofs.choose.Goals as goal

pub returns-in-None : goal.returns-in-None
returns-in-None c = let a = c.args in rw c.in-None.is (by_none a.first a.lens a.p _ _ _ refl)

pub returns-then-d-lt0 : goal.returns-then-d-lt0
returns-then-d-lt0 c = let a = c.args in
    let s = c.in-Some.at.span in
    let f : s < 2 ^ 32 = omega arith in
    rw c.in-Some.is (by_old a.first a.lens a.p _ _ _ refl (was_less s a.first f c.ranges.first.fits c.if-d-lt0.true))

pub returns-then-d-eq-LAST : goal.returns-then-d-eq-LAST
returns-then-d-eq-LAST c = let a = c.args in
    let s = c.in-Some.at.span in
    let f : s < 2 ^ 32 = omega arith in
    let q = rw c.in-Some.is at c.requires in
    let z = reach s a.first f c.ranges.first.fits c.if-d-lt0.false (q refl) in
    rw c.in-Some.is (by_two a.first a.lens a.p _ _ _ refl z.0 (sym z.1.0 ∙ c.if-d-eq-LAST.true))

pub returns-then-lens-d : goal.returns-then-lens-d
returns-then-lens-d c = let a = c.args in
    let s = c.in-Some.at.span in
    let f : s < 2 ^ 32 = omega arith in
    let q = rw c.in-Some.is at c.requires in
    let z = reach s a.first f c.ranges.first.fits c.if-d-lt0.false (q refl) in
    rw c.in-Some.is (by_far a.first a.lens a.p _ _ _ _ c.find_span.result refl z.0 (λ e. c.if-d-eq-LAST.false (z.1.0 ∙ e)) z.1.0 c.if-lens-d.true c.find_span.ensures)

pub returns-else-lens-d : goal.returns-else-lens-d
returns-else-lens-d c = let a = c.args in
    let s = c.in-Some.at.span in
    let f : s < 2 ^ 32 = omega arith in
    let q = rw c.in-Some.is at c.requires in
    let z = reach s a.first f c.ranges.first.fits c.if-d-lt0.false (q refl) in
    rw c.in-Some.is (by_near a.first a.lens a.p _ _ _ _ c.find_span-in-Some.result refl z.0 (λ e. c.if-d-eq-LAST.false (z.1.0 ∙ e)) z.1.0 c.if-lens-d.false c.find_span-in-Some.ensures)
