-- What is left to be turned round, from the places below p, gives the same as the chains of all places from lo to hi. Assumes nothing.
use Prim.Native.Nat.{ℕ}
use mathlib.Core.List.{List}
use native.Mathlib.Omega.{arith}
use Rattle.registrar.specs.Delayed.{newest}
use Rattle.registrar.specs.Keeps.{advancing_places, set_advances}
use Rattle.registrar.specs.Loops.{Going, going_next, going_chain, going_chained, going_end}
use Rattle.registrar.proofs.advance_set.Goals as goal
use Rattle.registrar.proofs.advance_set.Goals.{In-loop-p}

-- in a turn: what is going on, at the chains of the caller's delayed registrations
chains : (c : In-loop-p) → ℕ → List ℕ
chains c = λ q. newest q c.requires.ps

going : (c : In-loop-p) → let a = c.args in let l = c.loop-p in Going a.waiting.now a.v a.lo a.hi 0 (chains c) l.waiting l.p l.top
unfolding chains
going c =
    let a = c.args in
    c.loop-p.invariant.1 (chains c) (advancing_places a.waiting.now a.v a.lo a.hi 0 c.requires)

pub turn_onto-top-requires : goal.turn_onto-top-requires
turn_onto-top-requires c = rw c.head-newest.ensures (going_chained _ _ _ _ _ _ _ _ _ (going (goal.at.turn_onto-top-requires c).In-loop-p) c.loop-p-test.true)

pub loop-p-preserved : goal.loop-p-preserved
loop-p-preserved c = let l = c.loop-p in
    let h = c.loop-p-test.true in
    let turns = rw c.head-newest.ensures at c.turn_onto-top.ensures in (
      omega (arith, h),
      λ ch s.
          let g = l.invariant.1 ch s in
          let e = turns.turned (ch _) (going_chain _ _ _ _ _ ch _ _ _ g h) in
          going_next _ _ _ _ _ ch _ _ _ g h _ _ e.1 e.0,
    )

pub returns : goal.returns
returns c = let a = c.args in
    set_advances a.waiting.now a.v a.lo a.hi c.requires _ _ (λ ch p. going_end _ _ _ _ _ ch _ _ _ (c.loop-p.invariant.1 ch p) c.loop-p-test.false)
