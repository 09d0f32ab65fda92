-- The search through what stands from `from` on. Assumes nothing.
use Rattle.std.proofs.Common.{◌-◌, ◌≡◌, ℕ, ap, ◌∙◌, take, drop, length, take_all, length-drop, arith, List, position, nat_eq}
use Rattle.jobtext.specs.Pieces.{place_or, first_is}
use Rattle.jobtext.specs.Text.{before}
use Rattle.jobtext.proofs.find.Goals as goal
use Rattle.jobtext.proofs.find.Goals.{After-first}

place : (c : After-first) → place_or (length (drop c.args.from c.args.s.now)) c.first.result ≡ before c.args.b (drop c.args.from c.args.s.now)
place c = let s = c.args.s.now in
    let rest : take (length s - c.args.from) (drop c.args.from s) ≡ drop c.args.from s = take_all (length s - c.args.from) (drop c.args.from s) (rw (length-drop c.args.from s) (omega arith)) in
    ap (place_or (length (drop c.args.from s))) (c.first.ensures ∙ ap (λ (l : List ℕ). position (λ (x : ℕ). nat_eq x c.args.b) l) rest) ∙ first_is c.args.b (drop c.args.from s)

pub returns-in-Some : goal.returns-in-Some
returns-in-Some c = let k = ap (place_or (length (drop c.args.from c.args.s.now))) c.in-Some.is in
    omega (arith, k, place (goal.at.returns-in-Some c).After-first)

pub returns-in-None : goal.returns-in-None
returns-in-None c = let n = ap (place_or (length (drop c.args.from c.args.s.now))) c.in-None.is in
    omega (arith, n, place (goal.at.returns-in-None c).After-first, length-drop c.args.from c.args.s.now)
