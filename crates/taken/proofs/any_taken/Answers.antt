-- Of the places one is flagged: the walk's test is that of the flag. Assumes nothing.
use Rattle.std.proofs.lemmas.Iterator.{YieldsList-from_slice}
use Rattle.std.proofs.lemmas.Iterator.Adapters.{serves_from_places}
use Rattle.std.proofs.lemmas.Iterator.Search.{any_from_yields_List}
use Rattle.std.proofs.lemmas.Grind.{get_or_default_zero}
use borrow.Author.Rules.{rules}
use mathlib.Core.Path.{sym, ◌∙◌}
use Prim.Native.Nat.{◌<◌}
use native.Mathlib.Omega.{arith}
use Rattle.lists.specs.Part.{below_at}
use Rattle.taken.specs.Flags.{taken_at}
use Rattle.taken.specs.FlagLaws.{any_is}
use Rattle.taken.proofs.any_taken.Goals as goal

pub any-requires-clause-callable : goal.any-requires-clause-callable
any-requires-clause-callable c = let a = c.args in
    serves_from_places (YieldsList-from_slice a.outs.now cc) (λ x q k. search rules)
    (λ x k h e. let low : x.now < a.v = omega (arith, e, get_or_default_zero a.outs.now k x.now h, below_at a.v a.outs.now c.requires.0 k h) in search rules)

pub returns : goal.returns
returns c = let a = c.args in
    any_from_yields_List (taken_at a.waiting.now a.v) _ _ c.any.result c.any.ensures.ran (YieldsList-from_slice a.outs.now cc) (λ x b q k. search rules)
    ∙ sym (any_is (taken_at a.waiting.now a.v) a.outs.now)
