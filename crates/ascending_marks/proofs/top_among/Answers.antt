-- The greatest of the locations, in std's word and then in the definition's. Assumes nothing.
use Rattle.std.proofs.Common.{◌∙◌, ap, ◌≡◌, Option, sym, get_or, length, map}
use Prim.Native.Nat.{ℕ, max, ◌<◌}
use native.Mathlib.Omega.{arith}
use borrow.Author.Rules.{rules}
use Rattle.std.specs.List.{reduce}
use Rattle.std.specs.Option.{unwrap_or}
use Rattle.std.proofs.lemmas.Iterator.{YieldsList-from_slice, YieldsList-from_map}
use Rattle.std.proofs.lemmas.Iterator.Adapters.{option_map_id, serves_from_places}
use Rattle.std.proofs.lemmas.Iterator.Consumers.{YieldsList-at, max_from_yields_List}
use Rattle.std.proofs.lemmas.Grind.{get_or_default_zero}
use Rattle.lists.specs.Part.{below_at}
use Rattle.lists.specs.Scan.{greatest_is}
use Rattle.ascending_marks.specs.Runs.{peak_is}
use Rattle.ascending_marks.proofs.top_among.Goals as goal

pub max-requires-clause-can : goal.max-requires-clause-can
max-requires-clause-can c = let xs = c.args.places.now in (
  tt,
  serves_from_places (YieldsList-at c.map.ensures.source (YieldsList-from_slice xs cc)) (λ x q k. search rules) (λ x k h e.
      let low : x.now < length c.args.locations.now = omega (arith, e, get_or_default_zero xs k x.now h, below_at (length c.args.locations.now) xs c.requires k h) in
      search rules),
)

pub returns : goal.returns
returns c = let xs = c.args.places.now in
    let at = λ (x : ℕ). get_or c.args.locations.now x 0 in
    let m : c.max.result ≡ reduce max (map at xs) =
    sym (option_map_id c.max.result)
    ∙ max_from_yields_List c.map.result _ c.max.ensures.ran
    (YieldsList-from_map _ at (YieldsList-at c.map.ensures.source (YieldsList-from_slice xs cc)) c.map.ensures.closure (λ x r q k. search rules)) in
    c.unwrap_or.ensures ∙ ap (λ (r : Option ℕ). unwrap_or r 0) m ∙ greatest_is (map at xs) ∙ peak_is c.args.locations.now xs
