-- `explaining::greatest_listed` meets its contract: the greatest of the slice, in std's word, is the definition's. Assumes nothing.
use Rattle.std.proofs.Common.{◌∙◌, ap, ◌≡◌, Option, sym}
use Prim.Native.Nat.{ℕ, ◌+◌, ◌-◌, max}
use lib.ListN.{take, drop}
use Rattle.std.specs.List.{reduce}
use Rattle.std.specs.Option.{unwrap_or}
use Rattle.std.proofs.lemmas.Iterator.Adapters.{option_map_id}
use Rattle.std.proofs.lemmas.Iterator.{YieldsList-from_slice}
use Rattle.std.proofs.lemmas.Iterator.Consumers.{YieldsList-at, YieldsList-from_copied, max_from_yields_List}
use Rattle.rules.specs.Model.{greatest}
use Rattle.lists.specs.Part.{part_range}
use Rattle.lists.specs.Scan.{greatest_is}
use Rattle.explaining.proofs.greatest_listed.Goals as goal

pub returns : goal.returns
returns c = let a = c.args in
    let xs = take (a.at + a.n - a.at) (drop a.at a.pool.now) in
    let m : c.max.result ≡ reduce max xs = sym (option_map_id c.max.result)
    ∙ max_from_yields_List c.copied.result _ c.max.ensures.ran (YieldsList-from_copied (YieldsList-at c.copied.ensures.source (YieldsList-from_slice xs cc))) in
    c.unwrap_or.ensures ∙ ap (λ (r : Option ℕ). unwrap_or r 0) m ∙ greatest_is xs ∙ ap greatest (part_range a.pool.now a.at a.n)
