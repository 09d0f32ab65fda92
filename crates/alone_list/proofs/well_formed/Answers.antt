-- `alone_list::well_formed` meets its contract: no numbers are left over, and of each six the first is a known kind. Assumes nothing.
use Rattle.std.proofs.Common.{rules, sym, ◌∙◌, ap, ◌≡◌, ◌≢◌, length}
use Rattle.std.specs.List.{list_all}
use Rattle.std.proofs.lemmas.Iterator.{YieldsList-from_slice}
use Rattle.std.proofs.lemmas.Iterator.Search.{all_from_yields_List}
use borrow.Author.Tests.{tests, eqb-true, eqb-false}
use Rattle.alone_list.specs.Forms.{is_kind, sixes_all, not_sixes}
use Rattle.alone_list.proofs.well_formed.Goals as goal

pub returns-then-is_empty : goal.returns-then-is_empty
returns-then-is_empty c =
    let z : length c.as_chunks.result.1.now ≡ 0 = eqb-true (length c.as_chunks.result.1.now) 0 (sym c.is_empty.ensures ∙ c.if-is_empty.true) in
    sixes_all c.args.requests.now (sym c.as_chunks.ensures.back_len ∙ z)
    (all_from_yields_List is_kind _ _ _ c.all.ensures.ran (YieldsList-from_slice c.as_chunks.result.0.now cc) (λ x b q k. search (rules, tests))
    ∙ ap (list_all is_kind) c.as_chunks.ensures.front)

pub returns-else-is_empty : goal.returns-else-is_empty
returns-else-is_empty c =
    let z : length c.as_chunks.result.1.now ≢ 0 = eqb-false (length c.as_chunks.result.1.now) 0 (sym c.is_empty.ensures ∙ c.if-is_empty.false) in
    c.if-is_empty.false ∙ not_sixes c.args.requests.now (λ e. z (c.as_chunks.ensures.back_len ∙ e))
