-- Where the copying is refused the order is as it was; else each entry that the loop comes to can be read and has room. Assumes nothing.
use Rattle.std.proofs.Common.{◌≡◌, ◌∙◌, sym, ap, length, List, set, arith}
use Rattle.rules.specs.Answer.{number_of, number_of_pos}
use Rattle.order_copy.specs.declared.OrderInfo.{OrderInfo}
use Rattle.order_copy.specs.Copied.{copied}
use Rattle.order_copy.specs.Checked.{Ready, ready}
use Rattle.order_copy.specs.Loop.{copied_none, copied_more, copied_not, copied_all}
use Rattle.order_entries.proofs.order_append_new.Goals as goal
use Rattle.order_entries.proofs.order_append_new.Goals.{In_default}

-- what the checks say of the entries
checked : (c : In_default) → Ready (length c.args.order.now) c.args.flat.now c.args.from c.args.to
checked c = ready _ _ _ _ (sym c.in_default.ensures)

pub returns-in-Err : goal.returns-in-Err
returns-in-Err c =
    let n : c.into.result ≡ number_of c.in-Err.refusal = c.into.ensures in
    (n ∙ c.in-Err.ensures, copied_not _ _ _ _ _ (λ z. number_of_pos c.in-Err.refusal (sym n ∙ z)))

pub loop-k-init : goal.loop-k-init
loop-k-init c = sym (copied_none _ _ _)

pub entry_at-requires : goal.entry_at-requires
entry_at-requires c = (checked (goal.at.entry_at-requires c).In_default).readable c.loop-k.k c.loop-k.auto.k c.loop-k-test.true

pub append-requires : goal.append-requires
append-requires c = omega (arith, (checked (goal.at.append-requires c).In_default).within, c.loop-k.auto.order)

pub loop-k-preserved : goal.loop-k-preserved
loop-k-preserved c =
    let h = (checked (goal.at.loop-k-preserved c).In_default).within in
    c.append.ensures ∙ ap (λ (l : List OrderInfo). set l c.loop-k.k c.entry_at.result) c.loop-k.invariant
    ∙ ap (λ (e : OrderInfo). set (copied c.args.order.now c.args.flat.now c.args.from c.loop-k.k) c.loop-k.k e) c.entry_at.ensures
    ∙ copied_more _ _ _ _ c.loop-k.auto.k (omega arith)

pub returns : goal.returns
returns c =
    let h = (checked (goal.at.returns c).In_default).order in
    let e : c.loop-k.k ≡ c.args.to = omega arith in
    (c.in_default.ensures, c.loop-k.invariant ∙ rw e (copied_all _ _ _ _))
