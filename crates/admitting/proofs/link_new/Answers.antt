-- `admitting::link_new` meets its contract: it joins those that wait, or is put on the empty stack.
use Rattle.admitting.specs.Linking.{links_none, links_low, links_high}
use Rattle.admitting.proofs.link_new.Goals as goal
use Rattle.admitting.proofs.link_new.Goals.{then-inputs-ne0+else-watermark-m, else-inputs-ne0}

pub returns-then-watermark-m : goal.returns-then-watermark-m
returns-then-watermark-m c = links_high _ _ _ _ _ _ _ c.if-inputs-ne0.true c.if-watermark-m.true c.delay.ensures

pub returns : goal.returns
returns c =
    let z = c.stack.ensures in
    elim c.if-inputs-ne0.branch [
      | then-inputs-ne0+else-watermark-m w ↦ links_low _ _ _ _ _ _ _ _ w.if-watermark-m.false z
      | else-inputs-ne0 w ↦ links_none _ _ _ _ _ _ _ _ w.if-inputs-ne0.false z
    ]
