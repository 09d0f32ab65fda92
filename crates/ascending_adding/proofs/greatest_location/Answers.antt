-- `ascending_adding::greatest_location` meets its contract.
use mathlib.Core.Path.{refl}
use Rattle.session.specs.Finding.{leads_none, leads_some}
use Rattle.ascending_adding.proofs.greatest_location.Goals as goal

pub returns-then-inputs-eq0 : goal.returns-then-inputs-eq0
returns-then-inputs-eq0 c = leads_none c.args.locations.now c.args.inputs.now _ refl c.if-inputs-eq0.true

pub returns : goal.returns
returns c = leads_some c.args.locations.now c.args.inputs.now _ _ c.unpacked.result c.if-inputs-eq0.false c.top_among.ensures c.unpacked.ensures
