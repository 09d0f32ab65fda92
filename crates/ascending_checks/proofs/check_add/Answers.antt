-- One that passes is accepted; the others have the number that `look` finds. Assumes nothing.
use Rattle.ascending_checks.specs.Laws.{may_pass, tells, passed}
use Rattle.ascending_checks.proofs.check_add.Goals as goal

pub passes-requires : goal.passes-requires
passes-requires c = may_pass c.requires

pub returns-then-passes : goal.returns-then-passes
returns-then-passes c = passed (tells (may_pass c.requires) c.passes.ensures) c.if-passes.true
