-- `call_runs::make_one` meets its contract: the loop makes the call, its number is the one answer, and nothing is left. The refusal that has
-- this number is told, and where none has, the call is accepted.
use borrow.Author.Rules.{rules}
use Rattle.std.specs.Prelude.{Some, None}
use Rattle.call_runs.specs.Continuing.{one_may, one_made}
use Rattle.call_runs.specs.Naming.{one_answered}
use Rattle.call_runs.proofs.make_one.Goals as goal

pub run_open-r-requires : goal.run_open-r-requires
run_open-r-requires c = let pre = c.requires in one_may pre.1 _ pre.0 (search rules)

pub returns-in-Some-clause-made : goal.returns-in-Some-clause-made
returns-in-Some-clause-made c = let M = one_made c.requires.1 (search rules) c.run_open-r.ensures.continues in
    one_answered _ c.requires.0 M (Some c.in-Some.e) c.in-Some.ensures

pub returns-in-None-clause-made : goal.returns-in-None-clause-made
returns-in-None-clause-made c = let M = one_made c.requires.1 (search rules) c.run_open-r.ensures.continues in
    one_answered _ c.requires.0 M None c.in-None.ensures
