-- A list or a lane after its key, or a line that is none of an add's. Assumes nothing.
use Rattle.std.proofs.Common.{refl, length, arith}
use Rattle.rules.specs.Job as rule
use Rattle.jobline.specs.Keys.{Numbered, Itemized, lane_key, inputs_line, outputs_line}
use Rattle.jobline.specs.Reads.{value_line, no_value, plain, list_line, no_list}
use Rattle.jobline.proofs.read_line.Goals as goal
use Rattle.jobline.proofs.read_line.Goals.{In-Some, In-Some-after, In-Some-after-2}

-- what the tests tell
by-inputs : (c : In-Some) → Itemized (length rule.key_in) rule.in_line c.args.s.now
by-inputs c = inputs_line _ c.in-Some.ensures.0

by-outputs : (c : In-Some-after) → Itemized (length rule.key_out) rule.out_line c.args.s.now
by-outputs c = outputs_line _ c.in-Some-after.ensures.0

by-lane : (c : In-Some-after-2) → Numbered (length rule.key_lane) rule.lane_line c.args.s.now
by-lane c = lane_key _ c.in-Some-after-2.ensures.0

pub returns-in_err-n : goal.returns-in_err-n
returns-in_err-n c = rw c.from_residual.ensures
    (no_list _ _ _ c.requires (by-inputs (goal.at.returns-in_err-n c).In-Some) (omega arith) c.in-Some.ensures.1 c.in_err-n.ensures)

pub returns-in-Some : goal.returns-in-Some
returns-in-Some c = list_line _ _ _ c.requires (by-inputs (goal.at.returns-in-Some c).In-Some) (omega arith) c.in-Some.ensures.1 c.in_ok-n.ensures _ refl refl

pub returns-in_err-n-2 : goal.returns-in_err-n-2
returns-in_err-n-2 c = rw c.from_residual-in_err-n-2.ensures
    (no_list _ _ _ c.requires (by-outputs (goal.at.returns-in_err-n-2 c).In-Some-after) (omega arith) c.in-Some-after.ensures.1 c.in_err-n-2.ensures)

pub returns-in-Some-after : goal.returns-in-Some-after
returns-in-Some-after c = list_line _ _ _ c.requires (by-outputs (goal.at.returns-in-Some-after c).In-Some-after) (omega arith)
    c.in-Some-after.ensures.1 c.in_ok-n-2.ensures _ refl refl

pub returns-in_err-n-3 : goal.returns-in_err-n-3
returns-in_err-n-3 c = rw c.from_residual-in_err-n-3.ensures
    (plain _ _ _ c.requires (no_value _ (by-lane (goal.at.returns-in_err-n-3 c).In-Some-after-2) c.in-Some-after-2.ensures.1 c.in_err-n-3.ensures))

pub returns-in-Some-after-2 : goal.returns-in-Some-after-2
returns-in-Some-after-2 c = plain _ _ _ c.requires
    (value_line _ (by-lane (goal.at.returns-in-Some-after-2 c).In-Some-after-2) c.in-Some-after-2.ensures.1 _ _ c.in_ok-n-3.ensures refl (λ r. refl))

pub read_plain-requires : goal.read_plain-requires
read_plain-requires c =
    record {
      no_lane = c.in_default-after-2.ensures;
      no_in = c.in_default.ensures;
      no_out = c.in_default-after.ensures;
    }
