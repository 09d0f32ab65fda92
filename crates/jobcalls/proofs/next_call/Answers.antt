-- A call is a line, or an `in=` line with the `out=` line after it and perhaps a lane line before it. Assumes nothing.
use Rattle.std.proofs.Common.{rules, ◌≡◌, ap, refl, ◌∙◌}
use Rattle.std.specs.Prelude.{Result, Err, Some}
use Rattle.jobline.specs.declared.Line.{Line}
use Rattle.jobcalls.specs.Next.{told_next}
use Rattle.jobcalls.specs.Told.{LineAt}
use Rattle.jobcalls.specs.Laws.{told_as, a_set, with_inputs, no_inputs, with_lane, a_flush, a_final, no_start}
use Rattle.jobcalls.specs.declared.Next.{Next}
use Rattle.jobcalls.specs.declared.Malformed.{Malformed}
use Rattle.jobcalls.proofs.Others.{told_at, no_start_of, no_inputs_of}
use Rattle.jobcalls.proofs.next_call.Goals as goal
use Rattle.jobcalls.proofs.next_call.Goals.{In_ok-place, In_ok-inputs-in-Lane}

-- the first line that was read, and the second, by what it is
first_is : (c : In_ok-place) (l : Line) → c.in_ok-place.field-0 ≡ l → LineAt c.args.job.now c.args.at c.args.into.now c.line_at-first.new.into 0 (Some l) c.line_at-first.result.next
first_is c l e = told_as c.line_at-first.ensures (c.in_ok-place.ensures.ok_part ∙ ap (λ x. Some x) e)

second_is : (c : In_ok-inputs-in-Lane) (l : Line) → c.in_ok-inputs-in-Lane.field-0 ≡ l
    → LineAt c.args.job.now c.line_at-first.result.next c.line_at-first.new.into c.line_at-second.new.into 0 (Some l) c.line_at-second.result.next
second_is c l e = told_as c.line_at-second.ensures (c.in_ok-inputs-in-Lane.ensures.ok_part ∙ ap (λ x. Some x) e)

pub returns-in_err-place : goal.returns-in_err-place
returns-in_err-place c =
    let e : ◌≡◌ {A = Result Next Malformed} c.from_residual.result (Err c.in_err-place.field-0.0) = search rules in
    rw (ap told_next e, told_at c.args.line c.in_err-place.ensures.value c.in_err-place.ensures.ok_part)
    (no_start c.args.line (λ r. refl) (told_as c.line_at-first.ensures c.in_err-place.ensures.ok_part))

pub returns-in_err-inputs-in-Lane : goal.returns-in_err-inputs-in-Lane
returns-in_err-inputs-in-Lane c =
    let e : ◌≡◌ {A = Result Next Malformed} c.from_residual-in_err-inputs-in-Lane.result (Err c.in_err-inputs-in-Lane.field-0.0) = search rules in
    rw (ap told_next e, told_at _ c.in_err-inputs-in-Lane.ensures.value c.in_err-inputs-in-Lane.ensures.ok_part)
    (no_inputs _ (first_is (goal.at.returns-in_err-inputs-in-Lane c).In_ok-place _ c.in-Lane.is) c.args.line
    (told_as c.line_at-second.ensures c.in_err-inputs-in-Lane.ensures.ok_part) (λ r. refl))

pub returns-in_default-2 : goal.returns-in_default-2
returns-in_default-2 c = no_inputs _ (first_is (goal.at.returns-in_default-2 c).In_ok-place _ c.in-Lane.is) c.args.line
    (second_is (goal.at.returns-in_default-2 c).In_ok-inputs-in-Lane _ refl) (no_inputs_of _ (search rules))

pub returns-in-Set : goal.returns-in-Set
returns-in-Set c = a_set c.args.line _ (first_is (goal.at.returns-in-Set c).In_ok-place _ c.in-Set.is)

pub returns-in-Inputs-2 : goal.returns-in-Inputs-2
returns-in-Inputs-2 c = c.read_outputs.ensures _ _ _
    (with_lane _ (first_is (goal.at.returns-in-Inputs-2 c).In_ok-place _ c.in-Lane.is) c.args.line _
    (second_is (goal.at.returns-in-Inputs-2 c).In_ok-inputs-in-Lane _ c.in-Inputs-2.is))

pub returns-in-Inputs : goal.returns-in-Inputs
returns-in-Inputs c = c.read_outputs-in-Inputs.ensures _ _ _ (with_inputs _ (first_is (goal.at.returns-in-Inputs c).In_ok-place _ c.in-Inputs.is) c.args.line)

pub returns-in-Flush : goal.returns-in-Flush
returns-in-Flush c = a_flush c.args.line (first_is (goal.at.returns-in-Flush c).In_ok-place _ c.in-Flush.is)

pub returns-in-Final : goal.returns-in-Final
returns-in-Final c = a_final c.args.line (first_is (goal.at.returns-in-Final c).In_ok-place _ c.in-Final.is)

pub returns-in_default : goal.returns-in_default
returns-in_default c =
    no_start c.args.line (no_start_of _ c.in_default.not-Set c.in_default.not-Lane c.in_default.not-Inputs c.in_default.not-Flush c.in_default.not-Final)
    (first_is (goal.at.returns-in_default c).In_ok-place _ refl)
