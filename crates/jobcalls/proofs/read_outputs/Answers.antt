-- The `out=` line behind the inputs that were read and a free number. Assumes nothing.
use Rattle.std.proofs.Common.{rules, ◌≡◌, ap, refl, ◌∙◌}
use Rattle.std.specs.Prelude.{Result, Err, Some}
use Rattle.jobcalls.specs.Next.{told_next}
use Rattle.jobcalls.specs.Laws.{told_as, an_add, no_outputs}
use Rattle.jobcalls.specs.declared.Next.{Next}
use Rattle.jobcalls.specs.declared.Malformed.{Malformed}
use Rattle.jobcalls.proofs.Others.{told_at, no_outputs_of}
use Rattle.jobcalls.proofs.read_outputs.Goals as goal

pub returns-in_err-outputs : goal.returns-in_err-outputs
returns-in_err-outputs c =
    let e : ◌≡◌ {A = Result Next Malformed} c.from_residual.result (Err c.in_err-outputs.field-0.0) = search rules in
    let n = told_at c.args.line c.in_err-outputs.ensures.value c.in_err-outputs.ensures.ok_part in
    rw (ap told_next e, n)
    (no_outputs c.args.line c.args.lane _ c.requires.1.0 c.requires.0 (told_as c.line_at-last.ensures c.in_err-outputs.ensures.ok_part) (λ r. refl))

pub returns-in_default : goal.returns-in_default
returns-in_default c =
    no_outputs c.args.line c.args.lane _ c.requires.1.0 c.requires.0 (told_as c.line_at-last.ensures c.in_ok-outputs.ensures.ok_part) (no_outputs_of _ c.in_default.not-Outputs)

pub returns : goal.returns
returns c =
    an_add c.args.line c.args.lane _ c.requires.1.0 c.requires.0 _ (told_as c.line_at-last.ensures (c.in_ok-outputs.ensures.ok_part ∙ ap (λ l. Some l) c.in-Outputs.is))
