-- Line 1 has P and line 2 has V. Assumes nothing.
use Rattle.std.proofs.Common.{rules, ◌≡◌, ap, refl, ◌∙◌}
use Rattle.std.specs.Prelude.{Result, Err, Some}
use Rattle.jobcalls.specs.Head.{told_head}
use Rattle.jobcalls.specs.Laws.{told_as, no_line_1, no_line_2, the_head}
use Rattle.jobcalls.specs.declared.Head.{Head}
use Rattle.jobcalls.specs.declared.Malformed.{Malformed}
use Rattle.jobcalls.proofs.Others.{told_at, no_parallelism_of, no_places_of}
use Rattle.jobcalls.proofs.read_head.Goals as goal

pub returns-in_err-p : goal.returns-in_err-p
returns-in_err-p c =
    let e : ◌≡◌ {A = Result Head Malformed} c.from_residual.result (Err c.in_err-p.field-0.0) = search rules in
    rw (ap told_head e, told_at 1 c.in_err-p.ensures.value c.in_err-p.ensures.ok_part)
    (no_line_1 (λ r. refl) (told_as c.line_at-first.ensures c.in_err-p.ensures.ok_part))

pub returns-in_default : goal.returns-in_default
returns-in_default c = no_line_1 (no_parallelism_of _ c.in_default.not-Parallelism) (told_as c.line_at-first.ensures c.in_ok-p.ensures.ok_part)

pub returns-in_err-v : goal.returns-in_err-v
returns-in_err-v c =
    let e : ◌≡◌ {A = Result Head Malformed} c.from_residual-in_err-v.result (Err c.in_err-v.field-0.0) = search rules in
    rw (ap told_head e, told_at 2 c.in_err-v.ensures.value c.in_err-v.ensures.ok_part)
    (no_line_2 _ (told_as c.line_at-first.ensures (c.in_ok-p.ensures.ok_part ∙ ap (λ l. Some l) c.in-Parallelism.is)) (λ r. refl)
    (told_as c.line_at-second.ensures c.in_err-v.ensures.ok_part))

pub returns-in_default-2 : goal.returns-in_default-2
returns-in_default-2 c = no_line_2 _ (told_as c.line_at-first.ensures (c.in_ok-p.ensures.ok_part ∙ ap (λ l. Some l) c.in-Parallelism.is))
    (no_places_of _ c.in_default-2.not-Places) (told_as c.line_at-second.ensures c.in_ok-v.ensures.ok_part)

pub returns : goal.returns
returns c = the_head _ (told_as c.line_at-first.ensures (c.in_ok-p.ensures.ok_part ∙ ap (λ l. Some l) c.in-Parallelism.is)) _
    (told_as c.line_at-second.ensures (c.in_ok-v.ensures.ok_part ∙ ap (λ l. Some l) c.in-Places.is))
