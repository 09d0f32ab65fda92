-- The session is asked where the end is not a refusal, or one with 12; any other refusal is told. Assumes nothing.
use mathlib.Core.Path.{sym, ap, ◌∙◌, subst}
use denote.Enum.Bare.{differs_true, differs_false}
use Rattle.rules.specs.Answer.{number_of}
use Rattle.rules.specs.contracts.Refusal.{the_type}
use Rattle.rules.specs.declared.Refusal.TheVariants.{StillWaiting}
use Rattle.jobturn.specs.Ends.{End, end_as}
use Rattle.job_reason.specs.Laws.{Asked, only_waiting, may_explain, explains_stopped, explains_refused}
use Rattle.job_reason.proofs.explain_end.Goals as goal
use Rattle.job_reason.proofs.explain_end.Goals.{Joined-ended, in-Err+else-ne, in_default}

asked : (c : Joined-ended) → Asked (end_as c.args.ended.end)
asked c =
    elim c.match-ended.branch [
      | in-Err+else-ne w ↦ subst (λ (e : End). Asked e) (sym (ap end_as w.in-Err.is)) (ap number_of (differs_false the_type tt w.in-Err.e.refusal StillWaiting (sym w.ne.ensures ∙ w.if-ne.false)))
      | in_default w ↦ subst (λ (e : End). Asked e) (sym (ap end_as w.in_default.is)) tt
    ]

pub returns-then-ne : goal.returns-then-ne
returns-then-ne c =
    record { tells = λ h. explains_refused h (ap end_as c.in-Err.is) (λ e. differs_true the_type _ _ (sym c.ne.ensures ∙ c.if-ne.true) (only_waiting c.in-Err.e.refusal e)) _ }

pub explain-requires : goal.explain-requires
explain-requires c = may_explain c.requires.ran (asked (goal.at.explain-requires c).Joined-ended)

pub returns : goal.returns
returns c = record { tells = λ h. explains_stopped h (asked (goal.at.returns c).Joined-ended) c.explain.ensures }
