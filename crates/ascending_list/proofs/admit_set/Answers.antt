-- `ascending_list::admit_set` meets its contract: a refused set leaves the marks as they were, an accepted one marks its place.
use mathlib.Core.Path.{◌≡◌, refl}
use borrow.Author.Rules.{rules}
use Rattle.std.specs.Prelude.{Result, Err}
use Rattle.rules.specs.declared.Refusal.{Refusal}
use Rattle.rules.specs.Answer.{number_of_pos}
use Rattle.ascending_session.specs.Promise.{may_do}
use Rattle.ascending_calls.specs.Numbers.{set_number}
use Rattle.ascending_calls.specs.Setting.{set_inside, set_low, sets_marks}
use Rattle.ascending_list.specs.Made.{set_refused, set_done}
use Rattle.ascending_list.proofs.admit_set.Goals as goal

pub returns-in_err-check_set : goal.returns-in_err-check_set
returns-in_err-check_set c = λ σ q.
    let e : ◌≡◌ {A = Result (Unit {0}) Refusal} c.from_residual.result (Err c.in_err-check_set.field-0.0) = search rules in
    rw e (set_refused (set_number refl c.in_err-check_set.ensures) (number_of_pos _))

pub set_mark-requires : goal.set_mark-requires
set_mark-requires c = let q = c.requires.asks in set_inside (may_do (set_number refl c.in_ok-check_set.ensures) refl q)

pub returns : goal.returns
returns c = λ σ q.
    let h = set_number refl c.in_ok-check_set.ensures in
    set_done h refl (set_low (may_do h refl q)) (sets_marks c.set_mark.ensures (may_do h refl q))
