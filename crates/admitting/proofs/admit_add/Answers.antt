-- `admitting::admit_add` meets its contract: refused, the checks leave the storage as it was; accepted, the outputs are flagged, the lists
-- are stored and the new registration is on the stack or waits.
use mathlib.Core.Path.{refl}
use native.Mathlib.Omega.{arith}
use Rattle.std.proofs.Common.{rules}
use Rattle.std.specs.Prelude.{◌≡◌, Result, Err}
use Rattle.rules.specs.declared.Refusal.{Refusal}
use Rattle.rules.specs.Answer.{number_of_pos}
use Rattle.admitting.specs.declared.Admitted.{Admitted}
use Rattle.admitting.specs.Promise.{same_waiting}
use Rattle.admitting.specs.Numbers.{add_number, may_add}
use Rattle.admitting.specs.Begun.{admits_not}
use Rattle.admitting.specs.AddWork.{add_counts, add_stores, add_links, add_admits}
use Rattle.admitting.proofs.admit_add.Goals as goal

pub returns-in_err-claim_add : goal.returns-in_err-claim_add
returns-in_err-claim_add c =
    let e : ◌≡◌ {A = Result Admitted Refusal} c.from_residual.result (Err c.in_err-claim_add.field-0.0) = search rules in
    let n = c.in_err-claim_add.ensures in
    rw e (λ σ q. admits_not _ _ _ _ _ (add_number _ _ _ _ _ _ _ _ _ refl refl n) (number_of_pos _) (same_waiting _ _ (n.same (number_of_pos _))))

pub store_lists-requires : goal.store_lists-requires
store_lists-requires c =
    let n = c.in_ok-claim_add.ensures in
    add_stores _ _ _ _ _ _ _ refl refl _ (n.claims refl) (may_add _ _ _ _ _ _ _ _ _ refl refl n refl c.requires.asks)

pub link_new-top-requires : goal.link_new-top-requires
link_new-top-requires c =
    let n = c.in_ok-claim_add.ensures in
    add_links _ _ _ _ _ _ _ refl refl _ (n.claims refl) _ _ c.store_lists.ensures (may_add _ _ _ _ _ _ _ _ _ refl refl n refl c.requires.asks)
    _ c.greatest-m.ensures

pub overflow_add-result-4 : goal.overflow_add-result-4
overflow_add-result-4 c = omega (arith, (add_counts _ _ _ _ _ (may_add _ _ _ _ _ _ _ _ _ refl refl c.in_ok-claim_add.ensures refl c.requires.asks)).1)

pub returns : goal.returns
returns c = λ σ q.
    let n = c.in_ok-claim_add.ensures in
    add_admits _ _ _ _ _ _ _ refl refl _ (n.claims refl) _ _ c.store_lists.ensures _ _ c.link_new-top.auto.waiting
    (c.link_new-top.ensures _ refl c.greatest-m.ensures) _ (add_number _ _ _ _ _ _ _ _ _ refl refl n) refl q
