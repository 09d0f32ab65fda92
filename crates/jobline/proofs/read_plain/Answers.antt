-- Each way out is a key with what follows it read, or no key. Assumes nothing.
use Rattle.std.proofs.Common.{false, ◌≡◌, refl, sym, ◌∙◌, length}
use Rattle.std.specs.Str.{bytes_eq}
use Rattle.rules.specs.Job as rule
use Rattle.rules.specs.Job.{key_parallelism, key_places, key_set, flush_text, final_text}
use Rattle.jobline.specs.Lines.{begins}
use Rattle.jobline.specs.Keys.{Numbered, same_key, same_length, parallelism_key, places_key, set_key, flush_key, final_key, no_line}
use Rattle.jobline.specs.Reads.{value_line, no_value, plain_line}
use Rattle.jobline.proofs.read_plain.Goals as goal
use Rattle.jobline.proofs.read_plain.Goals.{In-Some, In-Some-after, In-Some-after-2, In_default-after-2, Else-equals, Else-equals-2}

-- what the tests tell
by-parallelism : (c : In-Some) → Numbered (length key_parallelism) rule.parallelism_line c.args.s.now
by-parallelism c = parallelism_key _ c.in-Some.ensures.0

by-places : (c : In-Some-after) → Numbered (length key_places) rule.places_line c.args.s.now
by-places c = places_key _ c.in_default.ensures c.in-Some-after.ensures.0

by-set : (c : In-Some-after-2) → Numbered (length key_set) rule.set_line c.args.s.now
by-set c = set_key _ c.in_default.ensures c.in_default-after.ensures c.in-Some-after-2.ensures.0

no-parallelism : (c : In_default-after-2) → begins key_parallelism c.args.s.now ≡ false
no-parallelism c = c.in_default.ensures

no-places : (c : In_default-after-2) → begins key_places c.args.s.now ≡ false
no-places c = c.in_default-after.ensures

no-set : (c : In_default-after-2) → begins key_set c.args.s.now ≡ false
no-set c = c.in_default-after-2.ensures

not-flush : (c : Else-equals) → bytes_eq c.args.s.now flush_text ≡ false
not-flush c = sym c.if-equals.ensures

not-final : (c : Else-equals-2) → bytes_eq c.args.s.now final_text ≡ false
not-final c = sym c.if-equals-2.ensures

pub returns-in_err-n : goal.returns-in_err-n
returns-in_err-n c = rw c.from_residual.ensures (no_value _ (by-parallelism (goal.at.returns-in_err-n c).In-Some) c.in-Some.ensures.1 c.in_err-n.ensures)

pub returns-in-Some : goal.returns-in-Some
returns-in-Some c = value_line _ (by-parallelism (goal.at.returns-in-Some c).In-Some) c.in-Some.ensures.1 _ _ c.in_ok-n.ensures refl (λ r. refl)

pub returns-in_err-n-2 : goal.returns-in_err-n-2
returns-in_err-n-2 c = rw c.from_residual-in_err-n-2.ensures
    (no_value _ (by-places (goal.at.returns-in_err-n-2 c).In-Some-after) c.in-Some-after.ensures.1 c.in_err-n-2.ensures)

pub returns-in-Some-after : goal.returns-in-Some-after
returns-in-Some-after c =
    value_line _ (by-places (goal.at.returns-in-Some-after c).In-Some-after) c.in-Some-after.ensures.1 _ _ c.in_ok-n-2.ensures refl (λ r. refl)

pub returns-in_err-n-3 : goal.returns-in_err-n-3
returns-in_err-n-3 c = rw c.from_residual-in_err-n-3.ensures
    (no_value _ (by-set (goal.at.returns-in_err-n-3 c).In-Some-after-2) c.in-Some-after-2.ensures.1 c.in_err-n-3.ensures)

pub returns-in-Some-after-2 : goal.returns-in-Some-after-2
returns-in-Some-after-2 c =
    value_line _ (by-set (goal.at.returns-in-Some-after-2 c).In-Some-after-2) c.in-Some-after-2.ensures.1 _ _ c.in_ok-n-3.ensures refl (λ r. refl)

pub returns-then-equals : goal.returns-then-equals
returns-then-equals c = let k = (goal.at.returns-then-equals c).In_default-after-2 in
    let y = sym c.if-equals.ensures in
    let q = same_length flush_text _ y in
    plain_line refl (λ r. refl) (flush_key _ (no-parallelism k) (no-places k) (no-set k) c.requires q (sym (same_key flush_text _ q) ∙ y))

pub returns-then-equals-2 : goal.returns-then-equals-2
returns-then-equals-2 c = let k = (goal.at.returns-then-equals-2 c).In_default-after-2 in
    let y = sym c.if-equals-2.ensures in
    let q = same_length final_text _ y in
    let n = sym (same_key flush_text _ q) ∙ not-flush (goal.at.returns-then-equals-2 c).Else-equals in
    plain_line refl (λ r. refl) (final_key _ (no-parallelism k) (no-places k) (no-set k) c.requires q n (sym (same_key final_text _ q) ∙ y))

pub returns : goal.returns
returns c = let k = (goal.at.returns c).In_default-after-2 in
    plain_line refl (λ r. refl) (no_line _ (no-parallelism k) (no-places k) (no-set k) c.requires (not-flush (goal.at.returns c).Else-equals) (not-final c))
