-- The waiting storage's length comes last. Assumes nothing.
use Rattle.std.proofs.Common.{◌≡◌, ℕ, rules, arith}
use Rattle.rules.specs.Answer.{number, number_of, number_of_pos}
use Rattle.rules.specs.Checks.{Sizes}
use Rattle.opening.specs.declared.SliceLengths.{SliceLengths}
use Rattle.opening.specs.Opened.{sizes_of}
use Rattle.opening.specs.Refusal.{lean_refuses, short_waiting, waiting_suffices, few_places}
use Rattle.opening.proofs.check_sizes.Goals as goal

abbrev lengths : SliceLengths → ℕ → Sizes
lengths l waiting = sizes_of l.spans l.order l.tally l.rows l.marks l.locations waiting

pub returns-in_err-check_lengths : goal.returns-in_err-check_lengths
returns-in_err-check_lengths c =
    let e : number c.from_residual.result ≡ number_of c.in_err-check_lengths.field-0.0 = search rules in
    rw e (lean_refuses c.args.p c.args.v (lengths c.args.l c.args.waiting) c.in_err-check_lengths.ensures (number_of_pos c.in_err-check_lengths.field-0.0))

pub overflow_mul-v : goal.overflow_mul-v
overflow_mul-v c = omega (arith, few_places c.args.p c.args.v (lengths c.args.l c.args.waiting) c.in_ok-check_lengths.ensures)

pub returns-then-waiting-v : goal.returns-then-waiting-v
returns-then-waiting-v c = short_waiting c.args.p c.args.v (lengths c.args.l c.args.waiting) c.in_ok-check_lengths.ensures c.if-waiting-v.true

pub returns : goal.returns
returns c = waiting_suffices c.args.p c.args.v (lengths c.args.l c.args.waiting) c.in_ok-check_lengths.ensures c.if-waiting-v.false
