-- One line after the other, of which 64 bytes have room for three: the places are small. Assumes nothing.
use mathlib.Core.Path.{ap, subst}
use Rattle.std.specs.Prelude.{Result}
use Rattle.std.proofs.Common.{rules}
use native.Mathlib.Omega.{arith}
use Rattle.rules.specs.Listing.{word_status}
use Rattle.rules.specs.Reason.{word_input, word_place}
use Rattle.writer.specs.Lines.{line_few32}
use Rattle.rules.specs.declared.Refusal.{Refusal}
use Rattle.explaining.specs.declared.Reason.{Reason as Why}
use Rattle.explaining.specs.Explaining as why
use Rattle.explaining.specs.Explaining.{told, Small}
use Rattle.job_reason.specs.Laws.{wrote_to, wrote_reason, wrote_number}
use Rattle.job_reason.proofs.put_reason.Goals as goal
use Rattle.job_reason.proofs.put_reason.Goals.{In-Ok}

pub line-requires : goal.line-requires
line-requires c = omega (arith, line_few32 word_status 0 (omega arith), c.requires.1)

small : (c : In-Ok) → Small (why.Waits c.in-Ok.x.input c.in-Ok.x.place)
small c = subst (λ (x : Result Why Refusal). Small (told x)) c.in-Ok.is c.requires.0

pub line-requires-in-Ok : goal.line-requires-in-Ok
line-requires-in-Ok c = omega (
  arith,
  line_few32 word_status 0 (omega arith),
  line_few32 word_input c.in-Ok.x.input (omega (arith, (small (goal.at.line-requires-in-Ok c).In-Ok).0)),
  c.line.ensures.wrote.next,
  c.line.ensures.size,
  c.requires.1,
)

pub line-requires-in-Ok-2 : goal.line-requires-in-Ok-2
line-requires-in-Ok-2 c = omega (
  arith,
  line_few32 word_status 0 (omega arith),
  line_few32 word_input c.in-Ok.x.input (omega (arith, (small (goal.at.line-requires-in-Ok-2 c).In-Ok).0)),
  line_few32 word_place c.in-Ok.x.place (omega (arith, (small (goal.at.line-requires-in-Ok-2 c).In-Ok).1)),
  c.line.ensures.wrote.next,
  c.line.ensures.size,
  c.line-in-Ok.ensures.wrote.next,
  c.line-in-Ok.ensures.size,
  c.requires.1,
)

pub line-requires-in-Err : goal.line-requires-in-Err
line-requires-in-Err c = let code = subst (λ (x : Result Why Refusal). Small (told x)) c.in-Err.is c.requires.0 in
    omega (arith, line_few32 word_status c.into.result (omega (arith, code, c.into.ensures)), c.requires.1)

pub returns-in-Ok : goal.returns-in-Ok
returns-in-Ok c =
    wrote_to (wrote_reason c.in-Ok.x.input c.in-Ok.x.place (ap told c.in-Ok.is) c.line.ensures.wrote c.line-in-Ok.ensures.wrote c.line-in-Ok-2.ensures.wrote) (search rules)

pub returns-in-Err : goal.returns-in-Err
returns-in-Err c = wrote_to (wrote_number _ (ap told c.in-Err.is) (rw c.into.ensures at c.line-in-Err.ensures.wrote)) (search rules)
