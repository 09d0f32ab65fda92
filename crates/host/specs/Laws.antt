-- Laws of the host's call: its number is told by the reply. Assumes nothing.
use Rattle.std.specs.Prelude.{List, ◌≡◌, ℕ, ◌+◌, ◌*◌, take}
use Rattle.std.proofs.Math.Path.{ap}
use Rattle.std.proofs.Common.{◌∙◌, arith}
use Rattle.std.proofs.Math.ListN.{length, length-take}
use Rattle.rules.specs.Limits.{reply_radix}
use Rattle.rules.specs.Listing as rule
use Rattle.job_reply.specs.Reply as reply
use Rattle.job_reply.specs.Reply.{Reply, Replied}
use Rattle.host.specs.Called.{Called}
use Rattle.std.proofs.Common.{subst}

module _ {job entry exit : List ℕ} where
  pub called_listed : (n : ℕ) → Replied job entry exit (reply.Listed n) → Called job entry exit (reply_radix * n)
  unfolding rule.result
  called_listed n r =
      let q : n ≡ length (take n exit) = omega (arith, length-take n exit, r.small.0) in
      record { result = ap (λ (i : ℕ). reply_radix * i) q ∙ ap rule.result r.is; bytes = r.bytes }

  pub called_refused : (line code : ℕ) → Replied job entry exit (reply.Refused line code) → Called job entry exit (reply_radix * line + code)
  unfolding rule.result
  called_refused line code r = record { result = ap rule.result r.is; bytes = r.bytes }

-- a reply by what is told of it
pub replied_as : {job entry exit : List ℕ} {x y : Reply} → Replied job entry exit x → x ≡ y → Replied job entry exit y
replied_as {job} {entry} {exit} r e = subst (λ (z : Reply). Replied job entry exit z) e r
