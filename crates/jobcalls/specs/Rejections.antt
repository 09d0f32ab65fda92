-- The rejection of a job for a line that is missing or malformed. Assumes nothing.
use Rattle.rules.specs.declared.Refusal.TheVariants as refusal
use Rattle.jobcalls.specs.declared.Malformed.{Malformed}
use Rattle.jobcalls.specs.declared.Rejection.{Rejection}

abbrev pub rejection_of : Malformed → Rejection
rejection_of x = record { line = x.line; refusal = refusal.Malformed }
