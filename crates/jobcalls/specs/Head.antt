-- The head of a job as the definitions have it, one data type with the missing or malformed line among its cases, and how the code's answer
-- tells it. Assumes nothing.
use Rattle.std.specs.Prelude.{ℕ, Result, Ok, Err}
use Rattle.jobcalls.specs.declared.Head.{Head as Found}
use Rattle.jobcalls.specs.declared.Malformed.{Malformed as NotRead}

-- P, V and the place after the head; or the line of it that is missing or malformed
pub data Head : Type 0 where
  Sizes : ℕ → ℕ → ℕ → Head
  Malformed : ℕ → Head

abbrev pub told_head : Result Found NotRead → Head
told_head (Ok h) = Sizes h.p h.v h.next
told_head (Err e) = Malformed e.line
