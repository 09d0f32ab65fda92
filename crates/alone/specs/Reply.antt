-- The reply to a request as the theorems tell it, and the guide alone after it, by what the code returns. Assumes nothing.
use Rattle.std.specs.Prelude.{ℕ, Result, Ok, Err}
use Rattle.rules.specs.declared.Refusal.{Refusal}
use Rattle.rules.specs.Answer.{number_of}
use Rattle.alone.specs.declared.Alone.{Alone}
use Rattle.alone.specs.declared.Pushed.{Pushed}

-- a location for an accepted push, nothing for an accepted flush, or the number of the refusal
pub data Reply : Type 0 where
  At : ℕ → ℕ → Reply
  Released : Reply
  Rejected : ℕ → Reply

-- after a push
abbrev pub push_reply : Result Pushed Refusal → Reply
push_reply (Ok r) = At r.at.span r.at.pos
push_reply (Err e) = Rejected (number_of e)

abbrev pub alone_pushed : Alone → Result Pushed Refusal → Alone
alone_pushed x (Ok r) = r.alone
alone_pushed x (Err e) = x

-- after a flush
abbrev pub flush_reply : Result Alone Refusal → Reply
flush_reply (Ok x) = Released
flush_reply (Err e) = Rejected (number_of e)

abbrev pub alone_flushed : Alone → Result Alone Refusal → Alone
alone_flushed x (Ok y) = y
alone_flushed x (Err e) = x
