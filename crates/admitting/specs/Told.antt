-- What admitting a set or an add answers, as one record: the call's number, and where that is 0 the session's counts after its own marks or
-- lists are stored, with the top link of the stack of what is to be placed. Definitions only. Assumes nothing.
use Rattle.std.specs.Prelude.{ℕ, Result, Ok, Err}
use Rattle.rules.specs.declared.Refusal.{Refusal}
use Rattle.rules.specs.Answer.{number_of}
use Rattle.session.specs.declared.Session.{Session}
use Rattle.admitting.specs.declared.Admitted.{Admitted}

pub record Told : Type 0 where
  pub number : ℕ
  pub watermark : ℕ
  pub added : ℕ
  pub used : ℕ
  pub delayed : ℕ
  pub top : ℕ

-- admitted
abbrev pub passed : Admitted → Told
passed a = record { number = 0; watermark = a.watermark; added = a.added; used = a.used; delayed = a.delayed; top = a.top }

-- admitted, or refused: then the session's counts, and nothing is to be placed
abbrev pub told : Session → Result Admitted Refusal → Told
told s (Ok a) = passed a
told s (Err e) = record { number = number_of e; watermark = s.watermark; added = s.added; used = s.used; delayed = s.delayed; top = 0 }
