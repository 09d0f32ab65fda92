-- What explaining asks and promises: wherever session and storage stand for a model, the answer is that model's (rules, Reason). Assumes
-- nothing.
use Rattle.std.specs.Prelude.{◌≡◌, List, Result, Ok, Err, ℕ, ◌<◌, length}
use Rattle.rules.specs.declared.Refusal.{Refusal}
use Rattle.rules.specs.Answer.{number_of}
use Rattle.rules.specs.Limits.{place_radix}
use Rattle.rules.specs.Model.{Model}
use Rattle.rules.specs.Reason.{Explained, because, unexplained, explained}
use Rattle.laws.specs.Accepted.{Code}
use Rattle.laws.specs.Sound.{Between}
use Rattle.session.specs.declared.Session.{Session}
use Rattle.session.specs.Storage.{Storage, with_lists}
use Rattle.session.specs.Rep.{Rep}
use Rattle.admitting.specs.Promise.{Asks}
use Rattle.explaining.specs.declared.Reason.{Reason as Why}

-- the answer: the greatest input and the lowest untracked place, or the number of a refusal
pub data Reason : Type 0 where
  Waits : (input place : ℕ) → Reason
  Refused : (number : ℕ) → Reason

abbrev pub told : Result Why Refusal → Reason
told (Ok x) = Waits x.input x.place
told (Err e) = Refused (number_of e)

-- document 02's answer, for each case
abbrev pub explained_as : Reason → Explained
explained_as (Waits input place) = because (record { input = input; place = place })
explained_as (Refused number) = unexplained number

-- a session, with the waiting storage and the pool as the calls before left them
pub record MayExplain (s : Session) (w pool : List ℕ) : Type 0 where
  pub around : Storage
  pub asks : Asks s (with_lists around w pool)

-- places are below 2^24, and a refusal's number is small
abbrev pub Small : Reason → Type 0
Small (Waits input place) = (input < place_radix) × (place < place_radix)
Small (Refused number) = Code number

-- the answer for registration r
pub record Explains (s : Session) (w pool : List ℕ) (r : ℕ) (x : Reason) : Type 0 where
  pub is : (P N : ℕ) (k : Model) (σ : Storage) → Rep P N k s (with_lists σ w pool) → Between P N (length pool) k → explained_as x ≡ explained N r k
  pub small : Small x
