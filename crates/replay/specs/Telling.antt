-- What an exported call tells of the answer of `replay`, and that this meets its promise: of a refusal its number, else the count of the
-- session. The storage is that of the slices that the caller lent. Assumes nothing.
use Rattle.std.specs.Prelude.{◌≡◌, refl, List, ℕ, ◌*◌, Result, Ok, Err}
use Rattle.std.proofs.Common.{sym, ap, ◌∙◌}
use Rattle.rules.specs.declared.Refusal.{Refusal}
use Rattle.rules.specs.Limits.{reply_radix}
use Rattle.rules.specs.Answer.{number, number_of, number_of_pos}
use Rattle.laws.specs.Accepted.{refused_is}
use Rattle.session.specs.declared.Session.{Session}
use Rattle.session.specs.declared.Storage.{Storage as Slices}
use Rattle.session.specs.Storage.{Storage, storage}
use Rattle.session.specs.Slices.{contents}
use Rattle.call_list.specs.Replay.{opened, Replays}
use Rattle.replay.specs.Exported.{by_number, Exported}

-- the count of an answer, 0 where it is a refusal
abbrev pub count_told : Result ℕ Refusal → ℕ
count_told (Ok n) = n
count_told (Err e) = 0

-- the count of a session, where there is one
abbrev pub counted : {S : Type 0} → (S → ℕ) → Result S Refusal → Result ℕ Refusal
counted count (Ok s) = Ok (count s)
counted count (Err e) = Err e

-- refused, no count matters
pub told_is : {S : Type 0} (count : S → ℕ) (given : Result S Refusal → S) → ((s : S) → given (Ok s) ≡ s) → (r : Result S Refusal)
    → by_number (number (counted count r)) (count_told (counted count r)) ≡ by_number (number r) (count (given r))
told_is count given h (Ok s) = ap (λ x. by_number 0 (count x)) (sym (h s))
told_is count given h (Err e) =
    let n = number_of e in
    refused_is n n (reply_radix * 0) (number_of_pos e) ∙ sym (refused_is n n (reply_radix * count (given (Err e))) (number_of_pos e))

module _ {count : Session → ℕ} {P N : ℕ} {l : List ℕ} {σ : Storage} {out out' : List ℕ} {sp o t rs m lo w pool : List ℕ} where
  pub exported : (ω : Slices) (r : Result Session Refusal) {x : ℕ} {told : Result ℕ Refusal} → Replays P N l (number r) (opened r) σ (contents ω) out out' →
      x ≡ by_number (number told) (count_told told) → told ≡ counted count r → sp ≡ ω.spans.now → o ≡ ω.order.now →
      t ≡ ω.tally.now → rs ≡ ω.rows.now → m ≡ ω.marks.now → lo ≡ ω.locations.now → w ≡ ω.waiting.now → pool ≡ ω.pool.now
      → Exported count P N l x σ (storage sp o t rs m lo w pool) out out'
  exported ω r R x e e₀ e₁ e₂ e₃ e₄ e₅ e₆ e₇ =
      rw (e₀, e₁, e₂, e₃, e₄, e₅, e₆, e₇) (record { number = number r; session = opened r; replays = R; is = rw e at x ∙ told_is count opened (λ s. refl) r })
