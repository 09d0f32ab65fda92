-- What the state and the storage of the guide alone stand for: `model`, the guide alone of `rules`; and `Held`, that they are as the calls
-- before left them. `open` gives it, and push and flush keep it. Assumes nothing.
use Rattle.std.specs.Prelude.{◌≡◌, List, ℕ, ◌+◌}
use Rattle.std.proofs.Math.Path.{sym, ap}
use Rattle.std.proofs.Common.{◌∙◌}
use Rattle.std.proofs.Math.Option.{Option, some, none}
use Rattle.std.proofs.Math.ListN.{length, take}
use Rattle.rules.specs.Guide.{Loc, tally}
use Rattle.rules.specs.Alone.{Alone as AloneModel}
use Rattle.laws.specs.Alone.{AloneSound}
use Rattle.buffer.specs.View.{order_of, view}
use Rattle.placing.specs.Stands.{Stands}
use Rattle.placing.specs.Done.{order_view}
use Rattle.placing.specs.Slices.{Slice}
use Rattle.alone.specs.declared.Alone.{Alone}
use Rattle.alone.specs.Reply.{Reply}
use Rattle.alone.specs.Reply.{At, Released, Rejected}

unfoldable pub model : Alone → List ℕ → List ℕ → AloneModel
model x s o = record { guide = view x.guide s o; pushes = x.pushes }

-- the storage stands, and its model has what every guide alone has after its requests
pub record Held (x : Alone) (s o t : List ℕ) : Type 0 where
  pub stands : Stands x.guide s o t
  pub sound : AloneSound x.guide.p x.guide.v (model x s o)

-- the same of the slices that a function is given
abbrev pub HeldOver : Alone → Slice → Slice → Slice → Type 0
HeldOver x spans order tally = Held x spans.now order.now tally.now

-- document 01's number for each case of a reply: 0 where the request was accepted
unfoldable pub number : Reply → ℕ
number (At span pos) = 0
number Released = 0
number (Rejected n) = n

-- and its values: the location that a push was given
unfoldable pub given : Reply → Option Loc
given (At span pos) = some (record { span = span; pos = pos })
given Released = none
given (Rejected n) = none

-- what the storage says of the model that it stands for
module _ {a : AloneModel} (x : Alone) (s o : List ℕ) (is : model x s o ≡ a) where
  pub written_is : x.guide.written ≡ length a.guide.order
  unfolding model
  written_is = sym (order_view x.guide s o) ∙ ap (λ b. length b.guide.order) is

  pub order_is : order_of o (length a.guide.order) ≡ a.guide.order
  unfolding model view
  order_is = ap (λ n. order_of o n) (sym written_is) ∙ ap (λ b. b.guide.order) is

  pub tally_is : {P : ℕ} {t : List ℕ} → Held x s o t → x.guide.p ≡ P → take (P + 1) t ≡ tally P a.guide.order
  unfolding model view
  tally_is {P} {t} h e = ap (λ p. take (p + 1) t) (sym e) ∙ h.stands.tally_is ∙ ap (λ p. tally p (order_of o x.guide.written)) e ∙ ap (λ b. tally P b.guide.order) is
