-- What a push or a flush of the guide alone promises, accepted or refused. Assumes nothing.
use Rattle.std.specs.Prelude.{◌≡◌, List, [], ◌∷◌, ◌≢◌, ℕ}
use Rattle.std.proofs.Math.Option.{Option, some, none}
use Rattle.rules.specs.Guide.{Loc}
use Rattle.rules.specs.Calls.{unless_refused}
use Rattle.rules.specs.Alone.{Alone as AloneModel, Request, push, flush, reply, serve_step, location}
use Rattle.placing.specs.GuideFrame.{GuideFrame}
use Rattle.placing.specs.Slices.{Borrowed}
use Rattle.alone.specs.declared.Alone.{Alone}
use Rattle.alone.specs.Reply.{Reply}
use Rattle.alone.specs.Held.{model, Held, number, given}

-- the location that a request is given: a push's, where it is accepted
unfoldable pub given_by : ℕ → ℕ → Request → AloneModel → Option Loc
given_by P N (push after e) a = unless_refused (reply N (push after e) a) none (some (location P after e a))
given_by P N flush a = none

-- the locations that the requests of a list are given
unfoldable pub locations_given : ℕ → ℕ → List Request → AloneModel → List (Option Loc)
locations_given P N [] a = []
locations_given P N (r ∷ rs) a = given_by P N r a ∷ locations_given P N rs (serve_step P N r a)

-- state and storage are as they were
pub record Same (x x' : Alone) (s o t s' o' t' : List ℕ) : Type 0 where
  pub state : x' ≡ x
  pub spans : s' ≡ s
  pub order : o' ≡ o
  pub tally : t' ≡ t

-- before: x, s, o, t; after: x', s', o', t', and the reply r
pub record Served (q : Request) (x x' : Alone) (s o t s' o' t' : List ℕ) (r : Reply) : Type 0 where
  pub held : Held x' s' o' t'
  pub is : model x' s' o' ≡ serve_step x.guide.p x.guide.v q (model x s o)
  pub number_is : number r ≡ reply x.guide.v q (model x s o)
  pub given_is : given r ≡ given_by x.guide.p x.guide.v q (model x s o)
  pub same_p : x'.guide.p ≡ x.guide.p
  pub same_v : x'.guide.v ≡ x.guide.v
  pub rejected : number r ≢ 0 → Same x x' s o t s' o' t'
  pub frame : GuideFrame x.guide.p x.guide.written x'.guide.written s o t s' o' t'

-- the same of a function's slices
abbrev pub ServedOver : Request → Alone → Alone → Borrowed → Borrowed → Borrowed → Reply → Type 0
ServedOver q x x' spans order tally r =
    Served q x x' spans.entry.now order.entry.now tally.entry.now spans.exit.now order.exit.now tally.exit.now r
