-- How many entries the window holds, at a poll: wherever the session stands for a model, the answer is that model's sum of the window's
-- lengths. Assumes nothing.
use Rattle.std.specs.Prelude.{◌≡◌, ℕ}
use Rattle.rules.specs.Guide.{held}
use Rattle.rules.specs.Model.{Model}
use Rattle.session.specs.declared.Session.{Session}
use Rattle.session.specs.Storage.{Storage}
use Rattle.session.specs.Rep.{Rep}
use Rattle.session.specs.Showing.{held_shown}

abbrev pub Polls : Session → ℕ → Type 0
Polls s n = (P N : ℕ) (k : Model) (σ : Storage) → Rep P N k s σ → n ≡ held k.guide.spans

pub polled : (s : Session) → Polls s s.guide.held
polled s P N k σ R = held_shown R.core.guided
