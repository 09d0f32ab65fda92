-- What running a list of requests, given as numbers, on a fresh guide promises. Definitions only. Assumes nothing.
use Rattle.std.specs.Prelude.{◌≡◌, List, [], ◌∷◌, ◌++◌, ◌≢◌, ℕ, ◌+◌, ◌*◌, length, take, drop, ltb}
use Rattle.std.proofs.Math.Option.{Option, some, none}
use Rattle.rules.specs.Guide.{Entry, tally}
use Rattle.rules.specs.Refusals as refusal
use Rattle.rules.specs.Checks.{verdict}
use Rattle.rules.specs.Alone.{alone, Request, check_alone, serve_all}
use Rattle.entries.specs.Entries.{capacity}
use Rattle.buffer.specs.View.{order_of}
use Rattle.placing.specs.GuideFrame.{GuideFrame}
use Rattle.placing.specs.Slices.{Borrowed}
use Rattle.alone.specs.declared.Alone.{Alone}
use Rattle.alone.specs.Held.{model, Held}
use Rattle.alone_list.specs.Requests.{answer_size, decode, answers_to}

-- the number: 15 for numbers that are no list of requests; then what opening refuses, spans and order in entries; then 2 where there is no
-- room for the answers
unfoldable pub replay_number : ℕ → ℕ → ℕ → ℕ → ℕ → ℕ → Option (List Request) → ℕ
replay_number P N spans order tally room none = refusal.malformed
replay_number P N spans order tally room (some rs) =
    verdict (check_alone P N spans order tally ++ (record { fails = ltb room (answer_size * length rs); number = refusal.too_short } ∷ []))

-- the order after the requests
abbrev pub order_after : ℕ → ℕ → List Request → List Entry
order_after P N rs = (serve_all P N rs alone).guide.order

-- after the requests rs: state and storage are those of the guide of `rules`, order and tally stand in their slices, and each answer is
-- the definition's; spans past 32 · (P + 1) entries, the order's entries not yet appended, the tally past P + 1 counts and w past
-- the answers are as they were
pub record Ran (P N : ℕ) (rs : List Request) (s o t w s' o' t' w' : List ℕ) : Type 0 where
  pub guide : Alone
  pub held : Held guide s' o' t'
  pub p_is : guide.guide.p ≡ P
  pub v_is : guide.guide.v ≡ N
  pub is : model guide s' o' ≡ serve_all P N rs alone
  pub order_is : order_of o' (length (order_after P N rs)) ≡ order_after P N rs
  pub tally_is : take (P + 1) t' ≡ tally P (order_after P N rs)
  pub answers_are : take (answer_size * length rs) w' ≡ answers_to P N rs alone
  pub long : length w' ≡ length w
  pub beyond : drop (answer_size * length rs) w' ≡ drop (answer_size * length rs) w
  pub frame : GuideFrame P 0 (length (order_after P N rs)) s o t s' o' t'

-- the promise: q are the requests as numbers, n is the number; s, o, t and w are spans, order, tally and answers
pub record Replays (P N : ℕ) (q : List ℕ) (n : ℕ) (s o t w s' o' t' w' : List ℕ) : Type 0 where
  pub number_is : n ≡ replay_number P N (capacity s) (capacity o) (length t) (length w) (decode q)
  pub refused : n ≢ 0 → (s' ≡ s) × (o' ≡ o) × (t' ≡ t) × (w' ≡ w)
  pub ran : n ≡ 0 → (rs : List Request) × (decode q ≡ some rs) × Ran P N rs s o t w s' o' t' w'

-- the same of a function's slices
abbrev pub ReplaysOver : ℕ → ℕ → List ℕ → ℕ → Borrowed → Borrowed → Borrowed → Borrowed → Type 0
ReplaysOver P N requests n spans order tally answers =
    Replays P N requests n spans.entry.now order.entry.now tally.entry.now answers.entry.now
    spans.exit.now order.exit.now tally.exit.now answers.exit.now
