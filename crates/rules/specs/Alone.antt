-- Document 01, the guide alone: opened with P and V and lent spans, order and tally; push with value, added and accepted from its
-- caller; flush. Its refusals are 1, 2, 13 and 14. Assumes nothing.
use Rattle.std.specs.Prelude.{List, [], ◌∷◌, ◌++◌, Bool, false, not, ◌&&◌, ◌||◌, ℕ, suc, ◌+◌, ◌-◌, length, get_or, leb, ltb, eqb}
use Rattle.std.proofs.Math.Option.{Option, some, none}
use Rattle.rules.specs.Limits.{last_span_limit}
use Rattle.rules.specs.Refusals as refusal
use Rattle.rules.specs.Guide.{Loc, Item, Guide, fresh, flush as flush_guide, place}
use Rattle.rules.specs.Checks.{Check, verdict, any, short, spans_needed, tally_needed, check_range}
use Rattle.rules.specs.Calls.{unless_refused}

-- what is pushed: value, added and accepted are the caller's. "The guide alone writes lane 0" (document 02, M-104)
abbrev pub pushed : ℕ → ℕ → ℕ → Item
pushed value added accepted = record { value = value; added = added; accepted = accepted; lane = 0 }

-- the guide, and how many pushes were accepted
pub record Alone : Type 0 where
  pub guide : Guide
  pub pushes : ℕ

unfoldable pub alone : Alone
alone = record { guide = fresh; pushes = 0 }

-- opening: 1, then 2 for spans and order in entries and the tally in counts
unfoldable pub check_alone : ℕ → ℕ → ℕ → ℕ → ℕ → List Check
check_alone P N spans order tally =
    check_range P N ++ (record { fails = any short ((spans, spans_needed P) ∷ (order, N) ∷ (tally, tally_needed P) ∷ []); number = refusal.too_short } ∷ [])

-- an entry with this location is held
unfoldable pub holds : Guide → Loc → Bool
holds g l = leb g.first l.span && (ltb (l.span - g.first) 32 && ltb l.pos (length (get_or g.spans (l.span - g.first) [])))

-- 13: `after` is not (0,0), its span number is at or past span 0's, and no such entry is held
unfoldable pub stray : Guide → Option Loc → Bool
stray g none = false
stray g (some l) = not (eqb l.span 0 && eqb l.pos 0) && (leb g.first l.span && not (holds g l))

-- 14's second half: the last span number is 4,294,967,264 or more
unfoldable pub worn : Guide → Bool
worn g = leb last_span_limit (g.first + 31)

-- push: 14, 13
unfoldable pub check_push : ℕ → Option Loc → Alone → List Check
check_push N after a =
    record { fails = leb N a.pushes || worn a.guide; number = refusal.guide_exhausted } ∷ (record { fails = stray a.guide after; number = refusal.not_held } ∷ [])

-- flush: 14's second half
unfoldable pub check_flush_alone : Alone → List Check
check_flush_alone a = record { fails = worn a.guide; number = refusal.guide_exhausted } ∷ []

pub data Request : Type 0 where
  push : Option Loc → Item → Request
  flush : Request

unfoldable pub requests : ℕ → Request → Alone → List Check
requests N (push after e) a = check_push N after a
requests N flush a = check_flush_alone a

-- a request's number, 0 if accepted
unfoldable pub reply : ℕ → Request → Alone → ℕ
reply N r a = verdict (requests N r a)

unfoldable pub serve : ℕ → Request → Alone → Alone
serve P (push after e) a = record { guide = (place P after e a.guide).guide; pushes = suc a.pushes }
serve P flush a = record { guide = flush_guide P a.guide; pushes = a.pushes }

-- the location that an accepted push returns
unfoldable pub location : ℕ → Option Loc → Item → Alone → Loc
location P after e a = (place P after e a.guide).loc

unfoldable pub serve_step : ℕ → ℕ → Request → Alone → Alone
serve_step P N r a = unless_refused (reply N r a) a (serve P r a)

unfoldable pub serve_all : ℕ → ℕ → List Request → Alone → Alone
serve_all P N [] a = a
serve_all P N (r ∷ rs) a = serve_all P N rs (serve_step P N r a)

unfoldable pub replies : ℕ → ℕ → List Request → Alone → List ℕ
replies P N [] a = []
replies P N (r ∷ rs) a = reply N r a ∷ replies P N rs (serve_step P N r a)
