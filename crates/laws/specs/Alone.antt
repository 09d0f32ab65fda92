-- The guide alone: what holds of it after every list of requests. The window's invariant is the session's; the accepted pushes are
-- what is written and held; parallelisms are from 1 to P; span numbers fit 32 bits by refusal 14.
use Rattle.std.specs.Prelude.{◌≡◌, refl, true, false, ◌⊎◌, ℕ, ◌+◌, ◌^◌, ◌≤◌, ◌<◌, length, eqb, leb}
use mathlib.Core.List.{List, [], ◌∷◌, ◌++◌}
use Rattle.std.proofs.Common.{inl, inr}
use Rattle.std.proofs.Math.Option.{Option}
use native.Mathlib.Omega.{arith}
use Rattle.std.proofs.Math.ListN.{take}
use borrow.Author.Tests.{eqb-true, leb-false}
use Rattle.rules.specs.Limits.{last_span_limit}
use Rattle.rules.specs.Guide.{Loc, Item, Guide, fresh, flush as flush_guide, release, released, place, held}
use Rattle.rules.specs.Calls.{unless_refused}
use Rattle.rules.specs.Alone.{Alone, alone, Request, push, flush, check_push, check_flush_alone, worn, requests, reply, serve, serve_step, serve_all}
use Rattle.laws.specs.GuideInv.{Core, Later, flush_core, release_later, len_empties}
use Rattle.laws.specs.Place.{place_step}
use Rattle.laws.specs.ModelBase.{bool_cases}
use Rattle.laws.specs.Balance.{step_sum, flush_sum}
use Rattle.laws.specs.Once.{wsum_one, hsum_one}
use Rattle.laws.specs.Accepted.{verdict_head, or_false}
use Rattle.laws.specs.Order.{order_nth, bounds}

-- what holds of the guide alone after any requests
pub record AloneSound (P N : ℕ) (a : Alone) : Type 0 where
  pub past : List (List Item)
  pub core : Core P a.guide past
  pub later : Later P 1 a.guide
  -- every accepted push is written or held
  pub counted : length a.guide.order + held a.guide.spans ≡ a.pushes
  pub few : a.pushes ≤ N
  -- the last span number is in 32 bits
  pub low : a.guide.first + 31 < 2 ^ 32

flush_later : (P : ℕ) (g : Guide) → length g.spans ≡ 32 → Later P 1 g → Later P 1 (flush_guide P g)
unfolding flush_guide
flush_later P g h l = release_later P 1 32 g (omega arith) h (λ j k. l j (omega arith))

flush_first : (P : ℕ) (g : Guide) → (flush_guide P g).first ≡ g.first + 32
unfolding flush_guide release
flush_first P g = refl

module _ (P N : ℕ) (hP : 1 ≤ P) where
  -- an accepted push and an accepted flush keep it
  pub push_sound : (after : Option Loc) (e : Item) (a : Alone) → a.pushes < N → a.guide.first + 31 < last_span_limit → AloneSound P N a → AloneSound P N (serve P (push after e) a)
  unfolding serve
  push_sound after e a h w s =
      let t = place_step P a.guide s.past e hP s.core s.later after in
      let p = place P after e a.guide in
      record {
        past = t.past';
        core = t.core;
        later = t.later;
        counted = omega (
          arith,
          step_sum (λ x. 1) P a.guide s.past e p s.core t,
          wsum_one a.guide.order,
          hsum_one a.guide.spans,
          wsum_one p.guide.order,
          hsum_one p.guide.spans,
          s.counted,
        );
        few = omega arith;
        low = omega (arith, t.advances);
      }

  pub flush_sound : (a : Alone) → a.guide.first + 31 < last_span_limit → AloneSound P N a → AloneSound P N (serve P flush a)
  unfolding serve
  flush_sound a w s =
      let c = flush_core P a.guide s.past hP s.core (s.later 31 (omega arith)) in
      record {
        past = s.past ++ take 32 a.guide.spans;
        core = c;
        later = flush_later P a.guide s.core.window_is s.later;
        counted = omega (
          arith,
          flush_sum (λ x. 1) P a.guide s.past s.core c,
          wsum_one a.guide.order,
          hsum_one a.guide.spans,
          wsum_one (flush_guide P a.guide).order,
          hsum_one (flush_guide P a.guide).spans,
          s.counted,
        );
        few = s.few;
        low = omega (arith, flush_first P a.guide);
      }

  -- what the checks passed
  push_passed : (after : Option Loc) (e : Item) (a : Alone) → reply N (push after e) a ≡ 0 → (a.pushes < N) × (a.guide.first + 31 < last_span_limit)
  unfolding reply requests check_push worn
  push_passed after e a h =
      let c = verdict_head _ _ h (omega arith) in
      let d = or_false (leb N a.pushes) (leb last_span_limit (a.guide.first + 31)) c.0 in
      (leb-false N a.pushes d.0, leb-false last_span_limit (a.guide.first + 31) d.1)

  flush_passed : (a : Alone) → reply N flush a ≡ 0 → a.guide.first + 31 < last_span_limit
  unfolding reply requests check_flush_alone worn
  flush_passed a h = let c = verdict_head _ _ h (omega arith) in leb-false last_span_limit (a.guide.first + 31) c.0

  serve_sound : (r : Request) (a : Alone) → reply N r a ≡ 0 → AloneSound P N a → AloneSound P N (serve P r a)
  serve_sound (push after e) a h s = let q = push_passed after e a h in push_sound after e a q.0 q.1 s
  serve_sound flush a h s = flush_sound a (flush_passed a h) s

  -- so does every request, refused or not
  pub serve_step_sound : (r : Request) (a : Alone) → AloneSound P N a → AloneSound P N (serve_step P N r a)
  unfolding serve_step unless_refused
  serve_step_sound r a s = go (bool_cases (eqb (reply N r a) 0))
    where
      go : (eqb (reply N r a) 0 ≡ true) ⊎ (eqb (reply N r a) 0 ≡ false) → AloneSound P N (serve_step P N r a)
      go (inl e) = rw (e, unless_refused) (serve_sound r a (eqb-true (reply N r a) 0 e) s)
      go (inr e) = rw (e, unless_refused) s

  pub alone_initial : AloneSound P N alone
  unfolding alone fresh released held
  alone_initial =
      record {
        past = [];
        core = record { past_is = refl; window_is = refl; order_is = refl; capped = λ s. rw (len_empties 32 s) (omega arith) };
        later = λ i h. rw (len_empties 32 i) (omega arith);
        counted = refl;
        few = omega arith;
        low = omega arith;
      }

  -- after every list of requests
  pub alone_sound : (rs : List Request) (a : Alone) → AloneSound P N a → AloneSound P N (serve_all P N rs a)
  unfolding serve_all
  alone_sound [] a s = s
  alone_sound (r ∷ rs) a s = alone_sound rs (serve_step P N r a) (serve_step_sound r a s)

  -- each parallelism of the order is from 1 to P
  pub alone_parallelisms : (a : Alone) → AloneSound P N a → (j : ℕ) → j < length a.guide.order → (1 ≤ (order_nth a.guide j).parallelism) × ((order_nth a.guide j).parallelism ≤ P)
  alone_parallelisms a s j h = bounds P hP a.guide s.past s.core j h
