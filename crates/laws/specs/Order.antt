-- An index of the order is a position of a released span: what stands there, and its parallelism, which is from 1 to P. Of any guide
-- that has the invariant.
use Rattle.std.specs.Prelude.{◌≡◌, List, ◌++◌, ℕ, suc, ◌+◌, ◌≤◌, ◌<◌, length, get_or}
use Rattle.std.proofs.Common.{ap, arith, length-append}
use Rattle.rules.specs.Guide.{Item, Entry, Guide}
use Rattle.rules.specs.Model.{Model}
use Rattle.laws.specs.Width.{width_flat, width_pos, width_le}
use Rattle.laws.specs.History.{len, start, locate, released_length, released_at}
use Rattle.laws.specs.Together.{wide}
use Rattle.laws.specs.GuideInv.{Core}
use Rattle.laws.specs.ModelBase.{entry_at, no_entry}

abbrev pub no_written : Entry
no_written = record { item = no_entry; parallelism = 0 }

-- entry j of a guide's order, and of a model's
abbrev pub order_nth : Guide → ℕ → Entry
order_nth g j = get_or g.order j no_written

abbrev pub nth : Model → ℕ → Entry
nth k j = order_nth k.guide j

-- written: the count of the order's entries
abbrev pub written : Model → ℕ
written k = length k.guide.order

module _ (P : ℕ) (hP : 1 ≤ P) (g : Guide) (past : List (List Item)) (c : Core P g past) where
  -- the spans from number 0 on, and the parallelism at a position of one
  abbrev pub H : List (List Item)
  H = past ++ g.spans

  unfoldable pub wd : ℕ → ℕ → ℕ
  wd = wide P H hP c.capped

  longer : length past < length H
  longer = simp length-append (omega (arith, c.window_is))

  order_long : length g.order ≡ start H (length past)
  order_long = rw c.order_is (released_length P (length past) H longer)

  -- entry j of the order stands at position q of span s
  pub record At (j : ℕ) : Type 0 where
    pub s : ℕ
    pub q : ℕ
    pub out : s < length past
    pub within : q < len H s
    pub index : j ≡ start H s + q
    pub entry_is : (order_nth g j).item ≡ entry_at H s q
    pub width_is : (order_nth g j).parallelism ≡ wd s q

  pub order_here : (s q : ℕ) → s < length past → q < len H s → order_nth g (start H s + q) ≡ record { item = entry_at H s q; parallelism = wd s q }
  unfolding wd wide entry_at
  order_here s q h i = rw c.order_is (released_at P (length past) H no_written no_entry s q longer h i)

  at_of : (j s q : ℕ) → s < length past → q < len H s → j ≡ start H s + q → At j
  at_of j s q h i e =
      let x = order_here s q h i in
      record { s = s; q = q; out = h; within = i; index = e; entry_is = rw e (ap (λ y. y.item) x); width_is = rw e (ap (λ y. y.parallelism) x) }

  -- every index of the order is such a position
  pub order_at : (j : ℕ) → j < length g.order → At j
  order_at j h = let l = locate H (length past) j (omega (arith, order_long)) in at_of j l.0 l.1 l.2 l.3 l.4

  -- each parallelism of the order is from 1 to P
  pub bounds : (j : ℕ) → j < length g.order → (1 ≤ (order_nth g j).parallelism) × ((order_nth g j).parallelism ≤ P)
  unfolding wd wide
  bounds j h =
      let a = order_at j h in
      rw (a.width_is, width_flat P (len H a.s) (len H (suc a.s)) a.q hP a.within (c.capped a.s))
      (width_pos P (len H a.s) (len H (suc a.s)) a.q hP a.within, width_le P (len H a.s) (len H (suc a.s)) a.q hP a.within)
