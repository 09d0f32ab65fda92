-- What placing a value promises: the storage stands for `place` of `rules`, and the location is the one that it hands out. One law for each
-- way out of the code. Assumes nothing.
use Rattle.std.specs.Prelude.{◌≡◌, List, [], Bool, length, get_or}
use Rattle.std.proofs.Math.Path.{sym, ap}
use Rattle.std.proofs.Common.{◌∙◌, arith}
use Rattle.std.proofs.Math.Option.{Option}
use Prim.Native.Nat.{ℕ, suc, ◌+◌, ◌≤◌, ◌<◌}
use Rattle.choice.specs.declared.MatchedSpan.{MatchedSpan}
use Rattle.choice.specs.declared.MatchedSpan.TheVariants.{Existing, New}
use Rattle.rules.specs.Limits.{last_span_limit}
use Rattle.rules.specs.Guide.{Loc, Item, Guide as GuideModel, Choice, existing, opened, choose, place, apply, put, release, settle}
use Rattle.laws.specs.Place.{Chosen, at_one, at_short, anew, chosen}
use Rattle.buffer.specs.declared.Guide.{Guide}
use Rattle.buffer.specs.View.{length_of, number_of, view}
use Rattle.buffer.specs.Rows.{most_at}
use Rattle.placing.specs.Stands.{Stands}
use Rattle.placing.specs.Done.{Done, view_length, len_view, number_view}
use Rattle.placing.specs.Slices.{Borrowed}
use Rattle.guide.specs.Chosen.{choice_of, chosen_is}
use Rattle.guide.specs.Ready.{after_of}
use Rattle.choice.specs.Chosen.{chosen_by}

-- g is the guide before and r after; e is placed after `after`, and lands at the location (span, pos)
pub record Pushes (g r : Guide) (after : Option Loc) (e : Item) (s o t s' o' t' : List ℕ) (span pos : ℕ) : Type 0 where
  pub done : Done g r s o t s' o' t' (place g.p after e (view g s o)).guide
  pub at_span : span ≡ (place g.p after e (view g s o)).loc.span
  pub at_pos : pos ≡ (place g.p after e (view g s o)).loc.pos
  pub span_fits : span < 4294967266
  pub pos_fits : pos < 65001

-- the same of a function's slices
abbrev pub Lands : Guide → Guide → Borrowed → Borrowed → Borrowed → Option Loc → Item → ℕ → ℕ → Type 0
Lands g r spans order tally after e span pos =
    Pushes g r after e spans.entry.now order.entry.now tally.entry.now spans.exit.now order.exit.now tally.exit.now span pos

existing_inj : (i j : ℕ) → existing i ≡ existing j → i ≡ j
existing_inj i j e = cc

opened_inj : (i j : ℕ) → opened i ≡ opened j → i ≡ j
opened_inj i j e = cc

never : (i j : ℕ) → existing i ≡ opened j → ⊥
never i j e = let z : ◌≡◌ {A = ℕ} 0 1 = cc in omega arith

-- the span that is chosen
existing_fits : (P : ℕ) (ss : List (List Item)) (x : Choice) (i : ℕ) → Chosen P ss x → x ≡ existing i → 2 ≤ length ss → (1 ≤ i) × (i < length ss)
existing_fits P ss _ i at_one e h = let z = existing_inj 1 i e in (omega arith, omega arith)
existing_fits P ss _ i (at_short j a b) e h = let z = existing_inj (suc j) i e in (omega arith, omega arith)
existing_fits P ss _ i (anew n a b) e h = absurd (never i n (sym e))

opened_fits : (P : ℕ) (ss : List (List Item)) (x : Choice) (n : ℕ) → Chosen P ss x → x ≡ opened n → (1 ≤ n) × (n ≤ 2)
opened_fits P ss _ n at_one e = absurd (never 1 n e)
opened_fits P ss _ n (at_short j a b) e = absurd (never (suc j) n e)
opened_fits P ss _ n (anew m a b) e = let z = opened_inj m n e in (omega arith, omega arith)

module _ (g : Guide) (s o t : List ℕ) (has : Bool) (span pos : ℕ) (k : Stands g s o t) (m : MatchedSpan)
    (em : m ≡ chosen_by (number_of g 0) g.window.lens g.p has span pos) where
  abbrev model : GuideModel
  model = view g s o

  choice_is : choose g.p model (after_of has span pos) ≡ choice_of m
  choice_is = sym (chosen_is g s o span pos k.laid has) ∙ ap choice_of (sym em)

  many : length model.spans ≡ 32
  many = view_length g s o k.laid

  pub taken_fits : (i : ℕ) → m ≡ Existing i → (1 ≤ i) × (i < 32)
  unfolding choice_of
  taken_fits i e =
      let f = existing_fits g.p model.spans (choose g.p model (after_of has span pos)) i (chosen g.p model (after_of has span pos)) (choice_is ∙ ap choice_of e) (omega (arith, many)) in
      (f.0, omega (arith, f.1, many))

  pub open_fits : (n : ℕ) → m ≡ New n → (1 ≤ n) × (n ≤ 2)
  unfolding choice_of
  open_fits n e = opened_fits g.p model.spans (choose g.p model (after_of has span pos)) n (chosen g.p model (after_of has span pos)) (choice_is ∙ ap choice_of e)

  number_at : (i : ℕ) → i < 32 → number_of g i ≡ model.first + i
  number_at i h = number_view g s o k.laid i h

  length_at : (i : ℕ) → length (get_or model.spans i []) ≡ length_of g i
  length_at i = len_view g s o k.laid i

  module _ (e : Item) (r : Guide) (s' o' t' : List ℕ) (low : model.first + 31 < last_span_limit) where
    place_is : (x : Choice) → choose g.p model (after_of has span pos) ≡ x → place g.p (after_of has span pos) e model ≡ apply g.p e model x
    unfolding place
    place_is x f = rw f

    pub taken_pushes : (i : ℕ) → m ≡ Existing i → (span' pos' : ℕ) → span' ≡ number_of g i → pos' ≡ length_of g i
        → Done g r s o t s' o' t' (settle g.p (length_of g i + 1) (put i e model))
        → Pushes g r (after_of has span pos) e s o t s' o' t' span' pos'
    unfolding apply choice_of
    taken_pushes i em' span' pos' es ep d =
        let pl = place_is (existing i) (choice_is ∙ ap choice_of em') in
        let n : length_of g i + 1 ≡ suc (length (get_or model.spans i [])) = omega (arith, length_at i) in
        record {
          done = rw pl (rw n at d);
          at_span = es ∙ number_at i (taken_fits i em').1 ∙ ap (λ x. x.loc.span) (sym pl);
          at_pos = ep ∙ sym (length_at i) ∙ ap (λ x. x.loc.pos) (sym pl);
          span_fits = omega (arith, es, low, number_at i (taken_fits i em').1, (taken_fits i em').1);
          pos_fits = omega (arith, ep, most_at (g.p + 1) g.window.lens i k.laid.short, k.laid.few);
        }

    pub open_pushes : (n : ℕ) → m ≡ New n → (span' pos' : ℕ) → span' ≡ number_of g 31 + n → pos' ≡ 0
        → Done g r s o t s' o' t' (put 31 e (release g.p n model))
        → Pushes g r (after_of has span pos) e s o t s' o' t' span' pos'
    unfolding apply choice_of
    open_pushes n em' span' pos' es ep d =
        let pl = place_is (opened n) (choice_is ∙ ap choice_of em') in
        record {
          done = rw pl d;
          at_span = es ∙ ap (λ x. x + n) (number_at 31 (omega arith)) ∙ ap (λ x. x.loc.span) (sym pl);
          at_pos = ep ∙ ap (λ x. x.loc.pos) (sym pl);
          span_fits = omega (arith, es, low, number_at 31 (omega arith), (open_fits n em').1);
          pos_fits = omega (arith, ep);
        }
