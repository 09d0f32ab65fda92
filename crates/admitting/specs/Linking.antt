-- A new registration whose lists are stored is put on the stack, to be placed at once, or waits under its greatest input: from there the
-- cascade leads to the model's add. Assumes nothing.
use Rattle.std.specs.Prelude.{◌≡◌, Bool, true, false, ◌⊎◌, ℕ, suc, ◌≤◌, ◌<◌, ltb, length}
use Rattle.std.proofs.Math.Path.{refl}
use Rattle.std.proofs.Common.{sym, ap, ◌∙◌, inl, inr, arith}
use mathlib.Core.List.Memᴰ
use mathlib.Core.List.{List, [], ◌∷◌}
use Rattle.std.proofs.lemmas.Bool.{false≢true}
use Rattle.std.proofs.Math.ListN.{length-append}
use Rattle.rules.specs.Record.{row_of}
use Rattle.rules.specs.Model.{Model, Pending, watermark as watermark_of, tracked, greatest, ready, queue, keep, with_add, do_add}
use Rattle.rules.specs.Checks.{taken, waiting_needed}
use Rattle.rules.specs.Calls.{add as add_call, answer}
use Rattle.laws.specs.Accepted.{AddPassed, add_passed}
use Rattle.laws.specs.Limits.{AllBelow}
use Rattle.laws.specs.ModelBase.{bool_cases}
use Rattle.laws.specs.Delaying.{not_ready}
use Rattle.laws.specs.Sound.{Sound, sound_adding, sound_delaying}
use Rattle.lists.specs.Arguments.{ready_none, ready_low, ready_high}
use Rattle.waiting.specs.Apart.{lists_aside, flags_aside}
use Rattle.registrar.specs.Delayed.{Aside, Joins, Stacks, occurs}
use Rattle.registrar.specs.Queue.{pends_none}
use Rattle.buffer.specs.declared.Guide.{Guide}
use Rattle.session.specs.declared.Session.{Session}
use Rattle.session.specs.Storage.{Storage, with_waiting}
use Rattle.session.specs.Cascade.{settle_done}
use Rattle.session.specs.Settle.{Along}
use Rattle.session.specs.Rep.{Core, RepSt, Rep}
use Rattle.admitting.specs.Adding.{Unplaced}

-- registration r with inputs ins is alone on the stack, whose top link is t, or waits under its greatest input with the stack empty
pub record Links (w : List ℕ) (v watermark : ℕ) (ins : List ℕ) (r t : ℕ) (w' : List ℕ) : Type 0 where
  pub stacks : ready watermark ins ≡ true → Stacks w v r 0 t w'
  pub joins : ready watermark ins ≡ false → (t ≡ 0) × Joins w v (greatest ins) r w'

-- the same of whatever list has so many places and m as the greatest
abbrev pub LinksNew : List ℕ → ℕ → ℕ → ℕ → ℕ → ℕ → ℕ → List ℕ → Type 0
LinksNew w v watermark inputs m r t w' = (ins : List ℕ) → inputs ≡ length ins → m ≡ greatest ins → Links w v watermark ins r t w'

module _ (w : List ℕ) (v watermark : ℕ) (ins : List ℕ) (r : ℕ) (w' : List ℕ) where
  -- heads and links alone have changed
  pub links_rest : (t : ℕ) → Links w v watermark ins r t w' → Aside w v w'
  links_rest t L = go (bool_cases (ready watermark ins))
    where
      go : (ready watermark ins ≡ true) ⊎ (ready watermark ins ≡ false) → Aside w v w'
      go (inl h) = (L.stacks h).kept.aside
      go (inr h) = (L.joins h).1.aside

-- no inputs, the greatest below the watermark, or not
module _ (w : List ℕ) (v watermark inputs m r : ℕ) (w' : List ℕ) where
  pub links_none : (t : ℕ) → inputs ≡ 0 → Stacks w v r 0 t w' → LinksNew w v watermark inputs m r t w'
  links_none t h Z ins e g = record { stacks = λ x. Z; joins = λ x. absurd (false≢true (sym x ∙ ready_none watermark ins (omega arith))) }

  pub links_low : (t : ℕ) → m < watermark → Stacks w v r 0 t w' → LinksNew w v watermark inputs m r t w'
  links_low t h Z ins e g = record { stacks = λ x. Z; joins = λ x. absurd (false≢true (sym x ∙ ready_low watermark ins (omega arith))) }

  pub links_high : (inputs ≡ 0 → ⊥) → watermark ≤ m → Joins w v m r w' → LinksNew w v watermark inputs m r 0 w'
  links_high n h J ins e g = record { stacks = λ x. absurd (false≢true (sym (ready_high watermark ins (λ z. n (e ∙ z)) (omega arith)) ∙ x)); joins = λ x. (refl, rw g at J) }

-- heads and links decide neither lists nor flags
core_waiting : (P N : ℕ) (j : Model) (g : Guide) (watermark : ℕ) (σ : Storage) (w : List ℕ) → length w ≡ length σ.waiting →
    Aside σ.waiting N w → Core P N j g watermark σ → Core P N j g watermark (with_waiting σ w)
core_waiting P N j g watermark σ w lw dw c =
    record {
      guided = record { p_is = c.guided.p_is; v_is = c.guided.v_is; places = c.guided.places; stands = c.guided.stands; view_is = c.guided.view_is };
      rowed = record { long = c.rowed.long; rows = c.rowed.rows };
      tracked = record { places = c.tracked.places; watermark_is = c.tracked.watermark_is };
      stored = record {
        lists = lists_aside dw lw c.stored.lists;
        flags = flags_aside dw lw c.stored.flags;
      };
    }

greatest_below : (N : ℕ) (xs : List ℕ) → 1 ≤ N → AllBelow N xs → greatest xs < N
unfolding greatest
greatest_below N [] h b = h
greatest_below N (x ∷ xs) h b = omega (arith, b x (Memᴰ.head refl), greatest_below N xs h (λ i y. b i (Memᴰ.tail y)))

queue_length : (x : Pending) (ps : List Pending) → length (queue x ps) ≡ suc (length ps)
unfolding queue
queue_length x [] = refl
queue_length x (y ∷ ps) = go (bool_cases (ltb x.under y.under)) (queue_length x ps)
  where
    go : (ltb x.under y.under ≡ true) ⊎ (ltb x.under y.under ≡ false) → length (queue x ps) ≡ suc (length ps) → length (queue x (y ∷ ps)) ≡ suc (length (y ∷ ps))
    go (inl e) r = rw (e, queue)
    go (inr e) r = rw (e, queue) (ap suc r)

-- a new registration with its lists stored
module _ (P N W : ℕ) (k : Model) (lane : ℕ) (ins outs : List ℕ) (s : Session) (σ : Storage)
    (U : Unplaced P N (with_add (record { lane = lane; ins = ins; outs = outs }) k) s σ) (S : Sound P N W k [])
    (e : answer N W (add_call lane ins outs) k ≡ 0) where
  abbrev new : Model
  new = with_add (record { lane = lane; ins = ins; outs = outs }) k

  abbrev reg : ℕ
  reg = length k.adds

  gone : AddPassed N W lane ins outs k
  gone = add_passed N W lane ins outs k e

  positive : 1 ≤ P
  positive = omega (arith, U.core.guided.stands.laid.one, U.core.guided.p_is)

  watermark_is : s.watermark ≡ watermark_of N k
  unfolding with_add watermark_of tracked
  watermark_is = U.core.tracked.watermark_is

  -- what linking it asks
  pub may_link : (greatest ins < N) × (reg < N) × (waiting_needed N ≤ length σ.waiting)
  may_link = (greatest_below N ins U.core.guided.places gone.ins_inside, gone.more, U.delayed.long)

  module _ (w : List ℕ) (lw : length w ≡ length σ.waiting) where
    -- it is put on the empty stack
    rep_stacked : (t : ℕ) → Stacks σ.waiting N reg 0 t w → RepSt P N new s (with_waiting σ w) t (reg ∷ [])
    unfolding with_add occurs
    rep_stacked t Z =
        record {
          core = core_waiting P N new s.guide s.watermark σ w lw Z.kept.aside U.core;
          counted = U.counted;
          delayed = Z.delayed s.watermark k.pending [] U.delayed (omega (arith, pends_none reg k.pending (λ y h. (S.inv.pending_ok y h).0)));
          delayed_is = omega (arith, U.delayed_is);
        }

    -- or it waits under its greatest input
    rep_waits : s.watermark ≤ greatest ins → Joins σ.waiting N (greatest ins) reg w → Rep P N (keep (queue (record { under = greatest ins; reg = reg }) k.pending) new) s (with_waiting σ w)
    unfolding with_add keep occurs watermark_of tracked taken row_of
    rep_waits h J =
        let c = core_waiting P N new s.guide s.watermark σ w lw J.aside U.core in
        let d = U.counted in
        record {
          core = record {
            guided = record { p_is = c.guided.p_is; v_is = c.guided.v_is; places = c.guided.places; stands = c.guided.stands; view_is = c.guided.view_is };
            rowed = record { long = c.rowed.long; rows = c.rowed.rows };
            tracked = record { places = c.tracked.places; watermark_is = c.tracked.watermark_is };
            stored = record { lists = c.stored.lists; flags = c.stored.flags };
          };
          counted = record { added_is = d.added_is; used_is = d.used_is; flushes_is = d.flushes_is; closed_is = d.closed_is; registrations_is = d.registrations_is; places_is = d.places_is };
          delayed = J.delayed s.watermark k.pending 0 [] U.delayed (record { above = λ y z. (S.inv.pending_ok y z).0; unstacked = refl }) h;
          delayed_is = omega (arith, U.delayed_is, queue_length (record { under = greatest ins; reg = reg }) k.pending);
        }

    ended : reg ≤ length new.adds
    unfolding with_add
    ended = omega (arith, length-append k.adds (record { lane = lane; ins = ins; outs = outs } ∷ []))

    -- either way the cascade leads to the model's add
    pub along_add : (t : ℕ) → Links σ.waiting N s.watermark ins reg t w → Along P N W reg (do_add P N (record { lane = lane; ins = ins; outs = outs }) k) s (with_waiting σ w) t
    unfolding do_add keep
    along_add t L = go (bool_cases (ready (watermark_of N k) ins))
      where
        here : (b : Bool) → ready (watermark_of N k) ins ≡ b → ready s.watermark ins ≡ b
        here b h = rw watermark_is h

        go : (ready (watermark_of N k) ins ≡ true) ⊎ (ready (watermark_of N k) ins ≡ false) → Along P N W reg (do_add P N (record { lane = lane; ins = ins; outs = outs }) k) s (with_waiting σ w) t
        go (inl h) =
            record {
              j = new;
              st = reg ∷ [];
              rep = rep_stacked t (L.stacks (here true h));
              sound = sound_adding P N W positive lane ins outs k e h S;
              ended = ended;
              ends = rw (h, do_add);
            }
        go (inr h) =
            let q = L.joins (here false h) in
            record {
              j = keep (queue (record { under = greatest ins; reg = reg }) k.pending) new;
              st = [];
              rep = rw q.0 (rep_waits (not_ready s.watermark ins (here false h)) q.1);
              sound = sound_delaying P N W positive lane ins outs k e h S;
              ended = ended;
              ends = rw (h, do_add) (settle_done P N reg (keep (queue (record { under = greatest ins; reg = reg }) k.pending) new));
            }
