-- What holds of every reachable model with a stack of registrations still to be placed, as one record, and that each part of each
-- call keeps it. Between calls the stack is empty and the record has a row for each accepted registration (`Between`).
use Rattle.std.specs.Prelude.{◌≡◌, List, [], ◌∷◌, true, false, ℕ, ◌≤◌, length}
use Rattle.std.proofs.lemmas.Bool.{false≢true}
use Rattle.std.proofs.Common.{inl, arith}
use Rattle.rules.specs.Guide.{fresh}
use Rattle.rules.specs.Model.{Model, watermark, ready, greatest, place_one, keep, queue, push, off, rest, with_set, with_add, initial}
use Rattle.rules.specs.Calls.{Call, set, add, answer, step, run}
use Rattle.laws.specs.ModelInv.{Inv, place_one_inv, record_inv}
use Rattle.laws.specs.CascadeInv.{off_inv, push_from}
use Rattle.laws.specs.CallInv.{with_set_inv, queued_inv, flush_inv, initial_inv, add_stack}
use Rattle.laws.specs.Kept.{Kept, every, equivalent, step_kept, step_noted, initial_noted}
use Rattle.laws.specs.Balance.{Balance, balance_kept, balance_initial}
use Rattle.laws.specs.Apart.{Apart, apart_kept, apart_initial}
use Rattle.laws.specs.Delaying.{Delaying, delaying_kept, delaying_initial}
use Rattle.laws.specs.Closed.{Done, done_kept}
use Rattle.laws.specs.Ceiling.{Ceiling, ceiling_kept}
use Rattle.laws.specs.Entries.{Entries, entries_kept, entries_initial}
use Rattle.laws.specs.Limits.{Limits, limits_kept, limits_initial, Inside, inside_kept, inside_initial}

-- every invariant of a reachable model
pub record Sound (P N W : ℕ) (k : Model) (st : List ℕ) : Type 0 where
  -- window, order and history; what is placed reads what was set or lies before it; who is on the stack is ready
  pub inv : Inv P N k st
  -- each accepted registration is written, held, pending or on the stack, once
  pub balance : (φ : ℕ → ℕ) → Balance φ k st
  -- at most two released spans for each placing and 32 for each flush
  pub ceiling : Ceiling k st
  -- a place is set or written by one registration
  pub apart : Apart k st
  -- who waits, and in which order
  pub delaying : Delaying N k st
  -- nothing waits and nothing is held once closed
  pub done : Done k st
  -- the counts, and the places of sets and lists
  pub limits : Limits N W k st
  pub inside : Inside N k st
  -- the entries' value and accepted, and the record's numbers
  pub entries : Entries N k st

module _ (P N W : ℕ) (hP : 1 ≤ P) where
  -- every part of every call keeps the first of them
  pub inv_kept : Kept P N W (Inv P N)
  inv_kept =
      record {
        placing = λ c r st k l v i. off_inv P N (place_one P c r k) st (place_one_inv P N c r st k hP i) (push (off N (place_one P c r k)) st) (push_from (off N (place_one P c r k)) st);
        setting = λ x k v a i. off_inv P N (with_set x k) [] (with_set_inv P N hP k i x) (off N (with_set x k)) (λ r h. inl h);
        adding = λ lane ins outs k v a e i. add_stack P N hP k i _ e;
        delaying = λ lane ins outs k v a e i. queued_inv P N hP k i _;
        flushing = λ k v a i. flush_inv P N hP k i _ _;
        closing = λ k v a i. flush_inv P N hP k i _ _;
        recording = λ d k v n i. record_inv P N d k [] i;
      }

  -- the invariants that make up `Sound`, named
  data Part : Type 0 where
    the_inv the_ceiling the_apart the_delaying the_done the_limits the_inside the_entries : Part
    the_balance : (ℕ → ℕ) → Part

  Says : Part → Model → List ℕ → Type 0
  Says the_inv = Inv P N
  Says (the_balance φ) = Balance φ
  Says the_ceiling = Ceiling
  Says the_apart = Apart
  Says the_delaying = Delaying N
  Says the_done = Done
  Says the_limits = Limits N W
  Says the_inside = Inside N
  Says the_entries = Entries N

  part_kept : (p : Part) → Kept P N W (Says p)
  unfolding Says
  part_kept the_inv = inv_kept
  part_kept (the_balance φ) = balance_kept φ P N W hP
  part_kept the_ceiling = ceiling_kept P N W hP
  part_kept the_apart = apart_kept P N W hP
  part_kept the_delaying = delaying_kept P N W hP
  part_kept the_done = done_kept P N W hP
  part_kept the_limits = limits_kept P N W
  part_kept the_inside = inside_kept P N W
  part_kept the_entries = entries_kept P N W hP

  joined : (k : Model) (st : List ℕ) → ((p : Part) → Says p k st) → Sound P N W k st
  unfolding Says
  joined k st f =
      record {
        inv = f the_inv;
        balance = λ φ. f (the_balance φ);
        ceiling = f the_ceiling;
        apart = f the_apart;
        delaying = f the_delaying;
        done = f the_done;
        limits = f the_limits;
        inside = f the_inside;
        entries = f the_entries;
      }

  taken_apart : (k : Model) (st : List ℕ) → Sound P N W k st → (p : Part) → Says p k st
  unfolding Says
  taken_apart k st s the_inv = s.inv
  taken_apart k st s (the_balance φ) = s.balance φ
  taken_apart k st s the_ceiling = s.ceiling
  taken_apart k st s the_apart = s.apart
  taken_apart k st s the_delaying = s.delaying
  taken_apart k st s the_done = s.done
  taken_apart k st s the_limits = s.limits
  taken_apart k st s the_inside = s.inside
  taken_apart k st s the_entries = s.entries

  -- and all of them
  pub sound_kept : Kept P N W (Sound P N W)
  sound_kept = equivalent P N W joined taken_apart (every P N W Part Says part_kept)

  -- the same for a caller that has `Sound` alone
  pub sound_placing : (c r : ℕ) (st : List ℕ) (k : Model) → c ≤ length k.adds → Sound P N W k (r ∷ st) → Sound P N W (rest N (place_one P c r k)) (push (off N (place_one P c r k)) st)
  sound_placing c r st k l s = sound_kept.placing c r st k l s.inv s

  pub sound_setting : (x : ℕ) (k : Model) → answer N W (set x) k ≡ 0 → Sound P N W k [] → Sound P N W (rest N (with_set x k)) (off N (with_set x k))
  sound_setting x k a s = sound_kept.setting x k s.inv a s

  pub sound_adding : (lane : ℕ) (ins outs : List ℕ) (k : Model) → answer N W (add lane ins outs) k ≡ 0 → ready (watermark N k) ins ≡ true → Sound P N W k []
      → Sound P N W (with_add (record { lane = lane; ins = ins; outs = outs }) k) (length k.adds ∷ [])
  sound_adding lane ins outs k a e s = sound_kept.adding lane ins outs k s.inv a e s

  pub sound_delaying : (lane : ℕ) (ins outs : List ℕ) (k : Model) → answer N W (add lane ins outs) k ≡ 0 → ready (watermark N k) ins ≡ false → Sound P N W k []
      → Sound P N W (keep (queue (record { under = greatest ins; reg = length k.adds }) k.pending) (with_add (record { lane = lane; ins = ins; outs = outs }) k)) []
  sound_delaying lane ins outs k a e s = sound_kept.delaying lane ins outs k s.inv a e s

-- a model between calls
pub record Between (P N W : ℕ) (k : Model) : Type 0 where
  pub sound : Sound P N W k []
  pub noted : length k.recorded.written ≡ length k.adds

-- a fresh session
pub between_initial : (P N W : ℕ) → 1 ≤ P → Between P N W initial
unfolding initial fresh
between_initial P N W hP =
    record {
      sound = record {
        inv = initial_inv P N;
        balance = λ φ. balance_initial φ;
        ceiling = omega arith;
        apart = apart_initial;
        delaying = delaying_initial P N W hP;
        done = λ e. absurd (false≢true e);
        limits = limits_initial N W;
        inside = inside_initial N;
        entries = entries_initial N;
      };
      noted = initial_noted;
    }

-- a call, refused or not
pub between_step : (P N W : ℕ) → 1 ≤ P → (c : Call) (k : Model) → Between P N W k → Between P N W (step P N W c k)
between_step P N W hP c k b =
    record { sound = step_kept P N W hP (Sound P N W) (sound_kept P N W hP) c k b.sound.inv b.noted b.sound; noted = step_noted P N k b.noted W c }

-- a list of calls
pub between_run : (P N W : ℕ) → 1 ≤ P → (cs : List Call) (k : Model) → Between P N W k → Between P N W (run P N W cs k)
unfolding run
between_run P N W hP [] k b = b
between_run P N W hP (c ∷ cs) k b = between_run P N W hP cs (step P N W c k) (between_step P N W hP c k b)

-- every reachable model
pub between : (P N W : ℕ) → 1 ≤ P → (cs : List Call) → Between P N W (run P N W cs initial)
between P N W hP cs = between_run P N W hP cs initial (between_initial P N W hP)

pub sound : (P N W : ℕ) → 1 ≤ P → (cs : List Call) → Sound P N W (run P N W cs initial) []
sound P N W hP cs = (between P N W hP cs).sound
