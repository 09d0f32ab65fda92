-- Under the profile accepted equals added in every entry, written or held: an add is placed within its own call, and nothing else is placed.
-- Assumes nothing.
use Rattle.std.specs.Prelude.{◌≡◌, refl, List, [], ℕ}
use Rattle.rules.specs.Guide.{flush as flush_guide}
use Rattle.rules.specs.Model.{Model, initial, place_one, with_set, with_add, with_flush, with_record, note_add, note_flush, note_final, do_flush, do_final}
use Rattle.rules.specs.Calls.{Call, set, add, flush, final, apply_call}
use Rattle.rules.specs.Ascending.{answer, step, run}
use Rattle.laws.specs.Entries.{Throughout, place_each, release_each, fresh_each}
use Rattle.ascending.specs.Claims.{AtOnce}
use Rattle.ascending.specs.Same.{step_keeps, run_keeps, set_alone, placed_alone, none_after}

once_after : (P N W : ℕ) (c : Call) (k : Model) → k.pending ≡ [] → Throughout AtOnce k.guide → answer N W c k ≡ 0 → Throughout AtOnce (apply_call P N c k).guide
unfolding apply_call note_add do_flush note_flush do_final note_final with_record with_flush flush_guide place_one with_add with_set
once_after P N W (set x) k e t h = rw (set_alone P N x k e) t
once_after P N W (add lane ins outs) k e t h = rw (placed_alone P N W lane ins outs k e h) (place_each AtOnce P _ _ k.guide refl t)
once_after P N W flush k e t h = release_each AtOnce P 32 k.guide t
once_after P N W final k e t h = release_each AtOnce P 32 k.guide t

pub at_once : (P N W : ℕ) (cs : List Call) → Throughout AtOnce (run P N W cs initial).guide
unfolding initial
at_once P N W cs = (run_keeps P N W Q kept cs initial (refl, fresh_each AtOnce)).1
  where
    Q : Model → Type 0
    Q k = (k.pending ≡ []) × Throughout AtOnce k.guide

    kept : (c : Call) (k : Model) → Q k → Q (step P N W c k)
    kept c k q = step_keeps P N W c k Q (λ h. (none_after P N W c k q.0 h, once_after P N W c k q.0 q.1 h)) q
