-- The numbers that the checks give, from session and storage, are the rules' answers under the ascending profile; and what the checks of add
-- ask. u is V as an index, and so is added the count of registrations. Assumes nothing.
use Rattle.std.specs.Prelude.{◌≡◌, Bool, ℕ, length}
use Rattle.std.proofs.Common.{sym, ◌∙◌, arith}
use Rattle.std.proofs.Math.Path.{ap}
use mathlib.Core.List.{List}
use Rattle.rules.specs.Model.{Model, Pending}
use Rattle.rules.specs.Checks.{verdict, taken, pooled}
use Rattle.rules.specs.Calls.{set, add, flush, final}
use Rattle.rules.specs.Calls as ordinary
use Rattle.rules.specs.Ascending.{lowest, checks, answer}
use Rattle.laws.specs.ModelBase.{watermark_le}
use Rattle.ascending.specs.Claims.{Reached}
use Rattle.ascending.specs.Lowest.{free_from}
use Rattle.ascending_marks.specs.Raising.{even_marks}
use Rattle.checking.specs.Parts.{flush_checks, final_checks}
use Rattle.checking.specs.Laws.{answer_flush, answer_final}
use Rattle.ascending_checks.specs.Parts.{set_checks, add_checks, Under, ChecksSet, MayAdd, ChecksAdd}
use Rattle.ascending_checks.specs.Laws.{set_is, add_is}
use Rattle.session.specs.Storage.{Storage}
use Rattle.ascending_session.specs.declared.Ascending.{Ascending}
use Rattle.ascending_session.specs.Rep.{Rep}
use Rattle.ascending_session.specs.Promise.{Asks, Numbers, small}

-- the places that are taken lie below the session's lowest one
free_beyond : {P N W : ℕ} {k : Model} {s : Ascending} {σ : Storage} → Rep P N W k s σ → Reached P N W k → Under s.lowest (taken k)
free_beyond {N = N} {k = k} R Q x h = free_from N k x Q.packed (omega (arith, R.base.tracked.watermark_is))

-- what the checks of add ask
pub may_check : {s : Ascending} {σ : Storage} → Asks s σ → MayAdd σ.marks s.guide.v s.lowest s.used s.room
may_check {s} {σ} a =
    let R = a.rep in
    let T = R.base.tracked in
    let v = R.base.guided.v_is in
    record {
      long = omega (arith, v, T.places.marks_long);
      even = λ x h. even_marks a.places a.model.sets a.model.located σ.marks σ.locations T.places x (omega (arith, v));
      low = omega (arith, v, T.watermark_is, watermark_le a.places a.model);
      small = omega (arith, v, small R);
      fits = omega (arith, R.counted.used_is, R.counted.room_is, a.reached.between.sound.limits.pool);
    }

module _ {s : Ascending} {σ : Storage} where
  pub set_number : {x n u : ℕ} → u ≡ s.guide.v → ChecksSet s.closed u s.lowest x n → Numbers (set x) n s σ
  set_number {x} {n} {u} eu c P N W k R Q =
      c.is (taken k) (free_beyond R Q)
      ∙ ap (λ (b : Bool). verdict (set_checks b u s.lowest x (taken k))) R.counted.closed_is
      ∙ ap (λ (v : ℕ). verdict (set_checks k.closed v s.lowest x (taken k))) (eu ∙ R.base.guided.v_is)
      ∙ ap (λ (m : ℕ). verdict (set_checks k.closed N m x (taken k))) R.base.tracked.watermark_is
      ∙ set_is N W x k

  pub add_number : {lane : ℕ} {ins outs : List ℕ} {n u added : ℕ} {marks : List ℕ} → u ≡ s.guide.v → added ≡ s.added
      → ChecksAdd σ.marks lane ins outs s.closed u s.lowest added s.used s.room n marks → Numbers (add lane ins outs) n s σ
  add_number {lane} {ins} {outs} {n} {u} {added} eu ea c P N W k R Q =
      let C = R.counted in
      c.is (taken k) (free_beyond R Q)
      ∙ ap (λ (b : Bool). verdict (add_checks b u s.lowest lane ins outs (taken k) added s.used s.room)) C.closed_is
      ∙ ap (λ (v : ℕ). verdict (add_checks k.closed v s.lowest lane ins outs (taken k) added s.used s.room)) (eu ∙ R.base.guided.v_is)
      ∙ ap (λ (m : ℕ). verdict (add_checks k.closed N m lane ins outs (taken k) added s.used s.room)) R.base.tracked.watermark_is
      ∙ ap (λ (i : ℕ). verdict (add_checks k.closed N (lowest N k) lane ins outs (taken k) i s.used s.room)) (ea ∙ C.added_is)
      ∙ ap (λ (i : ℕ). verdict (add_checks k.closed N (lowest N k) lane ins outs (taken k) (length k.adds) i s.room)) C.used_is
      ∙ ap (λ (w : ℕ). verdict (add_checks k.closed N (lowest N k) lane ins outs (taken k) (length k.adds) (pooled k.adds) w)) C.room_is
      ∙ add_is N W lane ins outs k

  pub flush_number : {n : ℕ} → n ≡ verdict (flush_checks s.closed s.flushes) → Numbers flush n s σ
  unfolding answer checks ordinary.answer ordinary.checks
  flush_number e P N W k R Q =
      e ∙ ap (λ (b : Bool). verdict (flush_checks b s.flushes)) R.counted.closed_is
      ∙ ap (λ (i : ℕ). verdict (flush_checks k.closed i)) R.counted.flushes_is ∙ answer_flush N W k

  -- nothing waits
  pub final_number : {n : ℕ} → n ≡ verdict (final_checks s.closed 0) → Numbers final n s σ
  unfolding answer checks ordinary.answer ordinary.checks
  final_number e P N W k R Q =
      e ∙ ap (λ (b : Bool). verdict (final_checks b 0)) R.counted.closed_is
      ∙ ap (λ (l : List Pending). verdict (final_checks k.closed (length l))) (sym Q.none_waits) ∙ answer_final N W k
