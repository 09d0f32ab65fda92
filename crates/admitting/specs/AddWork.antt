-- An accepted add: what its own part asks, that it is admitted once its lists are stored and it is on the stack or waits, and what it has
-- done once its row's written is noted. u is V and r the registration's number, as indices. Assumes nothing.
use Rattle.std.specs.Prelude.{◌≡◌, refl, Bool, ℕ, ◌+◌, ◌*◌, ◌^◌, ◌≤◌, ◌<◌}
use Rattle.std.proofs.Math.Path.{sym, ap}
use Rattle.std.proofs.Common.{◌∙◌, subst}
use mathlib.Core.List.{List, []}
use Rattle.std.proofs.Math.Bool.{true, false}
use native.Mathlib.Omega.{arith}
use Rattle.std.proofs.Math.ListN.{length}
use Rattle.rules.specs.Limits.{most_in_a_list}
use Rattle.rules.specs.Guide.{Guide as GuideModel}
use Rattle.rules.specs.Model.{Reg, Model, Recorded, greatest, with_add, do_add, note_add}
use Rattle.rules.specs.Checks.{pooled, waiting_needed}
use Rattle.rules.specs.Calls.{add as add_call, apply_call}
use Rattle.laws.specs.Accepted.{AddPassed, add_passed}
use Rattle.laws.specs.Ceiling.{ended}
use Rattle.laws.specs.ListStarts.{start_few}
use Rattle.laws.specs.Kept.{add_same}
use Rattle.placing.specs.Done.{order_view}
use Rattle.taken.specs.Flags.{claimed}
use Rattle.pool.specs.Lists.{start_limit}
use Rattle.entering.specs.Entering.{Storing, Stores, Entered, may_store_claimed, entered_claimed}
use Rattle.records.specs.Filling.{with_written}
use Rattle.session.specs.declared.Session.{Session}
use Rattle.session.specs.Storage.{Storage, with_rows, with_lists, Frame, frame_trans}
use Rattle.session.specs.PlaceNext.{waiting_frame}
use Rattle.session.specs.Settle.{Along}
use Rattle.session.specs.Rep.{Rep}
use Rattle.session.specs.Noting.{noted_one}
use Rattle.admitting.specs.Told.{Told}
use Rattle.admitting.specs.Promise.{Asks, MayDo, Does, may_do, framed}
use Rattle.admitting.specs.Numbers.{Number}
use Rattle.session.specs.Recording.{frame_noted}
use Rattle.admitting.specs.Noting.{rep_noted}
use Rattle.admitting.specs.Admitted.{Places, Admits}
use Rattle.admitting.specs.Begun.{Begun, goal_reached, goal_frame, admits}
use Rattle.admitting.specs.Adding.{Unplaced, with_added, may_enter, entered_rep, frame_entered}
use Rattle.admitting.specs.Linking.{Links, links_rest, may_link, along_add}

module _ (lane : ℕ) (ins outs : List ℕ) (s : Session) (σ : Storage) where
  abbrev reg : Reg
  reg = record { lane = lane; ins = ins; outs = outs }

  module _ (a : MayDo (add_call lane ins outs) s σ) where
    abbrev P : ℕ
    P = a.parallelism

    abbrev N : ℕ
    N = a.places

    abbrev k : Model
    k = a.model

    gone : AddPassed N (length σ.pool) lane ins outs k
    gone = add_passed N (length σ.pool) lane ins outs k a.accepted

    few : s.delayed < 4294967295
    unfolding ended
    few =
        omega (
          arith,
          a.rep.delayed_is,
          a.between.sound.ceiling,
          a.between.sound.limits.few,
          a.between.sound.limits.many,
          a.rep.core.guided.v_is,
          a.rep.core.guided.stands.small,
          ended_le k.closed,
        )
      where
        ended_le : (b : Bool) → ended b ≤ 1
        ended_le true = omega arith
        ended_le false = omega arith

    -- what the numbers of the session may become
    pub add_counts : (s.added + 1 < 2 ^ 32) × (s.delayed + 1 < 2 ^ 32) × (s.used + (length ins + length outs) ≤ length σ.pool) × (length ins + length outs ≤ 2 * most_in_a_list)
    add_counts = (
      omega (arith, gone.more, a.rep.counted.added_is, a.rep.core.guided.v_is, a.rep.core.guided.stands.small),
      omega (arith, few),
      omega (arith, gone.room, a.rep.counted.used_is),
      omega (arith, gone.ins_few, gone.outs_few),
    )

    -- the model's add before the record is noted, and then
    abbrev j : Model
    j = do_add P N reg k

    row_is : length j.recorded.written ≡ s.added
    unfolding with_add
    row_is = ap (λ (d : Recorded). length d.written) (add_same P N reg k).1 ∙ a.between.noted ∙ sym a.rep.counted.added_is

    rep_add : (s' : Session) (τ : Storage) → Rep P N j s' τ → Rep P N (note_add j) s' (with_rows τ (with_written τ.rows s.added s'.guide.written))
    rep_add s' τ Q =
        rep_noted P N s.added s'.guide.written j s' τ Q row_is (omega (arith, a.rep.counted.added_is, gone.more))
        (sym (order_view s'.guide τ.spans τ.order) ∙ ap (λ (b : GuideModel). length b.order) Q.core.guided.view_is)

  module _ (u r : ℕ) (eu : u ≡ s.guide.v) (er : r ≡ s.added) where
    module _ (a : MayDo (add_call lane ins outs) s σ) where
      u_is : u ≡ a.places
      u_is = eu ∙ a.rep.core.guided.v_is

      r_is : r ≡ length a.model.adds
      r_is = er ∙ a.rep.counted.added_is

      enters : Storing σ.waiting σ.pool u r s.used lane ins outs
      enters = rw (u_is, r_is, a.rep.counted.used_is) (may_enter a.parallelism a.places a.model s σ a.rep lane ins outs (gone a) low)
        where
          low : pooled a.model.adds < start_limit
          low =
              start_few a.parallelism a.places (length σ.pool) a.model [] a.between.sound
              (omega (arith, a.rep.core.guided.stands.small, a.rep.core.guided.v_is)) (gone a).more

    -- its outputs are flagged, and then its lists are stored
    module _ (y : List ℕ) (ey : y ≡ claimed σ.waiting u outs) where
      pub add_stores : MayDo (add_call lane ins outs) s σ → Storing y σ.pool u r s.used lane ins outs
      add_stores a = may_store_claimed σ.waiting σ.pool u r s.used lane ins outs y ey (enters a)

      module _ (w pool : List ℕ) (T : Stores y σ.pool u r s.used lane ins outs w pool) where
        module _ (a : MayDo (add_call lane ins outs) s σ) where
          stored : Entered σ.waiting σ.pool a.places (length a.model.adds) (pooled a.model.adds) lane ins outs w pool
          stored = rw (u_is a, r_is a, a.rep.counted.used_is) at (entered_claimed σ.waiting σ.pool u r s.used lane ins outs y ey w pool T)

          unplaced : Unplaced a.parallelism a.places (with_add reg a.model) (with_added s (length ins + length outs)) (with_lists σ w pool)
          unplaced = rw (stored.waiting_is, stored.pool_is) (entered_rep a.parallelism a.places a.model s σ a.rep lane ins outs (gone a))

          frame_stored : Frame a.parallelism a.places s.guide.written s.guide.written σ (with_lists σ w pool)
          frame_stored = rw (stored.waiting_is, stored.pool_is) (frame_entered a.parallelism a.places a.model s σ a.rep lane ins outs (gone a) s.guide.written)

          pub add_links : (m : ℕ) → m ≡ greatest ins → (m < u) × (r < u) × (waiting_needed u ≤ length w)
          add_links m em = rw (em, u_is a, r_is a) (may_link a.parallelism a.places (length σ.pool) a.model lane ins outs _ _ unplaced a.between.sound a.accepted)

        module _ (t : ℕ) (x : List ℕ) (lx : length x ≡ length w) (L : Links w u s.watermark ins r t x) where
          -- what is admitted
          abbrev linked : Told
          linked = record { number = 0; watermark = s.watermark; added = s.added + 1; used = s.used + (length ins + length outs); delayed = s.delayed + 1; top = t }

          module _ (a : MayDo (add_call lane ins outs) s σ) where
            here : Links w a.places s.watermark ins (length a.model.adds) t x
            here = rw (u_is a, r_is a) at L

            add_along : Along a.parallelism a.places (length σ.pool) s.added
                (do_add a.parallelism a.places reg a.model) (with_added s (length ins + length outs)) (with_lists σ x pool) t
            add_along =
                subst
                (λ (c : ℕ). Along a.parallelism a.places (length σ.pool) c (do_add a.parallelism a.places reg a.model)
                (with_added s (length ins + length outs)) (with_lists σ x pool) t)
                (sym a.rep.counted.added_is)
                (along_add a.parallelism a.places (length σ.pool) a.model lane ins outs (with_added s (length ins + length outs))
                (with_lists σ w pool) (unplaced a) a.between.sound a.accepted x lx t here)

            add_frame : Frame s.guide.p s.guide.v s.guide.written s.guide.written σ (with_lists σ x pool)
            add_frame =
                framed a.parallelism a.places s.guide.written s.guide.written s σ (with_lists σ x pool) a.rep.core.guided.p_is a.rep.core.guided.v_is
                (frame_trans a.parallelism a.places s.guide.written s.guide.written s.guide.written σ (with_lists σ w pool) (with_lists σ x pool) (frame_stored a)
                (waiting_frame a.parallelism a.places s.guide.written (with_lists σ w pool) x lx (links_rest w a.places s.watermark ins (length a.model.adds) x t here)))

          add_begun : MayDo (add_call lane ins outs) s σ → Begun (add_call lane ins outs) (λ P N k. do_add P N reg k) s linked σ (with_lists σ x pool)
          add_begun a = record { along = add_along; frame = add_frame a }

          add_does : MayDo (add_call lane ins outs) s σ → (s' : Session) (υ : Storage) → Places s linked s' (with_lists σ x pool) υ → Does (add_call lane ins outs) s s' σ υ
          unfolding apply_call
          add_does a s' υ Q =
              let D = add_begun a in
              let τ = Q.settled in
              rw (Q.is ∙ ap (λ (rs : List ℕ). with_rows τ rs) (noted_one s.added s'.guide.written τ.rows))
              (record {
                rep = λ P N k R B e.
                    let b : MayDo (add_call lane ins outs) s σ = record { parallelism = P; places = N; model = k; rep = R; between = B; accepted = e } in
                    rep_add b s' τ (goal_reached _ _ s linked σ _ D s' τ Q.settles b);
                frame =
                    frame_trans s.guide.p s.guide.v s.guide.written s'.guide.written s'.guide.written σ τ _ (goal_frame _ _ s linked σ _ D s' τ Q.settles)
                    (frame_noted s.guide.p s.guide.v s'.guide.written s.added s'.guide.written τ
                    (omega (arith, a.rep.counted.added_is, (gone a).more, a.rep.core.guided.v_is)));
              })

          pub add_admits : (n : ℕ) → Number (add_call lane ins outs) n s σ → n ≡ 0 → Asks s σ → Admits (add_call lane ins outs) s linked σ (with_lists σ x pool)
          add_admits n h z q = let a = may_do (add_call lane ins outs) n s σ h z q in admits _ _ s linked σ _ (add_begun a) n h z refl q (add_does a)
