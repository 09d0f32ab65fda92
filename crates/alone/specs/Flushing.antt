-- A flush of the guide alone: the code's number is that of `rules`, and the promise for each way out. Assumes nothing.
use Rattle.std.specs.Prelude.{◌≡◌, List, ◌≢◌, ℕ, ◌<◌}
use Rattle.std.proofs.Math.Path.{refl, sym}
use Rattle.std.proofs.Common.{◌∙◌, arith}
use borrow.Author.Tests.{leb-false}
use Rattle.rules.specs.Limits.{last_span_limit}
use Rattle.rules.specs.Guide.{flush as flush_guide}
use Rattle.rules.specs.Checks.{verdict}
use Rattle.rules.specs.Alone.{flush, reply, requests, check_flush_alone, worn, serve, serve_step}
use Rattle.laws.specs.Accepted.{verdict_head, accepted_is}
use Rattle.laws.specs.Alone.{serve_step_sound}
use Rattle.buffer.specs.View.{number_of, view}
use Rattle.placing.specs.Done.{Done}
use Rattle.alone_checks.specs.Numbers.{flush_checks}
use Rattle.alone.specs.declared.Alone.{Alone}
use Rattle.alone.specs.Reply.{Released, Rejected}
use Rattle.alone.specs.Held.{model, Held, number, given}
use Rattle.alone.specs.Served.{Served, given_by}
use Rattle.alone.specs.Pushing.{carried, refused, last_is}

module _ (x : Alone) (s o t : List ℕ) (h : Held x s o t) where
  abbrev last : ℕ
  last = number_of x.guide 31

  reply_is : verdict (flush_checks last) ≡ reply x.guide.v flush (model x s o)
  unfolding flush_checks reply requests check_flush_alone worn model view
  reply_is = rw (last_is x s o t h)

  pub flush_low : verdict (flush_checks last) ≡ 0 → last < last_span_limit
  unfolding flush_checks
  flush_low z = leb-false last_span_limit last (verdict_head _ _ z (omega arith)).0

  pub flush_refused : (n : ℕ) → n ≡ verdict (flush_checks last) → n ≢ 0 → Served flush x x s o t s o t (Rejected n)
  unfolding given_by
  flush_refused n e z = refused flush x s o t n h (e ∙ reply_is) z refl

  pub flush_served : (x' : Alone) (o' t' : List ℕ) → verdict (flush_checks last) ≡ 0 → x'.pushes ≡ x.pushes
      → Done x.guide x'.guide s o t s o' t' (flush_guide x.guide.p (view x.guide s o)) → Served flush x x' s o t s o' t' Released
  unfolding number given given_by model serve serve_step
  flush_served x' o' t' z c d =
      let r : reply x.guide.v flush (model x s o) ≡ 0 = sym reply_is ∙ z in
      let stepped : model x' s o' ≡ serve_step x.guide.p x.guide.v flush (model x s o) =
      (let f = d.is in
      let y : model x' s o' ≡ serve x.guide.p flush (model x s o) = cc in
      y ∙ sym (accepted_is (reply x.guide.v flush (model x s o)) (model x s o) (serve x.guide.p flush (model x s o)) r)) in
      record {
        held = record { stands = d.stands; sound = carried d.same_p d.same_v stepped (serve_step_sound x.guide.p x.guide.v h.stands.laid.one flush (model x s o) h.sound) };
        is = stepped;
        number_is = sym r;
        given_is = refl;
        same_p = d.same_p;
        same_v = d.same_v;
        rejected = λ y. absurd (y refl);
        frame = d.frame;
      }
