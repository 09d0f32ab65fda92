-- A push of the guide alone: the code's number is that of `rules`, what it has then passed, and the promise for each way out. Assumes nothing.
use Rattle.std.proofs.Math.Path.{◌≡◌, refl, sym}
use Rattle.std.proofs.Common.{◌∙◌, inl, inr}
use Rattle.std.specs.Prelude.{List, Bool, ◌≢◌, ◌⊎◌, leb}
use Rattle.std.proofs.Math.Bool.{true, false}
use Rattle.std.proofs.lemmas.Bool.{false≢true}
use Rattle.std.proofs.Math.Option.{some, none}
use Prim.Native.Nat.{ℕ, suc, ◌+◌, ◌-◌, ◌≤◌, ◌<◌}
use native.Mathlib.Omega.{arith}
use borrow.Author.Tests.{leb-false, ne_eqb, le-leb, le-ltb}
use Rattle.rules.specs.Limits.{last_span_limit}
use Rattle.rules.specs.Guide.{Loc}
use Rattle.rules.specs.Checks.{Check, verdict}
use Rattle.rules.specs.Alone.{Alone as AloneModel, Request, push, pushed, reply, requests, check_push, worn, stray, holds, serve, serve_step, location}
use Rattle.laws.specs.History.{lt_or_le}
use Rattle.laws.specs.Accepted.{verdict_head, or_false, accepted_is, refused_is}
use Rattle.laws.specs.Alone.{AloneSound, serve_step_sound}
use Rattle.buffer.specs.View.{number_of, view}
use Rattle.placing.specs.GuideFrame.{frame_refl}
use Rattle.placing.specs.Done.{len_view, number_view}
use Rattle.guide.specs.Ready.{Ready, Near, after_of}
use Rattle.guide.specs.Pushes.{Pushes}
use Rattle.alone_checks.specs.Numbers.{origin_not, stray_by, stray_after, push_checks}
use Rattle.alone.specs.declared.Alone.{Alone}
use Rattle.alone.specs.Reply.{At, Rejected}
use Rattle.alone.specs.Held.{model, Held, number, given}
use Rattle.alone.specs.Served.{Served, given_by}

-- the request that the code's arguments make
unfoldable pub pushing : Bool → ℕ → ℕ → ℕ → ℕ → ℕ → Request
pushing has span pos value added accepted = push (after_of has span pos) (pushed value added accepted)

-- where there is no location, its numbers say nothing
pub pushing_none : (span pos value added accepted : ℕ) → pushing false span pos value added accepted ≡ pushing false 0 0 value added accepted
unfolding pushing after_of
pushing_none span pos value added accepted = refl

-- invariants by other names of what they are of
pub carried : {P Q N M : ℕ} {a b : AloneModel} → Q ≡ P → M ≡ N → b ≡ a → AloneSound P N a → AloneSound Q M b
carried e f g h = rw (e, f, g) h

-- a request that is refused
pub refused : (q : Request) (x : Alone) (s o t : List ℕ) (n : ℕ) → Held x s o t → n ≡ reply x.guide.v q (model x s o) → n ≢ 0
    → none ≡ given_by x.guide.p x.guide.v q (model x s o) → Served q x x s o t s o t (Rejected n)
unfolding number given serve_step
refused q x s o t n h e z l =
    record {
      held = h;
      is = sym (refused_is (reply x.guide.v q (model x s o)) (model x s o) (serve x.guide.p q (model x s o)) (λ k. z (e ∙ k)));
      number_is = e;
      given_is = l;
      same_p = refl;
      same_v = refl;
      rejected = λ k. record { state = refl; spans = refl; order = refl; tally = refl };
      frame = frame_refl x.guide.p x.guide.written s o t;
    }

some_span : {l m : Loc} → some l ≡ some m → l.span ≡ m.span
some_span {l} {m} e = cc

some_loc : {span pos : ℕ} {l : Loc} → span ≡ l.span → pos ≡ l.pos → some (record { span = span; pos = pos }) ≡ some l
some_loc e f = rw (e, f)

-- the last span number
pub last_is : (x : Alone) (s o t : List ℕ) → Held x s o t → number_of x.guide 31 ≡ number_of x.guide 0 + 31
unfolding view
last_is x s o t h = number_view x.guide s o h.stands.laid 31 (omega arith)

-- where the last span number is low enough, the guide is ready
pub ready : (x : Alone) (s o t : List ℕ) → Held x s o t → number_of x.guide 31 < last_span_limit → Ready x.guide.p x.guide.v (view x.guide s o)
unfolding model view
ready x s o t h l =
    record {
      later = h.sound.later;
      room = omega (arith, h.sound.counted, h.sound.few);
      low = omega (arith, last_is x s o t h);
    }

-- an `after` past the window is stray
stray_past : (first : ℕ) (lens : List ℕ) (span pos : ℕ) → first + 31 < span → stray_by first lens span pos ≡ true
unfolding stray_by origin_not
stray_past first lens span pos k = rw (ne_eqb span 0 (omega arith), le-leb first span (omega arith), le-ltb (span - first) 32 (omega arith))

near_by : (first : ℕ) (lens : List ℕ) (span pos : ℕ) → stray_by first lens span pos ≡ false → span ≤ first + 31
near_by first lens span pos e = go (lt_or_le (first + 31) span)
  where
    go : (first + 31 < span) ⊎ (span ≤ first + 31) → span ≤ first + 31
    go (inl k) = absurd (false≢true (sym e ∙ stray_past first lens span pos k))
    go (inr k) = k

module _ (x : Alone) (s o t : List ℕ) (h : Held x s o t) (has : Bool) (span pos : ℕ) where
  abbrev numbers : List Check
  numbers = push_checks (number_of x.guide 31) (number_of x.guide 0) x.guide.window.lens x.guide.v x.pushes has span pos

  stray_is : stray (view x.guide s o) (after_of has span pos) ≡ stray_after (number_of x.guide 0) x.guide.window.lens has span pos
  unfolding stray holds view stray_after stray_by origin_not after_of
  stray_is = go has
    where
      go : (z : Bool) → stray (view x.guide s o) (after_of z span pos) ≡ stray_after (number_of x.guide 0) x.guide.window.lens z span pos
      go false = refl
      go true = rw (len_view x.guide s o h.stands.laid (span - number_of x.guide 0))

  -- the code's number is the paper's
  pub reply_is : (value added accepted : ℕ) → verdict numbers ≡ reply x.guide.v (pushing has span pos value added accepted) (model x s o)
  unfolding push_checks reply requests check_push worn model pushing view
  reply_is value added accepted = rw (last_is x s o t h, ← stray_is)

  module _ (z : verdict numbers ≡ 0) where
    pub few_pushes : x.pushes < x.guide.v
    unfolding push_checks
    few_pushes = leb-false x.guide.v x.pushes (or_false _ _ (verdict_head _ _ z (omega arith)).0).0

    pub low_last : number_of x.guide 31 < last_span_limit
    unfolding push_checks
    low_last = leb-false last_span_limit (number_of x.guide 31) (or_false (leb x.guide.v x.pushes) _ (verdict_head _ _ z (omega arith)).0).1

    not_stray : stray_after (number_of x.guide 0) x.guide.window.lens has span pos ≡ false
    unfolding push_checks
    not_stray = (verdict_head _ _ (verdict_head _ _ z (omega arith)).1 (omega arith)).0

    pub near : Near (view x.guide s o) (after_of has span pos)
    unfolding after_of view stray_after
    near l e = go has not_stray e
      where
        go : (k : Bool) → stray_after (number_of x.guide 0) x.guide.window.lens k span pos ≡ false → after_of k span pos ≡ some l → l.span ≤ number_of x.guide 0 + 31
        go false w f = let y : ◌≡◌ {A = ℕ} 0 1 = cc in absurd (omega arith)
        go true w f = let y : span ≡ l.span = some_span f in omega (arith, near_by (number_of x.guide 0) x.guide.window.lens span pos w)

  module _ (value added accepted : ℕ) where
    abbrev q : Request
    q = pushing has span pos value added accepted

    pub push_refused : (n : ℕ) → n ≡ verdict numbers → n ≢ 0 → Served q x x s o t s o t (Rejected n)
    unfolding given_by pushing
    push_refused n e z =
        let r = e ∙ reply_is value added accepted in
        refused q x s o t n h r z
        (sym (refused_is (reply x.guide.v q (model x s o)) none
        (some (location x.guide.p (after_of has span pos) (pushed value added accepted) (model x s o))) (λ k. z (r ∙ k))))

    pub push_served : (x' : Alone) (s' o' t' : List ℕ) (span' pos' : ℕ) → verdict numbers ≡ 0 → x'.pushes ≡ x.pushes + 1
        → Pushes x.guide x'.guide (after_of has span pos) (pushed value added accepted) s o t s' o' t' span' pos'
        → Served q x x' s o t s' o' t' (At span' pos')
    unfolding number given given_by pushing model serve serve_step location
    push_served x' s' o' t' span' pos' z c k =
        let r : reply x.guide.v q (model x s o) ≡ 0 = sym (reply_is value added accepted) ∙ z in
        let d = k.done in
        let stepped : model x' s' o' ≡ serve_step x.guide.p x.guide.v q (model x s o) =
        (let f = d.is in
        let n : x'.pushes ≡ suc x.pushes = omega arith in
        let y : model x' s' o' ≡ serve x.guide.p q (model x s o) = cc in
        y ∙ sym (accepted_is (reply x.guide.v q (model x s o)) (model x s o) (serve x.guide.p q (model x s o)) r)) in
        record {
          held = record { stands = d.stands; sound = carried d.same_p d.same_v stepped (serve_step_sound x.guide.p x.guide.v h.stands.laid.one q (model x s o) h.sound) };
          is = stepped;
          number_is = sym r;
          given_is =
              some_loc k.at_span k.at_pos
              ∙ sym (accepted_is (reply x.guide.v q (model x s o)) none
              (some (location x.guide.p (after_of has span pos) (pushed value added accepted) (model x s o))) r);
          same_p = d.same_p;
          same_v = d.same_v;
          rejected = λ y. absurd (y refl);
          frame = d.frame;
        }
