-- The loop over the requests: what is still to be run, and what the answers already say; and the promise of the whole, from opening's promise
-- and the loop's. Assumes nothing.
use Rattle.std.specs.Prelude.{◌≡◌, List, [], ◌∷◌, ◌++◌, ◌||◌, ◌≢◌, ℕ, suc, ◌+◌, ◌*◌, ◌-◌, ◌/◌, ◌≤◌, ◌<◌, take, drop}
use Rattle.std.proofs.Math.Path.{refl, sym}
use Rattle.std.proofs.Common.{ap, ◌∙◌, append_assoc, append-nil, div-mul-le_self, arith, drop-drop}
use Rattle.std.proofs.Math.Bool.{true, false}
use Rattle.std.proofs.Math.Nat.{sub-zero}
use Rattle.std.proofs.Math.ListN.{length}
use Rattle.std.proofs.Math.Dec.{ltb}
use borrow.Author.Tests.{lt-ltb, le-ltb}
use Rattle.rules.specs.Limits.{most_parallelism, most_places}
use Rattle.rules.specs.Refusals as refusal
use Rattle.rules.specs.Checks.{Check, verdict, any, short, spans_needed, tally_needed, check_range}
use Rattle.rules.specs.Alone.{Alone as AloneModel, alone, check_alone, Request, reply, serve_step, serve_all}
use Rattle.laws.specs.Accepted.{verdict_head, verdict_first}
use Rattle.entries.specs.Entries.{capacity}
use Rattle.alone.specs.declared.Alone.{Alone}
use Rattle.alone.specs.Reply.{Reply}
use Rattle.alone.specs.Held.{model, Held, written_is, order_is, tally_is}
use Rattle.alone.specs.Served.{Served, given_by}
use Rattle.placing.specs.GuideFrame.{GuideFrame, frame_refl, frame_trans}
use Rattle.placing.specs.Slices.{Borrowed}
use Rattle.alone.specs.Opening.{opening_number, Begins, Opens, open_frame, open_served}
use Rattle.alone.specs.Chain.{reframe}
use Rattle.alone_list.specs.Put.{Put}
use Rattle.alone_list.specs.Requests.{request_size, answer_size, request_at, requests_from, well_formed, answer_to, answers_to}
use Rattle.alone_list.specs.Replay.{replay_number, Ran, Replays}
use Rattle.alone_list.specs.Forms.{decode_none, decode_some, requests_many}
use Rattle.alone_list.specs.Blocks.{block_of, block_answer, block_length}

-- from the model a, over the storage s₀, o₀, t₀ and w, with n₀ entries in the order; k of n requests are run, and y, s, o, t and w' stand now
pub record Running (p v n₀ : ℕ) (a : AloneModel) (s₀ o₀ t₀ q w : List ℕ) (n k : ℕ) (y : Alone) (s o t w' : List ℕ) : Type 0 where
  pub held : Held y s o t
  pub p_is : y.guide.p ≡ p
  pub v_is : y.guide.v ≡ v
  pub rest : serve_all p v (requests_from q 0 n) a ≡ serve_all p v (requests_from q k (n - k)) (model y s o)
  pub answers : answers_to p v (requests_from q 0 n) a ≡ take (answer_size * k) w' ++ answers_to p v (requests_from q k (n - k)) (model y s o)
  pub beyond : drop (answer_size * k) w' ≡ drop (answer_size * k) w
  pub long : length w' ≡ length w
  pub frame : GuideFrame p n₀ y.guide.written s₀ o₀ t₀ s o t

pub run_begins : (x : Alone) (q w s o t : List ℕ) (n : ℕ) → Held x s o t → Running x.guide.p x.guide.v x.guide.written (model x s o) s o t q w n 0 x s o t w
run_begins x q w s o t n h =
    record { held = h; p_is = refl; v_is = refl; rest = rw sub-zero; answers = rw sub-zero; beyond = refl; long = refl; frame = frame_refl x.guide.p x.guide.written s o t }

served_is : {p v : ℕ} {q : Request} {y z : Alone} {s o t s' o' t' : List ℕ} {r : Reply} → y.guide.p ≡ p → y.guide.v ≡ v → Served q y z s o t s' o' t' r
    → (serve_step p v q (model y s o) ≡ model z s' o') × (answer_to (reply v q (model y s o)) (given_by p v q (model y s o)) (serve_step p v q (model y s o)).guide ≡ block_of z r)
served_is {q = q} {y = y} {z = z} {s = s} {o = o} {t = t} {s' = s'} {o' = o'} {t' = t'} {r = r} e f c = (rw (← e, ← f) (sym c.is), rw (← e, ← f) (sym (block_answer q y z s o t s' o' t' r c)))

one_step : (p v : ℕ) (q : Request) (qs : List Request) (a b : AloneModel) (l : List ℕ) → serve_step p v q a ≡ b → answer_to (reply v q a) (given_by p v q a) (serve_step p v q a).guide ≡ l
    → (serve_all p v (q ∷ qs) a ≡ serve_all p v qs b) × (answers_to p v (q ∷ qs) a ≡ l ++ answers_to p v qs b)
unfolding serve_all answers_to
one_step p v q qs a b l e f = (ap (λ x. serve_all p v qs x) e, ap (λ x. x ++ answers_to p v qs (serve_step p v q a)) f ∙ ap (λ x. l ++ answers_to p v qs x) e)

next_request : (q : List ℕ) (n k : ℕ) → k < n → requests_from q k (n - k) ≡ request_at q k ∷ requests_from q (k + 1) (n - (k + 1))
unfolding requests_from
next_request q n k h =
    let e : n - k ≡ suc (n - (k + 1)) = omega arith in
    let f : k + 1 ≡ suc k = omega arith in
    rw (e, f)

pub run_turn : (p v n₀ : ℕ) (a : AloneModel) (s₀ o₀ t₀ q w : List ℕ) (n k : ℕ) (y z : Alone) (s o t s' o' t' w' w'' : List ℕ) (r : Reply) → k < n → Running p v n₀ a s₀ o₀ t₀ q w n k y s o t w'
    → Served (request_at q k) y z s o t s' o' t' r → Put (answer_size * k) (block_of z r) w' w'' → Running p v n₀ a s₀ o₀ t₀ q w n (k + 1) z s' o' t' w''
run_turn p v n₀ a s₀ o₀ t₀ q w n k y z s o t s' o' t' w' w'' r h c d f =
    let nx = next_request q n k h in
    let sv = served_is c.p_is c.v_is d in
    let st = one_step p v (request_at q k) (requests_from q (k + 1) (n - (k + 1))) (model y s o) (model z s' o') (block_of z r) sv.0 sv.1 in
    let m : answer_size * (k + 1) ≡ answer_size * k + length (block_of z r) = omega (arith, block_length z r d.held.stands.laid.lens_many) in
    record {
      held = d.held;
      p_is = d.same_p ∙ c.p_is;
      v_is = d.same_v ∙ c.v_is;
      rest = c.rest ∙ ap (λ x. serve_all p v x (model y s o)) nx ∙ st.0;
      answers = c.answers ∙ ap (λ x. take (answer_size * k) w' ++ answers_to p v x (model y s o)) nx ∙ ap (λ x. take (answer_size * k) w' ++ x) st.1
          ∙ sym (append_assoc (take (answer_size * k) w') (block_of z r) (answers_to p v (requests_from q (k + 1) (n - (k + 1))) (model z s' o')))
          ∙ ap (λ x. x ++ answers_to p v (requests_from q (k + 1) (n - (k + 1))) (model z s' o')) (sym (ap (λ x. take x w'') m ∙ f.is));
      beyond = rw m
          (f.beyond ∙ sym (drop-drop (length (block_of z r)) (answer_size * k) w') ∙ ap (λ x. drop (length (block_of z r)) x) c.beyond ∙ drop-drop (length (block_of z r)) (answer_size * k) w);
      long = f.long ∙ c.long;
      frame = frame_trans c.frame (reframe c.p_is d.frame);
    }

-- all are run
pub record Runs (p v n₀ : ℕ) (a : AloneModel) (s₀ o₀ t₀ q w : List ℕ) (n : ℕ) (s o t w' : List ℕ) : Type 0 where
  pub guide : Alone
  pub held : Held guide s o t
  pub p_is : guide.guide.p ≡ p
  pub v_is : guide.guide.v ≡ v
  pub is : model guide s o ≡ serve_all p v (requests_from q 0 n) a
  pub answers_are : take (answer_size * n) w' ≡ answers_to p v (requests_from q 0 n) a
  pub long : length w' ≡ length w
  pub beyond : drop (answer_size * n) w' ≡ drop (answer_size * n) w
  pub frame : GuideFrame p n₀ guide.guide.written s₀ o₀ t₀ s o t

-- the same of a function's slices, from the guide x on
abbrev pub RunsOver : Alone → Borrowed → Borrowed → Borrowed → Borrowed → List ℕ → ℕ → Type 0
RunsOver x spans order tally answers requests n =
    Runs x.guide.p x.guide.v x.guide.written (model x spans.entry.now order.entry.now) spans.entry.now order.entry.now tally.entry.now
    requests answers.entry.now n spans.exit.now order.exit.now tally.exit.now answers.exit.now

pub run_ends : (p v n₀ : ℕ) (a : AloneModel) (s₀ o₀ t₀ q w : List ℕ) (n k : ℕ) (y : Alone) (s o t w' : List ℕ) → k ≡ n
    → Running p v n₀ a s₀ o₀ t₀ q w n k y s o t w' → Runs p v n₀ a s₀ o₀ t₀ q w n s o t w'
unfolding requests_from serve_all answers_to
run_ends p v n₀ a s₀ o₀ t₀ q w n k y s o t w' e c =
    let z : n - k ≡ 0 = omega arith in
    record {
      guide = y;
      held = c.held;
      p_is = c.p_is;
      v_is = c.v_is;
      is = sym (c.rest ∙ ap (λ x. serve_all p v (requests_from q k x) (model y s o)) z);
      answers_are = sym
          (c.answers ∙ ap (λ x. take (answer_size * k) w' ++ answers_to p v (requests_from q k x) (model y s o)) z ∙ append-nil (take (answer_size * k) w') ∙ ap (λ x. take (answer_size * x) w') e);
      long = c.long;
      beyond = rw e at c.beyond;
      frame = c.frame;
    }

as_opened : {p v n₀ m₀ P N : ℕ} {a b : AloneModel} {s₀ o₀ t₀ q w : List ℕ} {n : ℕ} {s o t w' : List ℕ}
    → Runs P N n₀ a s₀ o₀ t₀ q w n s o t w' → P ≡ p → N ≡ v → a ≡ b → n₀ ≡ m₀ → Runs p v m₀ b s₀ o₀ t₀ q w n s o t w'
as_opened r e f g h = rw (e, f, g, h) at r

frame_to : {p n m m' : ℕ} {s o t s' o' t' : List ℕ} → m ≡ m' → GuideFrame p n m s o t s' o' t' → GuideFrame p n m' s o t s' o' t'
frame_to e f = rw e at f

-- the run of a fresh guide, from the storage before it was opened
ran : {P N n : ℕ} {x : Alone} {rs : List Request} {q s o t t₀ w s' o' t' w' : List ℕ} → Opens P N 0 x s o t₀ t → requests_from q 0 n ≡ rs → n ≡ length rs
    → Runs P N 0 alone s o t q w n s' o' t' w' → Ran P N rs s o t₀ w s' o' t' w'
ran {P} {N} {n} {x} {rs} {s = s} {o = o} {t = t} {t₀ = t₀} {w = w} {s' = s'} {o' = o'} {w' = w'} a e f r =
    let y = r.guide in
    let is = r.is ∙ ap (λ l. serve_all P N l alone) e in
    record {
      guide = y;
      held = r.held;
      p_is = r.p_is;
      v_is = r.v_is;
      is = is;
      order_is = order_is y s' o' is;
      tally_is = tally_is y s' o' is r.held r.p_is;
      answers_are = ap (λ k. take (answer_size * k) w') (sym f) ∙ r.answers_are ∙ ap (λ l. answers_to P N l alone) e;
      long = r.long;
      beyond = rw f at r.beyond;
      frame = frame_to (written_is y s' o' is) (frame_trans (open_frame P N 0 0 x s o t₀ t a) r.frame);
    }

-- the number of a replay
module _ (P N : ℕ) (q s o t w : List ℕ) where
  passed_checks : opening_number P N s o t ≡ 0
      → ((ltb P 1 || ltb most_parallelism P) ≡ false) × ((ltb N 1 || ltb most_places N) ≡ false)
      × (any short ((capacity s, spans_needed P) ∷ (capacity o, N) ∷ (length t, tally_needed P) ∷ []) ≡ false)
  unfolding check_alone check_range
  passed_checks z =
      let x = verdict_head _ _ z (omega arith) in
      let y = verdict_head _ _ x.1 (omega arith) in
      let v = verdict_head _ _ y.1 (omega arith) in
      (x.0, y.0, v.0)

  opening_passed : (c : Check) → opening_number P N s o t ≡ 0 → verdict (check_alone P N (capacity s) (capacity o) (length t) ++ (c ∷ [])) ≡ verdict (c ∷ [])
  unfolding check_alone check_range verdict
  opening_passed c z = let x = passed_checks z in rw (x.0, x.1, x.2)

  pub replay_malformed : false ≡ well_formed q → Replays P N q refusal.malformed s o t w s o t w
  unfolding replay_number
  replay_malformed e = record { number_is = rw (decode_none q e); refused = λ z. (refl, refl, refl, refl); ran = λ z. absurd (omega arith) }

  module _ (e : true ≡ well_formed q) where
    pub replay_refused : (n : ℕ) → n ≡ opening_number P N s o t → n ≢ 0 → Replays P N q n s o t w s o t w
    unfolding replay_number
    replay_refused n d h =
        record {
          number_is = rw (decode_some q e) (d ∙ sym (verdict_first (check_alone P N (capacity s) (capacity o) (length t)) _ (λ z. h (d ∙ z))));
          refused = λ z. (refl, refl, refl, refl);
          ran = λ z. absurd (h z);
        }

    module _ (z : opening_number P N s o t ≡ 0) where
      abbrev rs : List Request
      rs = requests_from q 0 (length q / request_size)

      pub replay_no_room : length w / answer_size < length q / request_size → Replays P N q refusal.too_short s o t w s o t w
      unfolding replay_number verdict
      replay_no_room h =
          let k : ltb (length w) (answer_size * length rs) ≡ true = lt-ltb (length w) (answer_size * length rs) (omega (arith, requests_many q 0 (length q / request_size))) in
          record {
            number_is = rw (decode_some q e) (sym (opening_passed _ z ∙ rw k));
            refused = λ y. (refl, refl, refl, refl);
            ran = λ y. absurd (omega arith);
          }

      pub may_run : length q / request_size ≤ length w / answer_size → (request_size * (length q / request_size) ≤ length q) × (answer_size * (length q / request_size) ≤ length w)
      may_run h = (omega (arith, div-mul-le_self (length q) request_size), omega (arith, div-mul-le_self (length w) answer_size))

      pub begun : {x : Alone} {t₁ : List ℕ} → Begins P N x t t₁ → Opens P N 0 x s o t t₁
      begun {x} {t₁} a = open_served P N 0 x s o t (sym z) t₁ refl a

      pub replay_ran : {x : Alone} {t₁ s' o' t' w' : List ℕ} → length q / request_size ≤ length w / answer_size → Begins P N x t t₁
          → Runs x.guide.p x.guide.v x.guide.written (model x s o) s o t₁ q w (length q / request_size) s' o' t' w' → Replays P N q 0 s o t w s' o' t' w'
      unfolding replay_number verdict
      replay_ran h a r =
          let many = requests_many q 0 (length q / request_size) in
          let k : ltb (length w) (answer_size * length rs) ≡ false = le-ltb (length w) (answer_size * length rs) (omega (arith, many, (may_run h).1)) in
          let b = begun a in
          record {
            number_is = rw (decode_some q e) (sym (opening_passed _ z ∙ rw k));
            refused = λ y. absurd (y refl);
            ran = λ y. (rs, decode_some q e, ran b refl (sym many) (as_opened r (b.p_is refl) (b.v_is refl) (b.is refl) (b.written_is refl)));
          }
