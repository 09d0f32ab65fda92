-- Laws of the answer to a job: a listing that fits, one that does not, and a refused job. Assumes nothing.
use mathlib.Core.List.{List, ◌++◌}
use Rattle.std.specs.Prelude.{◌≡◌, ℕ, ◌≤◌, ◌<◌}
use Rattle.std.proofs.Math.Path.{sym, ap, subst}
use Rattle.std.proofs.Common.{◌∙◌, drop_at}
use native.Mathlib.Omega.{arith}
use Rattle.std.proofs.Math.ListN.{length, take, drop, length-take, length-append}
use Rattle.std.proofs.Math.Seq.{take_at}
use borrow.Author.Tests.{lt-ltb, le-ltb}
use Rattle.rules.specs.Model.{Model}
use Rattle.rules.specs.Refusals as refusal
use Rattle.entries.specs.Entries.{extent}
use Rattle.rules.specs.Limits.{program_listing_bytes, job_places, job_pool}
use Rattle.rules.specs.Listing as rule
use Rattle.rules.specs.Listing.{listing, fit, told, program, printed, rejection}
use Rattle.session.specs.declared.Session.{Session}
use Rattle.session.specs.Storage.{Storage, storage}
use Rattle.writer.specs.Wrote.{Wrote, wrote_in, wrote_whole}
use Rattle.report.specs.Report.{Shown, MayReport, Reports}
use Rattle.jobturn.specs.declared.EndFigures.{EndFigures}
use Rattle.jobturn.specs.Ends.{End}
use Rattle.jobturn.specs.Ends as end
use Rattle.job.specs.Run.{Closed, Ran}
use Rattle.job_reply.specs.Reply as reply
use Rattle.job_reply.specs.Reply.{Reply, reply_as, Replied, Answered}

-- a job that was refused
pub replied_refused : (job bytes : List ℕ) (n code : ℕ) (x : End) {s : Session} {σ σ' : Storage} {a b : List ℕ} → Ran job x s σ σ' a b → x ≡ end.Rejected n code
    → Replied job bytes bytes (reply.Refused n code)
unfolding rule.reply told rule.bytes_after
replied_refused job bytes n code x {s} {σ} {σ'} {a} {b} r e =
    let r' = subst (λ (y : End). Ran job y s σ σ' a b) e r in
    let q : rule.reply (length bytes) job ≡ rule.refused n code = ap (told (length bytes)) r'.tells.is in
    record { is = sym q; bytes = sym (ap (λ (y : rule.Reply). rule.bytes_after y bytes) q); small = (r'.low.0, omega (arith, r'.low.1)) }

-- a job that was finished, over order o and rows rs
module _ {job : List ℕ} {figures : EndFigures} {x : End} {s : Session} {sp o t rs m l wa pool : List ℕ} {σ : Storage} {a b : List ℕ}
    (r : Ran job x s σ (storage sp o t rs m l wa pool) a b) (e : x ≡ end.Finished figures) where
  done : Closed job s σ (storage sp o t rs m l wa pool) figures
  done = (subst (λ (y : End). Ran job y s σ (storage sp o t rs m l wa pool) a b) e r).tells

  abbrev P : ℕ
  P = done.last.parallelism

  abbrev N : ℕ
  N = done.last.places

  abbrev model : Model
  model = done.last.model

  shown : Shown P N job_pool model o rs figures
  shown =
      record {
        session = s;
        spans = sp;
        tally = t;
        marks = m;
        locations = l;
        waiting = wa;
        pool = pool;
        stands = done.standing.stands;
        figures = done.figures;
      }

  pub may_report : (room : ℕ) → room ≡ program_listing_bytes → length o ≡ extent job_places → MayReport o rs room figures
  may_report room q h =
      let g = done.standing.stands.rep.core.guided in
      record { P = P; N = N; W = job_pool; model = model; shown = shown; enough = omega (arith, g.stands.order_long, g.v_is) }

  module _ (blank page : List ℕ) (n : ℕ) (long : length page ≡ program_listing_bytes) (u : Reports o rs blank page figures n) where
    text : List ℕ
    text = listing P model

    wrote : Wrote blank page 0 n text
    unfolding text
    wrote = u P N job_pool model shown

    text_is : take n page ≡ text
    text_is = wrote.holds

    size : n ≡ length text
    size = wrote.next ∙ omega arith

    pub n_low : n ≤ program_listing_bytes
    n_low = omega (arith, long, wrote_in wrote)

    replies : (bytes : List ℕ) → rule.reply (length bytes) job ≡ fit (length bytes) text
    unfolding rule.reply told text
    replies bytes = ap (told (length bytes)) done.is

    pub replied_long : (bytes : List ℕ) → length bytes < n → Replied job bytes bytes (reply.Refused 1 refusal.long_listing)
    unfolding fit rule.bytes_after
    replied_long bytes h =
        let q : rule.reply (length bytes) job ≡ rule.refused 1 refusal.long_listing = replies bytes ∙ rw (fit, lt-ltb (length bytes) (length text) (omega (arith, size))) in
        record { is = sym q; bytes = sym (ap (λ (y : rule.Reply). rule.bytes_after y bytes) q); small = (omega arith, omega arith) }

    pub replied_listed : (bytes exit : List ℕ) → n ≤ length bytes → exit ≡ take n page ++ drop n bytes → Replied job bytes exit (reply.Listed n)
    unfolding fit rule.bytes_after
    replied_listed bytes exit h c =
        let q : rule.reply (length bytes) job ≡ rule.listed text = replies bytes ∙ rw (fit, le-ltb (length bytes) (length text) (omega (arith, size))) in
        let f : exit ≡ text ++ drop n bytes = c ∙ ap (λ (y : List ℕ). y ++ drop n bytes) text_is in
        let g : take n exit ≡ text = ap (take n) f ∙ take_at text (drop n bytes) n (sym size) in
        record {
          is = ap rule.listed g ∙ sym q;
          bytes = f ∙ ap (λ (i : ℕ). text ++ drop i bytes) size ∙ sym (ap (λ (y : rule.Reply). rule.bytes_after y bytes) q);
          small = (omega (arith, size, ap length f, length-append text (drop n bytes)), n_low);
        }

-- what the program prints
module _ {job entry exit : List ℕ} {x : Reply} (r : Replied job entry exit x) (long : length entry ≡ program_listing_bytes) where
  printed_is : printed (reply_as x exit) ≡ program job
  unfolding program printed
  printed_is = ap printed r.is ∙ ap (λ (i : ℕ). printed (rule.reply i job)) long

  pub answer_listed : (n : ℕ) → x ≡ reply.Listed n → Answered job entry exit n
  unfolding printed rule.bytes_after
  answer_listed n e =
      let r' = subst (λ (y : Reply). Replied job entry exit y) e r in
      let t : take n exit ≡ program job = ap (λ (y : Reply). printed (reply_as y exit)) (sym e) ∙ printed_is in
      let q : length (take n exit) ≡ n = omega (arith, length-take n exit, r'.small.0) in
      record {
        small = r'.small.1;
        text = t;
        bytes = r'.bytes ∙ ap (λ (y : rule.Reply). rule.bytes_after y entry) (sym r'.is)
            ∙ ap (λ (i : ℕ). take n exit ++ drop i entry) q ∙ ap (λ (y : List ℕ). y ++ drop n entry) t;
      }

  pub answer_refused : (line code : ℕ) → x ≡ reply.Refused line code → (out : List ℕ) (n : ℕ) → n ≤ program_listing_bytes → Wrote exit out 0 n (rejection line code)
      → Answered job entry out n
  unfolding printed rule.bytes_after
  answer_refused line code e out n h w =
      let r' = subst (λ (y : Reply). Replied job entry exit y) e r in
      let t : rejection line code ≡ program job = ap (λ (y : Reply). printed (reply_as y exit)) (sym e) ∙ printed_is in
      let q : exit ≡ entry = r'.bytes ∙ ap (λ (y : rule.Reply). rule.bytes_after y entry) (sym r'.is) in
      let w' = subst (λ (y : List ℕ). Wrote y out 0 n (program job)) q (subst (λ (y : List ℕ). Wrote exit out 0 n y) t w) in
      record { small = h; text = w'.holds; bytes = wrote_whole w' }

-- so nothing past what the program prints is written
pub past_answer : {job entry exit : List ℕ} {r : ℕ} → length exit ≡ length entry → length entry ≡ program_listing_bytes → Answered job entry exit r → drop r exit ≡ drop r entry
past_answer {job} {entry} {exit} {r} l e h =
    let q : length (program job) ≡ r = sym (ap length h.text) ∙ omega (arith, length-take r exit, h.small) in
    ap (drop r) h.bytes ∙ drop_at (program job) (drop r entry) r q
