-- The numbers that the checks give, from session and storage, are the model's answers. u is V as an index. Assumes nothing.
use Rattle.std.specs.Prelude.{◌≡◌, List, Bool, ℕ, length}
use Rattle.std.proofs.Common.{ap, ◌∙◌, arith}
use Rattle.rules.specs.Model.{Model, greatest}
use Rattle.rules.specs.Checks.{verdict, taken}
use Rattle.rules.specs.Calls.{Call, set, add, flush, final, answer}
use Rattle.checking.specs.Parts.{set_checks, add_checks, flush_checks, final_checks, ChecksSet}
use Rattle.checking.specs.Laws.{answer_set, answer_add, answer_flush, answer_final}
use Rattle.claiming.specs.Promises.{MayAdmit, ClaimsAdd}
use Rattle.session.specs.declared.Session.{Session}
use Rattle.session.specs.Storage.{Storage}
use Rattle.session.specs.Rep.{Rep}
use Rattle.admitting.specs.Promise.{Asks, MayDo, may_do}

-- n is the number of the call c for every model that session and storage stand for
abbrev pub Number : Call → ℕ → Session → Storage → Type 0
Number c n s σ = (P N : ℕ) (k : Model) → Rep P N k s σ → n ≡ answer N (length σ.pool) c k

pub set_number : (x n u : ℕ) (s : Session) (σ : Storage) → u ≡ s.guide.v → ChecksSet σ.waiting s.closed u x n → Number (set x) n s σ
set_number x n u s σ eu c P N k R =
    let e : u ≡ N = eu ∙ R.core.guided.v_is in
    c.is (taken k) (rw e R.core.stored.flags)
    ∙ ap (λ (b : Bool). verdict (set_checks b u x (taken k))) R.counted.closed_is
    ∙ ap (λ (v : ℕ). verdict (set_checks k.closed v x (taken k))) e
    ∙ answer_set N (length σ.pool) x k

-- what the checks of add ask
pub may_check : (ins : List ℕ) (m u : ℕ) (s : Session) (σ : Storage) → u ≡ s.guide.v → m ≡ greatest ins → Asks s σ → MayAdmit σ.waiting ins m u s.used (length σ.pool)
may_check ins m u s σ eu em a =
    record {
      may = record {
        taken = taken a.model;
        flags = rw (eu ∙ a.rep.core.guided.v_is) a.rep.core.stored.flags;
        fits = omega (arith, a.rep.counted.used_is, a.rep.core.stored.lists.fits);
      };
      top_is = em;
    }

pub add_number : (lane : ℕ) (ins outs : List ℕ) (n u added : ℕ) (s : Session) (σ : Storage) (w : List ℕ) → u ≡ s.guide.v → added ≡ s.added
    → ClaimsAdd σ.waiting lane ins outs s.closed u added s.used (length σ.pool) n w → Number (add lane ins outs) n s σ
add_number lane ins outs n u added s σ w eu ea c P N k R =
    let e : u ≡ N = eu ∙ R.core.guided.v_is in
    c.is (taken k) (rw e R.core.stored.flags)
    ∙ ap (λ (b : Bool). verdict (add_checks b u lane ins outs (taken k) added s.used (length σ.pool))) R.counted.closed_is
    ∙ ap (λ (v : ℕ). verdict (add_checks k.closed v lane ins outs (taken k) added s.used (length σ.pool))) e
    ∙ ap (λ (v : ℕ). verdict (add_checks k.closed N lane ins outs (taken k) v s.used (length σ.pool))) (ea ∙ R.counted.added_is)
    ∙ ap (λ (v : ℕ). verdict (add_checks k.closed N lane ins outs (taken k) (length k.adds) v (length σ.pool))) R.counted.used_is
    ∙ answer_add N (length σ.pool) lane ins outs k

-- where it is 0, the work of add may be done
pub may_add : (lane : ℕ) (ins outs : List ℕ) (n u added : ℕ) (s : Session) (σ : Storage) (w : List ℕ) → u ≡ s.guide.v → added ≡ s.added
    → ClaimsAdd σ.waiting lane ins outs s.closed u added s.used (length σ.pool) n w → n ≡ 0 → Asks s σ → MayDo (add lane ins outs) s σ
may_add lane ins outs n u added s σ w eu ea c z a = may_do (add lane ins outs) n s σ (add_number lane ins outs n u added s σ w eu ea c) z a

pub flush_number : (n : ℕ) (s : Session) (σ : Storage) → n ≡ verdict (flush_checks s.closed s.flushes) → Number flush n s σ
flush_number n s σ e P N k R =
    e ∙ ap (λ (b : Bool). verdict (flush_checks b s.flushes)) R.counted.closed_is
    ∙ ap (λ (x : ℕ). verdict (flush_checks k.closed x)) R.counted.flushes_is ∙ answer_flush N (length σ.pool) k

pub final_number : (n : ℕ) (s : Session) (σ : Storage) → n ≡ verdict (final_checks s.closed s.delayed) → Number final n s σ
final_number n s σ e P N k R =
    let d : s.delayed ≡ length k.pending = omega (arith, R.delayed_is) in
    e ∙ ap (λ (b : Bool). verdict (final_checks b s.delayed)) R.counted.closed_is ∙ ap (λ (x : ℕ). verdict (final_checks k.closed x)) d ∙ answer_final N (length σ.pool) k
