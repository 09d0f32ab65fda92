-- Laws of running a job: what remains of it is kept by each turn. Assumes nothing.
use Rattle.std.specs.Prelude.{Bool, false, ◌⊎◌, ◌≡◌, ℕ, ◌+◌, ◌/◌, ◌≤◌, ◌<◌, length, drop}
use Rattle.std.proofs.Math.Bool.{true}
use mathlib.Core.List.{List}
use Rattle.std.proofs.Common.{inl, inr, sym, ◌∙◌}
use Rattle.std.proofs.Math.Option.{Option, some, none}
use Rattle.std.proofs.Math.Path.{refl, ap, subst}
use native.Mathlib.Omega.{arith}
use Rattle.std.proofs.Math.Dec.{eqb}
use borrow.Author.Tests.{lt-ltb, le-ltb, eq-eqb, ne_eqb}
use Rattle.rules.specs.Model.{Model, initial}
use Rattle.rules.specs.Checks.{verdict, check_open}
use Rattle.rules.specs.Calls as calls
use Rattle.rules.specs.Calls.{step}
use Rattle.rules.specs.Limits.{most_job_bytes, job_pool}
use Rattle.rules.specs.Refusals as refusal
use Rattle.rules.specs.Job.{nothing, Outcome, rejected, outcome, lines, ragged, run_lines, on_line, job_sizes, Reached, reached, reached_lines}
use Rattle.laws.specs.Accepted.{open_code}
use Rattle.laws.specs.Sound.{between_initial}
use Rattle.guide.specs.Fresh.{first_guide}
use Rattle.session.specs.declared.Session.{Session}
use Rattle.session.specs.Storage.{Storage, Beyond, Frame, beyond_refl, beyond_drop, beyond_trans, frame_refl, frame_trans}
use Rattle.session.specs.Rep.{Rep}
use Rattle.opening.specs.Opened.{Opens, enough_of, first_session}
use Rattle.jobcalls.specs.Told.{HeadRead}
use Rattle.jobcalls.specs.Runs.{Run, whole_run, opens, head_runs}
use Rattle.jobcalls.specs.Head.{Head}
use Rattle.jobcalls.specs.Head as head
use Rattle.jobturn.specs.Steps.{Step}
use Rattle.jobturn.specs.Steps as step'
use Rattle.jobturn.specs.Turned.{remains, StandsFor, Refuses, Surplus, Turned, MayTurn}
use Rattle.jobturn.specs.declared.EndFigures.{EndFigures}
use Rattle.jobturn.specs.Ends.{End}
use Rattle.jobturn.specs.Ends as end
use Rattle.job.specs.Run.{StandsReached, Left, Refused, Tells, MayRun, outcome_as, Stopped, Runs, Ended, unopened_at, Room, Ran}

-- begun with s and σ, the calls up to `at` lead to a model, for which what remains is what remained at the start
pub record Going (P N W : ℕ) (s : Session) (σ : Storage) (job : List ℕ) (start : ℕ) (s' : Session) (σ' : Storage) (at n : ℕ) : Type 0 where
  pub model : Model
  pub stands : StandsFor P N W s' σ' model
  pub same : remains P N W job start 3 initial ≡ remains P N W job at n model
  pub frame : Frame P N s.guide.written s'.guide.written σ σ'

-- where the loop stands: so for every P and V for which s and σ are a fresh session
pub record Running (s : Session) (σ : Storage) (job : List ℕ) (start : ℕ) (s' : Session) (σ' : Storage) (at n : ℕ) (a b : List ℕ) : Type 0 where
  pub inside : at ≤ length job
  pub low : n ≤ at + 3
  pub stands : (P N : ℕ) → 1 ≤ P → Rep P N initial s σ → Going P N (length σ.pool) s σ job start s' σ' at n
  pub into : Beyond (length job / 2 + 4) a b

-- a turn's frame, for the P and V for which the session before it stands
module _ {P N W : ℕ} {s : Session} {σ : Storage} {job : List ℕ} {start : ℕ} {s' : Session} {σ' : Storage} {at n : ℕ} (g : Going P N W s σ job start s' σ' at n) where
  frame_on : (t : Session) (τ : Storage) → Frame s'.guide.p s'.guide.v s'.guide.written t.guide.written σ' τ
      → Frame P N s.guide.written t.guide.written σ τ
  frame_on t τ f =
      let h = g.stands.rep.core.guided in
      frame_trans P N s.guide.written s'.guide.written t.guide.written σ σ' τ g.frame
      (subst (λ (x : ℕ). Frame x N s'.guide.written t.guide.written σ' τ) h.p_is
      (subst (λ (x : ℕ). Frame s'.guide.p x s'.guide.written t.guide.written σ' τ) h.v_is f))

module _ {s : Session} {σ : Storage} {job : List ℕ} {room start : ℕ} (m : MayRun s σ job room start) where
  pub running_begins : (a : List ℕ) → Running s σ job start s σ start 3 a a
  running_begins a =
      record {
        inside = m.inside;
        low = omega arith;
        stands = λ P N hP r.
            record {
              model = initial;
              stands = record { rep = r; between = between_initial P N (length σ.pool) hP; pool = refl };
              same = refl;
              frame = frame_refl P N s.guide.written σ;
            };
        into = beyond_refl _ a;
      }

  module _ {s' : Session} {σ' : Storage} {at n : ℕ} {a b : List ℕ} (r : Running s σ job start s' σ' at n a b) where
    pub running_may : (room' : ℕ) → room' ≡ room → MayTurn s' σ' job room' at n
    running_may room' e =
        let h = r.stands m.parallelism m.places m.positive m.rep in
        record {
          asks = record { parallelism = m.parallelism; places = m.places; model = h.model; rep = h.stands.rep; between = rw h.stands.pool h.stands.between };
          inside = r.inside;
          half = rw e m.half;
          low = omega (arith, r.low, r.inside, m.short);
        }

    module _ {t : Session} {τ : Storage} {x : Step} {b' : List ℕ} (d : Turned job at n s' x t σ' τ b b') where
      numbers : Beyond (length job / 2 + 4) a b'
      numbers = beyond_trans (length job / 2 + 4) (length job / 2 + 4) a b b' (omega arith) r.into d.into

      pub runs_on : (next i : ℕ) → x ≡ step'.On next i → Running s σ job start t τ next i a b'
      runs_on next i e =
          let d' = subst (λ (y : Step). Turned job at n s' y t σ' τ b b') e d in
          record {
            inside = d'.further.1.0;
            low = omega (arith, d'.further, r.low);
            stands = λ P N hP q.
                let h = r.stands P N hP q in
                let g = d'.tells P N (length σ.pool) h.model hP h.stands in
                record {
                  model = step P N (length σ.pool) g.0 h.model;
                  stands = g.1.0.stands;
                  same = h.same ∙ g.1.1;
                  frame = frame_on h t τ d'.frame;
                };
            into = numbers;
          }

      pub falls : (next i : ℕ) → x ≡ step'.On next i → (at < next) × (next ≤ length job)
      falls next i e = let d' = subst (λ (y : Step). Turned job at n s' y t σ' τ b b') e d in (d'.further.0, d'.further.1.0)

      pub runs_ended : (e : End) → x ≡ step'.Ended e → Runs s σ job start e t τ a b'
      runs_ended (end.Finished f) e =
          let d' = subst (λ (y : Step). Turned job at n s' y t σ' τ b b') e d in
          record {
            tells = λ P N hP q.
                let h = r.stands P N hP q in
                let g = d'.tells P N (length σ.pool) h.model hP h.stands in
                record {
                  model = step P N (length σ.pool) calls.final h.model;
                  stands = g.final.stands;
                  is = h.same ∙ g.is;
                  frame = frame_on h t τ d'.frame;
                  figures = g.figures;
                };
            low = tt;
            into = numbers;
          }
      runs_ended (end.Rejected i code) e =
          let d' = subst (λ (y : Step). Turned job at n s' y t σ' τ b b') e d in
          record {
            tells = λ P N hP q.
                let h = r.stands P N hP q in
                stopped i code P N h d'.frame (d'.tells P N (length σ.pool) h.model hP h.stands);
            low = (omega (arith, d'.further, r.low, r.inside, m.short), d'.further.1);
            into = numbers;
          }
        where
          stopped : (i code P N : ℕ) (h : Going P N (length σ.pool) s σ job start s' σ' at n)
              → Frame s'.guide.p s'.guide.v s'.guide.written t.guide.written σ' τ
              → Refuses h.model s' t σ' τ i code (remains P N (length σ.pool) job at n h.model)
              ⊎ Surplus P N (length σ.pool) h.model t τ i code (remains P N (length σ.pool) job at n h.model)
              → Stopped P N (length σ.pool) s t σ τ (end.Rejected i code) (remains P N (length σ.pool) job start 3 initial)
          stopped i code P N h f (inl y) =
              record {
                model = h.model;
                stands = subst (λ (z : Session). StandsFor P N (length σ.pool) z τ h.model) (sym y.session)
                    (subst (λ (z : Storage). StandsFor P N (length σ.pool) s' z h.model) (sym y.storage) h.stands);
                is = h.same ∙ y.is;
                frame = frame_on h t τ f;
                figures = tt;
              }
          stopped i code P N h f (inr y) =
              record {
                model = step P N (length σ.pool) calls.final h.model;
                stands = y.final.stands;
                is = h.same ∙ y.is;
                frame = frame_on h t τ f;
                figures = tt;
              }

-- a job too long, one with a bad head, one that opening refuses, and one that is run
pub ran_long : (job : List ℕ) (r : Ended) → r ≡ unopened_at 1 refusal.long_job → (σ : Storage) (a : List ℕ) → most_job_bytes < length job
    → Ran job r.end r.session σ σ a a
unfolding outcome reached
ran_long job r e σ a h =
    let n : reached job ≡ none = rw (reached, lt-ltb most_job_bytes (length job) h) in
    subst (λ (x : Ended). Ran job x.end x.session σ σ a a) (sym e)
    (record {
      tells = record { is = rw (outcome, lt-ltb most_job_bytes (length job) h); left = subst (λ (x : Option Reached). Left x (first_session 0 0) σ σ) (sym n) (refl, refl) };
      low = (omega arith, omega arith);
      into = beyond_refl _ a;
    })

module _ (job : List ℕ) (short : length job ≤ most_job_bytes) where
  abbrev whole : Outcome × Option Reached
  whole = (outcome job, reached job)

  not_long : whole ≡ whole_run (lines job) (ragged job)
  unfolding outcome reached
  not_long = rw (outcome, reached, le-ltb most_job_bytes (length job) short)

  -- no session was opened
  unopened : (s : Session) → s ≡ first_session 0 0 → (σ : Storage) (n code : ℕ) → whole ≡ (rejected n code, none) → Refused job s σ σ n code
  unopened s f σ n code q =
      record {
        is = ap (λ (x : Outcome × Option Reached). x.0) q;
        left = subst (λ (x : Option Reached). Left x s σ σ) (sym (ap (λ (x : Outcome × Option Reached). x.1) q)) (refl, f);
      }

  pub ran_malformed : (n : ℕ) (h : Head) (a b : List ℕ) → HeadRead job h a b → length b ≡ length a → h ≡ head.Malformed n
      → (x : Ended) → x ≡ unopened_at n refusal.malformed → (σ : Storage) → Ran job x.end x.session σ σ a b
  unfolding opens
  ran_malformed n h a b r l e x f σ =
      let r' = subst (λ (y : Head). HeadRead job y a b) e r in
      subst (λ (y : Ended). Ran job y.end y.session σ σ a b) (sym f)
      (record {
        tells = unopened (first_session 0 0) refl σ n refusal.malformed (not_long ∙ head_runs r' (ragged job));
        low = (omega (arith, r'.starts), omega arith);
        into = beyond_drop (length job / 2) (length job / 2 + 4) a b (omega arith) l r'.into;
      })

  module _ (P N start : ℕ) (h : Head) (a b : List ℕ) (r : HeadRead job h a b) (e : h ≡ head.Sizes P N start) where
    sized : HeadRead job (head.Sizes P N start) a b
    sized = subst (λ (x : Head). HeadRead job x a b) e r

    -- what opening leaves of the run
    opened : ℕ → Outcome × Option Reached
    opened x = (
      on_line 2 x (run_lines P N job_pool 3 nothing (lines (drop start job)) (ragged job) initial),
      elim (eqb x 0) [
        | true ↦ some (record { parallelism = P; places = N; model = reached_lines P N job_pool nothing (lines (drop start job)) initial })
        | false ↦ none
      ],
    )

    opening_next : whole ≡ opened (verdict (check_open P N job_sizes))
    unfolding opened opens
    opening_next = not_long ∙ head_runs sized (ragged job)

    module _ (number : ℕ) (s : Session) (σ τ : Storage) (room : ℕ) (R : Room σ room) (o : Opens P N number s σ τ) where
      number_is : number ≡ verdict (check_open P N job_sizes)
      unfolding job_sizes
      number_is = o.number ∙ rw (R.spans, R.order, R.tally, R.rows, R.marks, R.locations, R.waiting)

      pub ran_refused : (number ≡ 0 → ⊥) → Ran job (end.Rejected 2 number) s σ τ a b
      unfolding on_line opened
      ran_refused z =
          let q : opened number ≡ (rejected 2 number, none) = rw (on_line, ne_eqb number 0 z) in
          record {
            tells = subst (λ (x : Storage). Refused job s σ x 2 number) (sym (o.refused z))
                (unopened s (o.unopened z) σ 2 number (opening_next ∙ ap opened (sym number_is) ∙ q));
            low = (omega arith, rw number_is (open_code P N job_sizes).0);
            into = subst (λ (x : List ℕ). Beyond (length job / 2 + 4) a x) (sym sized.into) (beyond_refl _ a);
          }

      module _ (z : number ≡ 0) where
        positive : 1 ≤ P
        positive = (enough_of P N σ (sym z ∙ o.number)).one

        pub may_run : (room' : ℕ) → room' ≡ room → MayRun s τ job room' start
        may_run room' q =
            record {
              parallelism = P;
              places = N;
              positive = positive;
              rep = o.rep z;
              inside = sized.starts.1.0;
              half = omega (arith, R.into);
              short = short;
            }

        -- the run of the calls is the job's
        runs_whole : whole ≡ ((remains P N job_pool job start 3 initial).0, some (record { parallelism = P; places = N; model = (remains P N job_pool job start 3 initial).1 }))
        unfolding remains on_line opened
        runs_whole =
            let q : eqb number 0 ≡ true = eq-eqb number 0 z in
            let there : Option Reached = some (record { parallelism = P; places = N; model = reached_lines P N job_pool nothing (lines (drop start job)) initial }) in
            opening_next ∙ ap opened (sym number_is) ∙ rw (on_line, q)
            (ap (λ (x : Bool). (run_lines P N job_pool 3 nothing (lines (drop start job)) x initial, there)) (sym sized.starts.1.1))

        standing : (x : End) (t : Session) (υ : Storage) (u : Stopped P N job_pool s t τ υ x (remains P N job_pool job start 3 initial))
            → StandsReached (record { parallelism = P; places = N; model = u.model }) t σ υ
        unfolding first_guide
        standing x t υ u =
            let w : s.guide.written ≡ 0 = ap (λ (y : Session). y.guide.written) (o.session z) in
            record {
              stands = u.stands;
              frame = frame_trans P N 0 0 t.guide.written σ τ υ (o.frame z)
                  (subst (λ (y : ℕ). Frame P N y t.guide.written τ υ) w u.frame);
            }

        module _ (x : End) (t : Session) (υ : Storage) (u : Stopped P N job_pool s t τ υ x (remains P N job_pool job start 3 initial)) where
          abbrev there : Reached
          there = record { parallelism = P; places = N; model = u.model }

          is_reached : reached job ≡ some there
          is_reached =
              ap (λ (y : Outcome × Option Reached). y.1) runs_whole
              ∙ ap (λ (y : Run). some (record { parallelism = P; places = N; model = y.1 })) u.is

          is_outcome : outcome job ≡ outcome_as x P u.model
          is_outcome = ap (λ (y : Outcome × Option Reached). y.0) runs_whole ∙ ap (λ (y : Run). y.0) u.is

        told : (x : End) (t : Session) (υ : Storage) → Stopped P N job_pool s t τ υ x (remains P N job_pool job start 3 initial) → Tells job t σ υ x
        told (end.Rejected i code) t υ u =
            record {
              is = is_outcome (end.Rejected i code) t υ u;
              left = subst (λ (y : Option Reached). Left y t σ υ) (sym (is_reached (end.Rejected i code) t υ u)) (standing (end.Rejected i code) t υ u);
            }
        told (end.Finished f) t υ u =
            record {
              last = there (end.Finished f) t υ u;
              reached_is = is_reached (end.Finished f) t υ u;
              is = is_outcome (end.Finished f) t υ u;
              standing = standing (end.Finished f) t υ u;
              figures = u.figures;
            }

        pub ran_all : (x : End) (t : Session) (υ : Storage) (b' : List ℕ) → Runs s τ job start x t υ b b' → length τ.pool ≡ length σ.pool → Ran job x t σ υ a b'
        ran_all x t υ b' u l =
            let w : length τ.pool ≡ job_pool = l ∙ R.pool in
            record {
              tells = told x t υ (subst (λ (y : ℕ). Stopped P N y s t τ υ x (remains P N y job start 3 initial)) w (u.tells P N positive (o.rep z)));
              low = u.low;
              into = subst (λ (y : List ℕ). Beyond (length job / 2 + 4) y b') sized.into u.into;
            }

-- so a job that is too long, whose head is malformed or that opening refuses has written nothing
pub nothing_written : {job : List ℕ} {n code : ℕ} {s : Session} {σ σ' : Storage} {a b : List ℕ} → reached job ≡ none → Ran job (end.Rejected n code) s σ σ' a b → σ' ≡ σ
nothing_written {job} {n} {code} {s} {σ} {σ'} {a} {b} e r = (subst (λ (x : Option Reached). Left x s σ σ') e r.tells.left).0

-- a wrong program shut out: a job opened with another P or V. The session and the storage stand for the model reached with the P and V of
-- the job's first two lines, and the session's are these
pub own_numbers : {job : List ℕ} {f : EndFigures} {s : Session} {σ σ' : Storage} {a b : List ℕ} → Ran job (end.Finished f) s σ σ' a b
    → (r : Reached) × ((reached job ≡ some r) × (Rep r.parallelism r.places r.model s σ' × ((s.guide.v ≡ r.places) × (s.guide.p ≡ r.parallelism))))
own_numbers r =
    let c = r.tells in
    let g = c.standing.stands.rep in
    (c.last, (c.reached_is, (g, (g.core.guided.v_is, g.core.guided.p_is))))

-- every slice keeps its length
pub record Lengths (σ τ : Storage) (a b : List ℕ) : Type 0 where
  pub spans : length τ.spans ≡ length σ.spans
  pub order : length τ.order ≡ length σ.order
  pub tally : length τ.tally ≡ length σ.tally
  pub rows : length τ.rows ≡ length σ.rows
  pub marks : length τ.marks ≡ length σ.marks
  pub locations : length τ.locations ≡ length σ.locations
  pub waiting : length τ.waiting ≡ length σ.waiting
  pub pool : length τ.pool ≡ length σ.pool
  pub into : length b ≡ length a

pub lengths_refl : (σ : Storage) (a : List ℕ) → Lengths σ σ a a
lengths_refl σ a =
    record { spans = refl; order = refl; tally = refl; rows = refl; marks = refl; locations = refl; waiting = refl; pool = refl; into = refl }

pub lengths_trans : {σ τ υ : Storage} {a b c : List ℕ} → Lengths σ τ a b → Lengths τ υ b c → Lengths σ υ a c
lengths_trans x y =
    record {
      spans = y.spans ∙ x.spans;
      order = y.order ∙ x.order;
      tally = y.tally ∙ x.tally;
      rows = y.rows ∙ x.rows;
      marks = y.marks ∙ x.marks;
      locations = y.locations ∙ x.locations;
      waiting = y.waiting ∙ x.waiting;
      pool = y.pool ∙ x.pool;
      into = y.into ∙ x.into;
    }
