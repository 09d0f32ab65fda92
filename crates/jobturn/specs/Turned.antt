-- What a turn of a job promises: where session and storage stand for a model, what remains of the job for that model is what the answer
-- tells. An accepted call leaves them standing for the model after it, a refused one leaves them as they were. Assumes nothing.
use Rattle.std.specs.Prelude.{List, ◌⊎◌, ◌≡◌, ℕ, ◌+◌, ◌*◌, ◌/◌, ◌^◌, ◌≤◌, ◌<◌, length, drop}
use Rattle.rules.specs.Guide.{tally}
use Rattle.rules.specs.Model.{Model}
use Rattle.rules.specs.Calls as calls
use Rattle.rules.specs.Calls.{Call, answer, step}
use Rattle.rules.specs.Job.{nothing, finished, rejected, lines, ragged}
use Rattle.rules.specs.Refusals as refusal
use Rattle.rules.specs.Summary as rule
use Rattle.rules.specs.Summary.{median}
use Rattle.laws.specs.Accepted.{Code}
use Rattle.laws.specs.Sound.{Between}
use Rattle.session.specs.declared.Session.{Session}
use Rattle.session.specs.Storage.{Storage, Beyond, Frame}
use Rattle.session.specs.Rep.{Rep}
use Rattle.admitting.specs.Promise.{Asks}
use Rattle.sorter.specs.FinalWork.{Concludes}
use Rattle.jobcalls.specs.Runs.{Run, reads}
use Rattle.jobturn.specs.declared.EndFigures.{EndFigures}
use Rattle.jobturn.specs.Ends as end
use Rattle.jobturn.specs.Steps.{Step}
use Rattle.jobturn.specs.Steps as step'

-- what follows a call with this number on line m, the next starting at `next`
pub record AfterCall (number m next : ℕ) (r : Step) : Type 0 where
  pub accepted : number ≡ 0 → r ≡ step'.On next (m + 1)
  pub refused : (number ≡ 0 → ⊥) → r ≡ step'.Ended (end.Rejected m number)

-- what follows final with this number on line m, whose line ends before `next`, in a job of `long` bytes
pub record AfterFinal (number m next long : ℕ) (f : EndFigures) (r : Step) : Type 0 where
  pub refused : (number ≡ 0 → ⊥) → r ≡ step'.Ended (end.Rejected m number)
  pub surplus : number ≡ 0 → (next ≡ long → ⊥) → r ≡ step'.Ended (end.Rejected (m + 1) refusal.malformed)
  pub last : number ≡ 0 → next ≡ long → r ≡ step'.Ended (end.Finished f)

-- the numbers of a finished job, by the session after final and the figures of its summary
abbrev pub end_figures : Session → rule.Figures → EndFigures
end_figures s f = record { parallelism = s.guide.p; written = s.guide.written; places = s.places; median = f.median }

-- final was made, and what follows it
pub record FinalMade (m next long : ℕ) (s : Session) (r : Step) (s' : Session) (σ σ' : Storage) : Type 0 where
  pub number : ℕ
  pub figures : rule.Figures
  pub concludes : Concludes number s s' σ σ' figures
  pub follows : AfterFinal number m next long (end_figures s' figures) r

-- what the rules make of the job from `at` on, which is line n, for the model k: how it ends, and the model that it reaches
unfoldable pub remains : ℕ → ℕ → ℕ → List ℕ → ℕ → ℕ → Model → Run
remains P N W job at n k = reads P N W n nothing (lines (drop at job)) (ragged (drop at job)) k

-- a session and storage stand for a model k, reached by calls
pub record StandsFor (P N W : ℕ) (s : Session) (σ : Storage) (k : Model) : Type 0 where
  pub rep : Rep P N k s σ
  pub between : Between P N W k
  pub pool : length σ.pool ≡ W

-- the call c was accepted: session and storage stand for the model after it
pub record Accepts (P N W : ℕ) (c : Call) (k : Model) (s : Session) (σ : Storage) : Type 0 where
  pub accepted : answer N W c k ≡ 0
  pub stands : StandsFor P N W s σ (step P N W c k)

-- a call that is malformed or was refused: session and storage are as they were
pub record Refuses (k : Model) (s s' : Session) (σ σ' : Storage) (m code : ℕ) (o : Run) : Type 0 where
  pub session : s' ≡ s
  pub storage : σ' ≡ σ
  pub is : o ≡ (rejected m code, k)

-- text after final, which was accepted
pub record Surplus (P N W : ℕ) (k : Model) (s' : Session) (σ' : Storage) (m code : ℕ) (o : Run) : Type 0 where
  pub final : Accepts P N W calls.final k s' σ'
  pub number : code ≡ refusal.malformed
  pub is : o ≡ (rejected m code, step P N W calls.final k)

-- the numbers that the end of a job tells: P, and of its model the order's length, the places that final fixed and the median of its summary
pub record FiguresOf (P : ℕ) (k : Model) (f : EndFigures) : Type 0 where
  pub parallelism_is : f.parallelism ≡ P
  pub written_is : f.written ≡ length k.guide.order
  pub places_is : f.places ≡ k.recorded.places
  pub median_is : f.median ≡ median (tally P k.guide.order)

-- final was accepted, and nothing follows it
pub record Finishes (P N W : ℕ) (k : Model) (s' : Session) (σ' : Storage) (f : EndFigures) (o : Run) : Type 0 where
  pub final : Accepts P N W calls.final k s' σ'
  pub figures : FiguresOf P (step P N W calls.final k) f
  pub is : o ≡ (finished P (step P N W calls.final k), step P N W calls.final k)

-- what remained, o, is what the answer tells, with session and storage before and after it
abbrev pub Tells : ℕ → ℕ → ℕ → List ℕ → Model → Session → Session → Storage → Storage → Step → Run → Type 0
Tells P N W job k s s' σ σ' (step'.Ended (end.Rejected m code)) o = Refuses k s s' σ σ' m code o ⊎ Surplus P N W k s' σ' m code o
Tells P N W job k s s' σ σ' (step'.Ended (end.Finished f)) o = Finishes P N W k s' σ' f o
Tells P N W job k s s' σ σ' (step'.On at n) o =
    (c : Call) × (Accepts P N W c k s' σ' × (o ≡ remains P N W job at n (step P N W c k)))

-- the next call lies further on, within the job, and a line has a byte at least; a refusal's line and number are small
abbrev pub Further : List ℕ → ℕ → ℕ → Step → Type 0
Further job at n (step'.Ended (end.Rejected m code)) = (m ≤ n + 3) × Code code
Further job at n (step'.Ended (end.Finished f)) = Unit {0}
Further job at n (step'.On next m) = (at < next) × ((next ≤ length job) × (at + m ≤ next + n))

pub record MayTurn (s : Session) (σ : Storage) (job : List ℕ) (room at n : ℕ) : Type 0 where
  pub asks : Asks s σ
  pub inside : at ≤ length job
  pub half : length job + 8 ≤ 2 * room
  pub low : n < 2 ^ 32

-- a and b are the storage for numbers before and after: the job's lists have at most half as many numbers as it has bytes, and an encoded add
-- has four beside them
pub record Turned (job : List ℕ) (at n : ℕ) (s : Session) (r : Step) (s' : Session) (σ σ' : Storage) (a b : List ℕ) : Type 0 where
  pub tells : (P N W : ℕ) (k : Model) → 1 ≤ P → StandsFor P N W s σ k → Tells P N W job k s s' σ σ' r (remains P N W job at n k)
  pub further : Further job at n r
  pub frame : Frame s.guide.p s.guide.v s.guide.written s'.guide.written σ σ'
  pub into : Beyond (length job / 2 + 4) a b
