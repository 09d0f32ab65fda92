-- Document 01, "Registrar and sorter": the model of a session (the paper's clerk), fed only P, V, W and each call's arguments.
-- Here: what it keeps, and what an accepted set, add, flush and final do. The checks are in Checks, the calls with their refusals in
-- Calls. V is written N. The watermark stands for the high mark: it is the mark plus 1, or 0 where there is none. Assumes nothing.
use Rattle.std.specs.Prelude.{List, [], ◌∷◌, ◌++◌, Bool, true, false, ◌||◌, ℕ, zero, suc, ◌+◌, ◌-◌, max, length, get_or, set as set_at, ltb, eqb}
use Rattle.std.proofs.Math.Option.{Option, some, none}
use Rattle.rules.specs.Guide.{Loc, origin, Guide, fresh, flush as flush_guide, Placed, place}

-- a registration: its lane (document 02, M-104), the places that it reads and those that it writes
pub record Reg : Type 0 where
  pub lane : ℕ
  pub ins : List ℕ
  pub outs : List ℕ

-- an output of a placed registration, with its location
pub record Located : Type 0 where
  pub at : ℕ
  pub loc : Loc

-- a registration that waits, and the input under which it does: its greatest
pub record Pending : Type 0 where
  pub under : ℕ
  pub reg : ℕ

-- what the record has beside what the order says: `written` of each accepted registration's row, and the places that final fixes
pub record Recorded : Type 0 where
  pub written : List ℕ
  pub places : ℕ

-- the accepted adds, the set places, the locations of what is placed, who waits (by place, then registration), the window with its
-- entries and the order, plain flushes done, whether closed, and the record
pub record Model : Type 0 where
  pub adds : List Reg
  pub sets : List ℕ
  pub located : List Located
  pub pending : List Pending
  pub guide : Guide
  pub flushes : ℕ
  pub closed : Bool
  pub recorded : Recorded

-- a fresh session's
unfoldable pub initial : Model
initial =
    record { adds = []; sets = []; located = []; pending = []; guide = fresh; flushes = 0; closed = false; recorded = record { written = []; places = 0 } }

unfoldable pub member : ℕ → List ℕ → Bool
member x [] = false
member x (y ∷ ys) = eqb x y || member x ys

unfoldable pub marked : ℕ → List Located → Bool
marked x [] = false
marked x (y ∷ ys) = eqb x y.at || marked x ys

-- a place is tracked once an accepted set names it or a registration writing it is placed
unfoldable pub tracked : Model → ℕ → Bool
tracked k x = member x k.sets || marked x k.located

-- the first untracked place from n on, looking at no more than f places
unfoldable pub run_from : (ℕ → Bool) → ℕ → ℕ → ℕ
run_from t zero n = n
run_from t (suc f) n = elim (t n) [ true ↦ run_from t f (suc n) | false ↦ n ]

-- places 0 to watermark-1 are all tracked: the high mark plus 1, or 0 for none
unfoldable pub watermark : ℕ → Model → ℕ
watermark N k = run_from (tracked k) N 0

unfoldable pub greatest : List ℕ → ℕ
greatest [] = 0
greatest (x ∷ xs) = max x (greatest xs)

-- no inputs, or the greatest at or below the high mark
unfoldable pub ready : ℕ → List ℕ → Bool
ready m [] = true
ready m (x ∷ xs) = ltb (greatest (x ∷ xs)) m

-- the location of a place; a set one has (0,0)
unfoldable pub loc_of : List Located → ℕ → Loc
unfolding origin
loc_of [] x = origin
loc_of (y ∷ ys) x = elim (eqb x y.at) [ true ↦ y.loc | false ↦ loc_of ys x ]

-- the greater location: by span, then position
unfoldable pub later : Loc → Loc → Loc
later l m =
    elim (ltb l.span m.span)
    [ true ↦ m | false ↦ elim (ltb m.span l.span) [ true ↦ l | false ↦ elim (ltb l.pos m.pos) [ true ↦ m | false ↦ l ] ] ]

unfoldable pub top : List Located → List ℕ → Loc
unfolding origin
top ls [] = origin
top ls (x ∷ xs) = later (loc_of ls x) (top ls xs)

-- the greatest location among the inputs, absent where there are none
unfoldable pub after : List Located → List ℕ → Option Loc
after ls [] = none
after ls (x ∷ xs) = some (top ls (x ∷ xs))

-- the outputs take the new location
unfoldable pub spotted : Loc → List ℕ → List Located
spotted l [] = []
spotted l (x ∷ xs) = record { at = x; loc = l } ∷ spotted l xs

no_reg : Reg
no_reg = record { lane = 0; ins = []; outs = [] }

-- the accepted add numbered r
unfoldable pub reg_of : Model → ℕ → Reg
unfolding no_reg
reg_of k r = get_or k.adds r no_reg

-- placing registration r, the own add of c registrations having ended
unfoldable pub place_one : ℕ → ℕ → ℕ → Model → Model
place_one P c r k =
    let p : Placed = place P (after k.located (reg_of k r).ins) (record { value = r; added = r; accepted = c; lane = (reg_of k r).lane }) k.guide in
    record {
      adds = k.adds;
      sets = k.sets;
      located = k.located ++ spotted p.loc (reg_of k r).outs;
      pending = k.pending;
      guide = p.guide;
      flushes = k.flushes;
      closed = k.closed;
      recorded = k.recorded;
    }

-- the waiting registrations below m, which stand first, and the others
unfoldable pub due : ℕ → List Pending → List ℕ
due m [] = []
due m (w ∷ ws) = elim (ltb w.under m) [ true ↦ w.reg ∷ due m ws | false ↦ [] ]

unfoldable pub left : ℕ → List Pending → List Pending
left m [] = []
left m (w ∷ ws) = elim (ltb w.under m) [ true ↦ left m ws | false ↦ w ∷ ws ]

-- a registration waits behind those whose greatest input is not greater than its own
unfoldable pub queue : Pending → List Pending → List Pending
queue w [] = w ∷ []
queue w (v ∷ vs) = elim (ltb w.under v.under) [ true ↦ w ∷ (v ∷ vs) | false ↦ v ∷ queue w vs ]

unfoldable pub keep : List Pending → Model → Model
keep ws k =
    record { adds = k.adds; sets = k.sets; located = k.located; pending = ws; guide = k.guide; flushes = k.flushes; closed = k.closed; recorded = k.recorded }

-- a list pushed on a stack, whose top stands first
unfoldable pub push : List ℕ → List ℕ → List ℕ
push [] st = st
push (r ∷ rs) st = push rs (r ∷ st)

-- what now comes off, by ascending place, then registration; and the model without it
unfoldable pub off : ℕ → Model → List ℕ
off N k = due (watermark N k) k.pending

unfoldable pub rest : ℕ → Model → Model
rest N k = keep (left (watermark N k) k.pending) k

-- the registrations of a stack are placed; what a placing sets off is pushed, so that the last of it is taken first. f bounds the placings
unfoldable pub cascade : ℕ → ℕ → ℕ → ℕ → List ℕ → Model → Model
cascade P N c zero st k = k
cascade P N c (suc f) [] k = k
cascade P N c (suc f) (r ∷ st) k =
    let j : Model = place_one P c r k in
    cascade P N c f (push (off N j) st) (rest N j)

-- no more can be placed than stand on the stack or wait
unfoldable pub settle_all : ℕ → ℕ → ℕ → List ℕ → Model → Model
settle_all P N c st k = cascade P N c (length st + length k.pending) st k

-- set: the place is marked; what comes off is placed in that order, each with all that it sets off before the next
unfoldable pub with_set : ℕ → Model → Model
with_set x k =
    record { adds = k.adds; sets = x ∷ k.sets; located = k.located; pending = k.pending; guide = k.guide; flushes = k.flushes; closed = k.closed; recorded = k.recorded }

unfoldable pub do_set : ℕ → ℕ → ℕ → Model → Model
do_set P N x k = settle_all P N (length k.adds) (off N (with_set x k)) (rest N (with_set x k))

-- add: the next number; it is placed, with what it sets off, or waits
unfoldable pub with_add : Reg → Model → Model
with_add a k =
    record {
      adds = k.adds ++ (a ∷ []);
      sets = k.sets;
      located = k.located;
      pending = k.pending;
      guide = k.guide;
      flushes = k.flushes;
      closed = k.closed;
      recorded = k.recorded;
    }

unfoldable pub do_add : ℕ → ℕ → Reg → Model → Model
do_add P N a k =
    elim (ready (watermark N k) a.ins) [
      | true ↦ settle_all P N (length k.adds) (length k.adds ∷ []) (with_add a k)
      | false ↦ keep (queue (record { under = greatest a.ins; reg = length k.adds }) k.pending) (with_add a k)
    ]

-- the record's part of a model
unfoldable pub with_record : Recorded → Model → Model
with_record d k =
    record { adds = k.adds; sets = k.sets; located = k.located; pending = k.pending; guide = k.guide; flushes = k.flushes; closed = k.closed; recorded = d }

-- at the end of add the row's written becomes the order's length, also for one that waits
unfoldable pub note_add : Model → Model
note_add k =
    with_record (record { written = k.recorded.written ++ (length k.guide.order ∷ []); places = k.recorded.places }) k

-- flush and final store it in the row of the latest registration, if any
unfoldable pub note_flush : Model → Model
note_flush k =
    with_record (record { written = set_at k.recorded.written (length k.recorded.written - 1) (length k.guide.order); places = k.recorded.places }) k

-- final fixes places: the high mark plus 1, or 0
unfoldable pub note_final : ℕ → Model → Model
note_final N k = with_record (record { written = k.recorded.written; places = watermark N k }) k

-- and registrations, by closing: no call adds one afterwards. Before it they are 0
abbrev pub registrations : Model → ℕ
registrations k = elim k.closed [ true ↦ length k.adds | false ↦ 0 ]

-- all 32 spans are released; the count of plain flushes is f, and c says whether it is closed
unfoldable pub with_flush : ℕ → ℕ → Bool → Model → Model
with_flush P f c k =
    record {
      adds = k.adds;
      sets = k.sets;
      located = k.located;
      pending = k.pending;
      guide = flush_guide P k.guide;
      flushes = f;
      closed = c;
      recorded = k.recorded;
    }

unfoldable pub do_flush : ℕ → Model → Model
do_flush P k = note_flush (with_flush P (suc k.flushes) k.closed k)

unfoldable pub do_final : ℕ → ℕ → Model → Model
do_final P N k = note_final N (note_flush (with_flush P k.flushes true k))
