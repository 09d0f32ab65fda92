-- What a recorded run is compared by: after its calls the definitions' state, shown as the oracle shows its own (oracle/FORMAT.md). A
-- mark is shown as the watermark, which is 1 more, or 0 for none. Assumes nothing.
use Rattle.std.specs.Prelude.{List, [], ◌∷◌, ◌++◌, map, true, false, ℕ, zero, suc, length, eqb}
use Rattle.std.proofs.Math.Option.{Option, some}
use Rattle.std.specs.Float.{binary32}
use Rattle.std.specs.Float.Ieee.{to_bits}
use Rattle.rules.specs.Guide.{Loc, Item, Entry, Guide, tally}
use Rattle.rules.specs.Model.{Model, initial, watermark, loc_of, registrations}
use Rattle.rules.specs.Calls.{Call, answer, step, run}
use Rattle.rules.specs.Alone.{Alone, alone, Request, push, pushed, flush, reply, location, serve_step, serve_all}
use Rattle.rules.specs.Summary.{Figures}
use Rattle.rules.specs.Record.{Row, mark_of, row_of, summary}
use Rattle.rules.specs.Limits.{job_pool}

-- a run: what the definitions give and what the oracle answered, each as a list of tables
pub record Compared : Type 0 where
  pub got : List (List (List ℕ))
  pub want : List (List (List ℕ))

unfoldable pub at : ℕ → ℕ → Option Loc
at s q = some (record { span = s; pos = q })

unfoldable pub item : ℕ → ℕ → ℕ → Item
item v a c = pushed v a c

-- the oracle knows no lanes: an add with lane 0
abbrev pub add : List ℕ → List ℕ → Call
add ins outs = Call.add 0 ins outs

-- without the zeros at its end
unfoldable pub keep_zero : ℕ → List ℕ → List ℕ
keep_zero x [] = elim (eqb x 0) [ true ↦ [] | false ↦ x ∷ [] ]
keep_zero x (y ∷ ys) = x ∷ y ∷ ys

unfoldable pub trimmed : List ℕ → List ℕ
trimmed [] = []
trimmed (x ∷ xs) = keep_zero x (trimmed xs)

-- span 0's number, and the lengths of the spans up to the last that is not empty
unfoldable pub window : Guide → List ℕ
window g = g.first ∷ trimmed (map length g.spans)

unfoldable pub entry : Entry → List ℕ
entry e = e.item.value ∷ e.item.added ∷ e.item.accepted ∷ e.parallelism ∷ []

unfoldable pub held_item : Item → List ℕ
held_item e = e.value ∷ e.added ∷ e.accepted ∷ []

unfoldable pub joined : List (List Item) → List Item
joined [] = []
joined (s ∷ ss) = s ++ joined ss

-- a registration's row: added, accepted, written, order index and parallelism
unfoldable pub row : Row → List ℕ
row w = w.added ∷ w.accepted ∷ w.written ∷ w.index ∷ w.parallelism ∷ []

-- the rows of n registrations from r on
unfoldable pub rows_from : Model → ℕ → ℕ → List (List ℕ)
rows_from k zero r = []
rows_from k (suc n) r = row (row_of k r) ∷ rows_from k n (suc r)

-- a tracked place's mark and location
unfoldable pub place_row : Model → ℕ → List (List ℕ)
place_row k x = elim (eqb (mark_of k x) 0) [ true ↦ [] | false ↦ (x ∷ mark_of k x ∷ (loc_of k.located x).span ∷ (loc_of k.located x).pos ∷ []) ∷ [] ]

-- those of the f places from x on
unfoldable pub places_from : Model → ℕ → ℕ → List (List ℕ)
places_from k zero x = []
places_from k (suc f) x = place_row k x ++ places_from k f (suc x)

-- after each call: its number, the order's length, the mark and the window
unfoldable pub traced : ℕ → ℕ → List Call → Model → List (List ℕ)
traced P N [] k = []
traced P N (c ∷ cs) k =
    let j : Model = step P N job_pool c k in
    (answer N job_pool c k ∷ length j.guide.order ∷ watermark N j ∷ window j.guide) ∷ traced P N cs j

-- what final gives: the average's 32 bits, the median, how many counts of low parallelisms there are and those up to the last that is
-- not 0, and the same of the sums of thousands
unfoldable pub figured : Figures → List (List ℕ)
figured f =
    (to_bits binary32 f.average ∷ []) ∷ (f.median ∷ []) ∷ (length f.low ∷ trimmed f.low) ∷ (length f.thousands ∷ trimmed f.thousands) ∷ []

-- the counts that final fixed and what it gives, once closed
unfoldable pub closing : ℕ → Model → List (List ℕ)
closing P k = elim k.closed [ true ↦ (registrations k ∷ k.recorded.places ∷ []) ∷ figured (summary P k) | false ↦ [] ]

-- order, rows, places, waiting, tally, held, and what final left
unfoldable pub after_calls : ℕ → ℕ → List Call → List (List (List ℕ))
after_calls P N cs =
    let k : Model = run P N job_pool cs initial in
    map entry k.guide.order
    ∷ rows_from k (length k.recorded.written) 0
    ∷ places_from k N 0
    ∷ map (λ w. w.under ∷ w.reg ∷ []) k.pending
    ∷ (tally P k.guide.order ∷ [])
    ∷ map held_item (joined k.guide.spans)
    ∷ closing P k
    ∷ []

-- the same with the trace before it
unfoldable pub traced_calls : ℕ → ℕ → List Call → List (List (List ℕ))
traced_calls P N cs = traced P N cs initial ∷ after_calls P N cs

-- of the guide alone, after each request: its number, the location that it returned, the order's length and the window
unfoldable pub where_to : ℕ → Request → Alone → List ℕ
where_to P (push after e) a = (location P after e a).span ∷ (location P after e a).pos ∷ []
where_to P flush a = []

unfoldable pub served : ℕ → ℕ → List Request → Alone → List (List ℕ)
served P N [] a = []
served P N (r ∷ rs) a =
    let b : Alone = serve_step P N r a in
    ((reply N r a ∷ where_to P r a) ++ (length b.guide.order ∷ window b.guide)) ∷ served P N rs b

-- order, tally, held
unfoldable pub after_requests : ℕ → ℕ → List Request → List (List (List ℕ))
after_requests P N rs =
    let g : Guide = (serve_all P N rs alone).guide in
    map entry g.order ∷ (tally P g.order ∷ []) ∷ map held_item (joined g.spans) ∷ []

unfoldable pub traced_requests : ℕ → ℕ → List Request → List (List (List ℕ))
traced_requests P N rs = served P N rs alone ∷ after_requests P N rs
