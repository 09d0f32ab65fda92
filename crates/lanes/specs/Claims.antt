-- Document 02, M-104, "Lanes never influence placement": the claims about every list of calls (`SameLists`, `SameRuns`, proved in Lists) and
-- about every two jobs (`SameJobs`, proved in Jobs). Definitions only. Assumes nothing.
use Rattle.std.specs.Prelude.{◌≡◌, true, false, ◌&&◌, ◌≢◌, ℕ, zero, suc, ◌+◌, ◌≤◌, length, get_or, leb}
use mathlib.Core.List.{List, [], ◌∷◌, ◌++◌, map, Memᴰ}
use Rattle.std.proofs.Math.Option.{some, none}
use Rattle.rules.specs.Limits.{most_lane}
use Rattle.rules.specs.Refusals as refusal
use Rattle.rules.specs.Text.{zero_digit, nine_digit}
use Rattle.rules.specs.Guide.{Item, Entry, Guide, tally}
use Rattle.rules.specs.Summary.{median}
use Rattle.rules.specs.Model.{Reg, Model, watermark, registrations, initial}
use Rattle.rules.specs.Calls.{Call, set, add, flush, final, run, answers}
use Rattle.rules.specs.Record.{Row, mark_of, location_of, row_of, summary}
use Rattle.rules.specs.Job.{lines, ragged, after_key, lane_line, line_of}
use Rattle.rules.specs.Listing.{field, line, floor, Reply, listed, refused, reply}
use Rattle.rules.specs.Listing.{word_status, word_entries, word_places, word_floor, word_median, word_order, word_added, word_accepted, word_parallelism, word_written, word_lane}

-- ---- bare: every lane is 0, and all else as it was

unfoldable pub bare_item : Item → Item
bare_item e = record { value = e.value; added = e.added; accepted = e.accepted; lane = 0 }

unfoldable pub bare_entry : Entry → Entry
bare_entry e = record { item = bare_item e.item; parallelism = e.parallelism }

unfoldable pub bare_guide : Guide → Guide
bare_guide g = record { first = g.first; spans = map (map bare_item) g.spans; order = map bare_entry g.order }

unfoldable pub bare_reg : Reg → Reg
bare_reg a = record { lane = 0; ins = a.ins; outs = a.outs }

unfoldable pub bare : Model → Model
bare k =
    record {
      adds = map bare_reg k.adds;
      sets = k.sets;
      located = k.located;
      pending = k.pending;
      guide = bare_guide k.guide;
      flushes = k.flushes;
      closed = k.closed;
      recorded = k.recorded;
    }

unfoldable pub bare_row : Row → Row
bare_row row = record { added = row.added; accepted = row.accepted; written = row.written; index = row.index; parallelism = row.parallelism; lane = 0 }

unfoldable pub bare_call : Call → Call
bare_call (set x) = set x
bare_call (add lane ins outs) = add 0 ins outs
bare_call flush = flush
bare_call final = final

-- ---- lists of calls

-- no lane of the calls is over 255
abbrev pub LowLanes : List Call → Type 0
LowLanes calls = (lane : ℕ) (ins outs : List ℕ) → Memᴰ (add lane ins outs) calls → lane ≤ most_lane

-- numbers, order, tally, mark, window, who waits, rows and record are those of the list with every lane 0, but for the lane fields: of
-- the model k after the calls, and the model j after the same calls with every lane 0, both on a fresh session
pub record Unlabelled (P N W : ℕ) (calls : List Call) (k j : Model) : Type 0 where
  -- the number of each call
  pub numbers : answers P N W calls initial ≡ answers P N W (map bare_call calls) initial
  -- the order, its tally and the mark
  pub order : map bare_entry k.guide.order ≡ j.guide.order
  pub tallied : tally P k.guide.order ≡ tally P j.guide.order
  pub mark : watermark N k ≡ watermark N j
  -- the window: the number of its first span, its lengths and its entries
  pub first : k.guide.first ≡ j.guide.first
  pub lengths : map length k.guide.spans ≡ map length j.guide.spans
  pub window : map (map bare_item) k.guide.spans ≡ j.guide.spans
  -- who waits, in which order and under which place
  pub pending : k.pending ≡ j.pending
  -- each registration's row; of the record also `written`, the places and the registrations
  pub rows : (r : ℕ) → bare_row (row_of k r) ≡ row_of j r
  pub recorded : k.recorded ≡ j.recorded
  pub registered : registrations k ≡ registrations j
  -- and what else there is: the accepted registrations, each place's mark and location, the count of plain flushes, whether it is closed,
  -- and what final gives
  pub adds : map bare_reg k.adds ≡ j.adds
  pub marks : (x : ℕ) → mark_of k x ≡ mark_of j x
  pub locations : (x : ℕ) → location_of k x ≡ location_of j x
  pub flushes : k.flushes ≡ j.flushes
  pub closed : k.closed ≡ j.closed
  pub summaries : summary P k ≡ summary P j
  -- of the models in one
  pub whole : bare k ≡ j

-- the sentence on lists
abbrev pub SameLists : ℕ → ℕ → ℕ → List Call → Type 0
SameLists P N W calls = LowLanes calls → Unlabelled P N W calls (run P N W calls initial) (run P N W (map bare_call calls) initial)

-- and on two lists that differ only in their lanes: the same numbers, and models that are the same but for lanes
abbrev pub SameRuns : ℕ → ℕ → ℕ → List Call → List Call → Type 0
SameRuns P N W calls others =
    map bare_call calls ≡ map bare_call others → LowLanes calls → LowLanes others
    → (answers P N W calls initial ≡ answers P N W others initial) × (bare (run P N W calls initial) ≡ bare (run P N W others initial))

-- ---- jobs

-- two lines: one and the same, or two lane lines, with lanes that are at most 255
pub data SameLine : List ℕ → List ℕ → Type 0 where
  equal : {l : List ℕ} → SameLine l l
  lanes : {l m : List ℕ} {x y : ℕ} → line_of l ≡ lane_line x → line_of m ≡ lane_line y → x ≤ most_lane → y ≤ most_lane → SameLine l m

-- as many lines here as there, each so with the one in its place
pub data SameLines : List (List ℕ) → List (List ℕ) → Type 0 where
  no_more : SameLines [] []
  more : {l m : List ℕ} {ls ms : List (List ℕ)} → SameLine l m → SameLines ls ms → SameLines (l ∷ ls) (m ∷ ms)

-- two jobs that differ only in the numbers of their lanes, those that differ being at most 255. What stands after the last byte 10 is no
-- line: it may differ, but both have some or neither
pub record SameButLanes (job other : List ℕ) : Type 0 where
  pub same_lines : SameLines (lines job) (lines other)
  pub same_end : ragged job ≡ ragged other

-- with `room` listing bytes lent, the job is refused under neither 16 nor 17
pub record NotTooLong (room : ℕ) (job : List ℕ) : Type 0 where
  pub not_16 : (n : ℕ) → reply room job ≢ refused n refusal.long_job
  pub not_17 : (n : ℕ) → reply room job ≢ refused n refusal.long_listing

-- how many digits the bytes start with
unfoldable pub leading_digits : List ℕ → ℕ
leading_digits [] = 0
leading_digits (b ∷ bs) = elim (leb zero_digit b && leb b nine_digit) [ true ↦ suc (leading_digits bs) | false ↦ 0 ]

-- how long the ` lane=L` is that the bytes start with, L being all digits that follow; 0 where they start with none
unfoldable pub lane_length : List ℕ → ℕ
lane_length bs = elim (after_key word_lane bs) [ some rest ↦ length word_lane + leading_digits rest | none ↦ 0 ]

-- each ` lane=L` taken out of the bytes, the first n of which belong to one
unfoldable pub struck_from : ℕ → List ℕ → List ℕ
struck_from n [] = []
struck_from (suc n) (b ∷ bs) = struck_from n bs
struck_from zero (b ∷ bs) = elim (lane_length (b ∷ bs)) [ zero ↦ b ∷ struck_from zero bs | suc n ↦ struck_from n bs ]

unfoldable pub struck : List ℕ → List ℕ
struck bs = struck_from 0 bs

-- two answers: refused on one line with one number, or listed, with equal bytes once ` lane=L` is struck
pub data SameReply : Reply → Reply → Type 0 where
  both_refused : {n code : ℕ} → SameReply (refused n code) (refused n code)
  both_listed : {text other : List ℕ} → struck text ≡ struck other → SameReply (listed text) (listed other)

-- the sentence on jobs
abbrev pub SameJobs : ℕ → List ℕ → List ℕ → Type 0
SameJobs room job other = SameButLanes job other → NotTooLong room job → NotTooLong room other → SameReply (reply room job) (reply room other)

-- the listing as it was before lanes, without that field: it is what striking leaves of a listing (`struck_listing` in Listings)
unfoldable pub plain_line : ℕ → Entry → ℕ → List ℕ
plain_line index e written =
    field word_order index
    ++ (field word_added e.item.added ++ (field word_accepted e.item.accepted ++ (field word_parallelism e.parallelism ++ line word_written written)))

unfoldable pub plain_lines : ℕ → List Entry → List ℕ → List ℕ
plain_lines n [] written = []
plain_lines n (e ∷ es) written = plain_line n e (get_or written e.item.added 0) ++ plain_lines (suc n) es written

unfoldable pub plain_listing : ℕ → Model → List ℕ
plain_listing P k =
    line word_status 0
    ++ (line word_entries (length k.guide.order)
    ++ (line word_places k.recorded.places
    ++ (line word_floor (floor P k.guide.order)
    ++ (line word_median (median (tally P k.guide.order)) ++ plain_lines 0 k.guide.order k.recorded.written))))
